use Rattle.std.proofs.Common.{sym, ap, ◌∙◌, inl, inr}
use Rattle.tree_dev.specs.declared.limits.LimitKind.TheVariants as limits
use Rattle.class_walk.proofs.ReadAnswers.{none_at, other_at, file_at, folder_at}
use Rattle.class_walk.proofs.entry.refuse_deep.Goals as goal

pub returns-in_ok-copy-in-Absent-clause-answer : goal.returns-in_ok-copy-in-Absent-clause-answer
returns-in_ok-copy-in-Absent-clause-answer g c = λ t told. (none_at t c.args.at.now (sym c.in-Absent.is ∙ c.in_ok-stat.ensures.kind t told))

pub returns-in_ok-copy-in-Other-clause-answer : goal.returns-in_ok-copy-in-Other-clause-answer
returns-in_ok-copy-in-Other-clause-answer g c = λ t told. (c.in_ok-copy-in-Other.ensures, (other_at t c.args.at.now (sym c.in-Other.is ∙ c.in_ok-stat.ensures.kind t told)))

pub returns-in_ok-copy-in-File-clause-answer : goal.returns-in_ok-copy-in-File-clause-answer
returns-in_ok-copy-in-File-clause-answer g c = λ t told. (ap limits.Depth c.in_ok-copy-in-File.ensures, inr (file_at t c.args.at.now (sym c.in-File.is ∙ c.in_ok-stat.ensures.kind t told)))

pub returns-in_ok-copy-in-Folder-clause-answer : goal.returns-in_ok-copy-in-Folder-clause-answer
returns-in_ok-copy-in-Folder-clause-answer g c = λ t told. (ap limits.Depth c.in_ok-copy-in-Folder.ensures, inl (folder_at t c.args.at.now (sym c.in-Folder.is ∙ c.in_ok-stat.ensures.kind t told)))
