use Rattle.std.proofs.Common.{sym, ◌∙◌}
use Rattle.class_walk.proofs.ReadAnswers.{none_at, other_at, file_at, folder_at}
use Rattle.class_walk.proofs.entry.is_listed.Goals as goal

pub returns-in_ok-copy-in-Absent-clause-answer : goal.returns-in_ok-copy-in-Absent-clause-answer
returns-in_ok-copy-in-Absent-clause-answer g c = λ t told. (none_at t c.args.at.now (sym c.in-Absent.is ∙ c.in_ok-stat.ensures.kind t told))

pub returns-in_ok-copy-in-Other-clause-answer : goal.returns-in_ok-copy-in-Other-clause-answer
returns-in_ok-copy-in-Other-clause-answer g c = λ t told. (c.in_ok-copy-in-Other.ensures, (other_at t c.args.at.now (sym c.in-Other.is ∙ c.in_ok-stat.ensures.kind t told)))

pub returns-in-File-clause-answer : goal.returns-in-File-clause-answer
returns-in-File-clause-answer g c = λ t told. (file_at t c.args.at.now (sym c.in-File.is ∙ c.in_ok-stat.ensures.kind t told))

pub returns-in-Folder-clause-answer : goal.returns-in-Folder-clause-answer
returns-in-Folder-clause-answer g c = λ t told. (folder_at t c.args.at.now (sym c.in-Folder.is ∙ c.in_ok-stat.ensures.kind t told))
