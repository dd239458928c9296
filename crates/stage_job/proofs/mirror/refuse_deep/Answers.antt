use Rattle.std.proofs.Common.{◌≡◌, ℕ, List, Option, Some, None, is_some, true, Err, refl, sym, ap, ◌∙◌}
use Rattle.tree_dev.specs.Trees.{entry_at, kind_at, kind_of}
use Rattle.tree_dev.specs.declared.entry.Entry.{Entry}
use Rattle.tree_dev.specs.declared.entry.Entry.TheVariants as entries
use Rattle.tree_dev.specs.declared.entry.Kind.TheVariants as kinds
use Rattle.tree_dev.specs.declared.limits.LimitKind.TheVariants as limits
use Rattle.stage_job.specs.Faults.{refused}
use Rattle.stage_job.specs.Checked.{deep_checked}
use Rattle.stage_job.specs.declared.fault.StageFault.TheVariants as faults
use Rattle.stage_job.proofs.mirror.refuse_deep.Goals as goal

not_absent : (e : Option Entry) → kinds.Absent ≡ kind_of e → is_some e ≡ true → ⊥
not_absent None is there = cc
not_absent (Some (entries.File bytes)) is there = cc
not_absent (Some entries.Folder) is there = cc
not_absent (Some entries.Other) is there = cc

other : (e : Option Entry) (at : List (List ℕ)) (left : ℕ) → kinds.Other ≡ kind_of e → deep_checked at e left ≡ Err (faults.OtherEntry at)
other None at left is = absurd cc
other (Some (entries.File bytes)) at left is = absurd cc
other (Some entries.Folder) at left is = absurd cc
other (Some entries.Other) at left is = refl

file : (e : Option Entry) (at : List (List ℕ)) (left : ℕ) → kinds.File ≡ kind_of e → deep_checked at e left ≡ Err (faults.Limit (limits.Depth at))
file None at left is = absurd cc
file (Some (entries.File bytes)) at left is = refl
file (Some entries.Folder) at left is = absurd cc
file (Some entries.Other) at left is = absurd cc

folder : (e : Option Entry) (at : List (List ℕ)) (left : ℕ) → kinds.Folder ≡ kind_of e → deep_checked at e left ≡ Err (faults.Limit (limits.Depth at))
folder None at left is = absurd cc
folder (Some (entries.File bytes)) at left is = absurd cc
folder (Some entries.Folder) at left is = refl
folder (Some entries.Other) at left is = absurd cc

pub returns-in_ok-copy-in-Absent-clause-answer : goal.returns-in_ok-copy-in-Absent-clause-answer
unfolding kind_at
returns-in_ok-copy-in-Absent-clause-answer g c = λ t told left.
    absurd (not_absent (entry_at t c.args.at.now) (sym c.in-Absent.is ∙ c.in_ok-stat.ensures.kind t told) (c.requires.there t told))

pub returns-in_ok-copy-in-Other-clause-answer : goal.returns-in_ok-copy-in-Other-clause-answer
unfolding kind_at
returns-in_ok-copy-in-Other-clause-answer g c = λ t told left. other (entry_at t c.args.at.now) c.args.at.now left (sym c.in-Other.is ∙ c.in_ok-stat.ensures.kind t told)
    ∙ ap (λ (p : List (List ℕ)). refused (faults.OtherEntry p)) (sym c.in_ok-copy-in-Other.ensures)

pub returns-in_ok-copy-in-File-clause-answer : goal.returns-in_ok-copy-in-File-clause-answer
unfolding kind_at
returns-in_ok-copy-in-File-clause-answer g c = λ t told left. file (entry_at t c.args.at.now) c.args.at.now left (sym c.in-File.is ∙ c.in_ok-stat.ensures.kind t told)
    ∙ ap (λ (p : List (List ℕ)). refused (faults.Limit (limits.Depth p))) (sym c.in_ok-copy-in-File.ensures)

pub returns-in_ok-copy-in-Folder-clause-answer : goal.returns-in_ok-copy-in-Folder-clause-answer
unfolding kind_at
returns-in_ok-copy-in-Folder-clause-answer g c = λ t told left.
    folder (entry_at t c.args.at.now) c.args.at.now left (sym c.in-Folder.is ∙ c.in_ok-stat.ensures.kind t told)
    ∙ ap (λ (p : List (List ℕ)). refused (faults.Limit (limits.Depth p))) (sym c.in_ok-copy-in-Folder.ensures)
