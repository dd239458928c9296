-- What a run ends with, over a tree that is told, where no device failed.
use Rattle.std.specs.Prelude.{◌≡◌, ℕ, List, Some, None, Option, Result}
use Rattle.tree_dev.specs.Trees.{FileTree}
use Rattle.tree_dev.specs.Device.{Meaning, Rose}
use Rattle.tree_dev.specs.Sinks.{Takes}
use Rattle.run_answers.specs.declared.refusal.Refusal.{Refusal}
use Rattle.composer_top.specs.Chosen.{chosen_in}
use Rattle.composer_top.specs.Outcome.{Ends, EndsBehind, IsOutcome, Outputs, is_free_status, reply_of}
use Rattle.composer_top.specs.Outcome.Install.{WarnsChosen}
use Rattle.composer_top.specs.declared.report.Report.{Report}

-- What `run` says of its end over a tree t that is told: it ends with an outcome, and with 8 only where the tree failed.
pub record HasRun (t : FileTree) (before now : Meaning) (words : List (List ℕ)) (outputs : Outputs) (status : ℕ) : Type 0 where
  pub answer : EndsBehind outputs (WarnsChosen t (chosen_in words) (is_free_status status)) (λ some. Ends some (IsOutcome t now words) status)
  pub device : status ≡ 8 → Rose before.faults now.faults

-- Neither the tree nor `out` failed.
pub record NothingFailed (before now : Meaning) (outputs : Outputs) : Type 0 where
  pub tree : Rose before.faults now.faults → ⊥
  pub out : Rose outputs.out_before.faults outputs.out_now.faults → ⊥

-- The run replied with this outcome: the status is its own, and `out` took its lines.
pub record Replies (t : FileTree) (now : Meaning) (words : List (List ℕ)) (outputs : Outputs) (status : ℕ) (outcome : Result Report Refusal) : Type 0 where
  pub is_outcome : IsOutcome t now words outcome
  pub ended : status ≡ (reply_of outcome).status
  pub lines : Takes outputs.out_before outputs.out_now (reply_of outcome).out

-- 0 where a report ends well, and 1 where it ends with what was found
abbrev pub IsStatusOf : Option Refusal → ℕ → Type 0
IsStatusOf None status = status ≡ 0
IsStatusOf (Some found) status = status ≡ 1
