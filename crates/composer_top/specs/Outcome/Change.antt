-- The outcome of a command that changes a project under its claim, and what it does to the tree.
use Rattle.std.specs.Prelude.{◌≡◌, ℕ, List, None, Result, Ok, Err, IsTrue, IfOk}
use Rattle.tree_dev.specs.Trees.{FileTree}
use Rattle.tree_dev.specs.Device.{Meaning, OfTold, Rose}
use Rattle.run_answers.specs.Faults.{is_device_fault}
use Rattle.run_answers.specs.declared.refusal.Refusal.{Refusal}
use Rattle.install_commands.specs.Claiming.{claim_in, with_claim}
use Rattle.install_commands.specs.Commanded.{Commanded, outcome_of_work}
use Rattle.install_commands.specs.declared.work.Work.{Work}
use Rattle.composer_top.specs.declared.report.Report.{Report}

-- the lines of an answer
abbrev pub lines_of : Result Report Refusal → Result (List ℕ) Refusal
lines_of (Ok report) = Ok report.lines
lines_of (Err refusal) = Err refusal

-- What a command may answer over a tree t whose work in the claimed tree is this: the lines of the work, which end well, or the
-- first refusal from the claim on.
pub record IsChange (IsMade : FileTree → ℕ → Result Work Refusal → Type 0) (t : FileTree) (project : List (List ℕ)) (answer : Result Report Refusal) : Type 0 where
  pub made : Result Work Refusal
  pub left : ℕ
  pub is_made : claim_in t project ≡ Ok tt → IsMade (with_claim project t) left made
  pub lines : outcome_of_work project t left made ≡ lines_of answer
  pub ends_well : IfOk answer (λ report. report.end ≡ None)

-- What such a command does, by its answer.
pub record Changes (IsMade : FileTree → ℕ → Result Work Refusal → Type 0) (project : List (List ℕ)) (before now : Meaning) (answer : Result Report Refusal) : Type 0 where
  pub commanded : OfTold before (λ t. Commanded IsMade project t before now (lines_of answer))
  pub device : IsTrue (is_device_fault answer) → Rose before.faults now.faults
