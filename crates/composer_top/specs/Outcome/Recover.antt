-- The outcome of `recover`, and what it does to the tree.
use Rattle.std.specs.Prelude.{◌≡◌, ℕ, List, false, None, Result, Ok, Err, IsTrue, IfOk, IfErr, is_ok}
use Rattle.tree_dev.specs.Trees.{FileTree}
use Rattle.tree_dev.specs.Device.{Meaning, OfTold, OnlyRead, Rose}
use Rattle.tree_dev.specs.Steady.{EachImage}
use Rattle.install_world.specs.InFlight.{Files, IsInFlight}
use Rattle.install_world.specs.Recovery.{CanRecover, recovered_in}
use Rattle.install_commands.specs.Recovering.{AnswersDue, IsRecoveryRefused, Recovers, is_unread, recovery_line}
use Rattle.run_answers.specs.Faults.{is_device_fault, is_free}
use Rattle.run_answers.specs.declared.refusal.Refusal.{Refusal}
use Rattle.composer_top.specs.declared.report.Report.{Report}

-- What `recover` may answer over a tree t, where it leaves what is told afterwards: the refusal that is due before anything is
-- done; else the line for what is to be done there, which ends well, or a refusal that comes on the way.
abbrev pub IsRecovery : FileTree → Meaning → List (List ℕ) → Result Report Refusal → Type 0
IsRecovery t now project (Ok report) = (recovery_line (recovered_in project t) ≡ report.lines) × (report.end ≡ None) × AnswersDue {X = Report} project t (Ok report)
IsRecovery t now project (Err refusal) = IsRecoveryRefused project t now refusal × AnswersDue {X = Report} project t (Err refusal)

-- What recovery does, by its answer. A journal that is bad or too long is looked at, and nothing else is done. Of what an install
-- leaves nothing is refused, but for a fault of the device and want of memory.
pub record Recovery (project : List (List ℕ)) (before now : Meaning) (answer : Result Report Refusal) : Type 0 where
  pub recovers : Recovers project before now (is_ok answer)
  pub ends_well : IfOk answer (λ report. report.end ≡ None)
  pub unchanged : IsTrue (is_unread answer) → OnlyRead before now false
  pub fits : OfTold before (λ t. (surroundings : FileTree) (old new : Files) → EachImage before (IsInFlight project surroundings old new)
      → CanRecover project t → IfErr answer (λ refusal. IsTrue (is_free refusal)))
  pub device : IsTrue (is_device_fault answer) → Rose before.faults now.faults
