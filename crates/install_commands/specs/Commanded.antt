-- What a command does that changes a project under its claim: what it answers, and what becomes of the project.
use Rattle.std.specs.Prelude.{◌≡◌, ◌≤◌, ◌⊎◌, ℕ, List, false, Some, None, Result, Ok, Err, IfErr, IfOk, OnOk}
use Rattle.std.specs.FinMap as map
use Rattle.path_name.specs.Given.{◌>>=◌}
use Rattle.tree_dev.specs.Trees.{FileTree, IsTree}
use Rattle.tree_dev.specs.Device.{Meaning, OfTold}
use Rattle.tree_dev.specs.Disk.{IsImage}
use Rattle.tree_dev.specs.Projects.{file_at, work_path}
use Rattle.tree_dev.specs.Steady.{EachImage, IsSteadily, Through}
use Rattle.install_world.specs.InFlight.{Files, IsInFlight}
use Rattle.stage_job.specs.Written.{after_more}
use Rattle.run_answers.specs.Faults.{is_free}
use Rattle.run_answers.specs.Steps.{Tells, TellsOne, is_free_result}
use Rattle.run_answers.specs.declared.refusal.Refusal.{Refusal}
use Rattle.install_commands.specs.Claiming.{claim_in, with_claim}
use Rattle.install_commands.specs.Working.{IsInstalled, files_after, worked_in, writes_of}
use Rattle.install_commands.specs.declared.work.Work.{Work}

-- The files of the project once a work is committed, those of before where none is.
abbrev pub files_made : List (List ℕ) → FileTree → ℕ → Result Work Refusal → Files
files_made project t left made = files_after project t (with_claim project t) left made

-- The lines of a work, or the first refusal: that of the claim, that of the work itself, or that of staging it.
abbrev pub outcome_of_work : List (List ℕ) → FileTree → ℕ → Result Work Refusal → Result (List ℕ) Refusal
outcome_of_work project t left made = claim_in t project >>= λ passed. worked_in project (with_claim project t) left made

-- A command whose work in the claimed tree is this, with so many entries that may still be listed behind it, in a project of a
-- tree t that is told. Where t's project, t's surroundings and no journal are all that a crash may leave at the start (images
-- are steadily t's), a crash at any moment leaves a tree on the way from t's project to that of the work, or one of both.
pub record Commanded (IsMade : FileTree → ℕ → Result Work Refusal → Type 0) (project : List (List ℕ)) (t : FileTree) (before now : Meaning) (result : Result (List ℕ) Refusal) : Type 0 where
  pub made : Result Work Refusal
  pub left : ℕ
  -- what was made under the claim, unless the device failed or memory ran out
  pub is_made : claim_in t project ≡ Ok tt → TellsOne (λ work. work) (IsMade (with_claim project t) left) made
  -- work is made under the claim alone
  pub held : IfOk made (λ work. claim_in t project ≡ Ok tt)
  -- and the tree with it was told, which is one
  pub tree : IfOk made (λ work. IsTree (with_claim project t))
  -- the lines, or the first refusal, unless the device failed or memory ran out
  pub told : Tells (λ lines. lines) (outcome_of_work project t left made) result
  -- at every moment of the run
  pub through : EachImage before (IsSteadily project t) → Through before now (IsInFlight project t (file_at t) (files_made project t left made))
  -- after Ok
  pub settled : OnOk result (EachImage before (IsSteadily project t) → EachImage now (IsInstalled project t (files_made project t left made)))
  -- after a refusal
  pub refused : IfErr result (λ refusal. is_free refusal ≡ false → EachImage before (IsSteadily project t) → EachImage now (IsInstalled project t (file_at t)))
  -- In the tree that is told they stand so whatever a crash may leave at the start: the new project after Ok, and that of t after a
  -- refusal behind the claim.
  pub new_stands : OnOk result (OfTold now (IsInstalled project t (files_made project t left made)))
  pub old_stands : claim_in t project ≡ Ok tt → IfErr result (λ refusal. is_free refusal ≡ false → OfTold now (IsInstalled project t (file_at t)))
  -- the claim is gone where there was one
  pub released : claim_in t project ≡ Ok tt → is_free_result result ≡ false → OfTold now (λ u. map.get u (work_path project) ≡ None)
  -- nothing was changed where there was none
  pub unclaimed : (refusal : Refusal) → claim_in t project ≡ Err refusal → is_free_result result ≡ false → now.told ≡ before.told
  -- at most one file is written for each that the parts of the work put, and one for the journal
  pub writes : now.writes ≤ after_more before.writes (writes_of (with_claim project t) made)

-- A tree that a command has left: the one that is told; and, where t's project, t's surroundings and no journal were all that a crash
-- might leave at the start, each that a crash may leave now.
abbrev pub IsLeft : List (List ℕ) → FileTree → Meaning → Meaning → FileTree → Type 0
IsLeft project t before now u = (now.told ≡ Some u) ⊎ (EachImage before (IsSteadily project t) × IsImage now.disks.now u)
