-- What a command that answered its lines has made.
use Rattle.std.proofs.Common.{◌≡◌, ℕ, Bool, true, false, cond, List, Option, Some, None, is_some, Result, Ok, Err, subst, inl, inr, refl}
use Rattle.std.specs.FinMap as maps
use Rattle.tree_dev.specs.Device.{Meaning}
use Rattle.tree_dev.specs.Projects.{file_at, work_path}
use Rattle.tree_dev.specs.Trees.{FileTree, has_folder}
use Rattle.tree_dev.specs.declared.entry.Entry.{Entry}
use Rattle.tree_dev.specs.declared.limits.TheConstants.{ENTRIES}
use Rattle.composer_words.specs.declared.chosen.Ways.{Ways}
use Rattle.run_answers.specs.Steps.{TellsOne}
use Rattle.run_answers.specs.declared.refusal.Refusal.{Refusal}
use Rattle.run_answers.specs.declared.refusal.Refusal.TheVariants as refusals
use Rattle.install_choice.proofs.Steps.{both_ok}
use Rattle.install_commands.specs.Claiming.{claim_in, with_claim}
use Rattle.install_commands.specs.Commanded.{Commanded, IsLeft, files_made}
use Rattle.install_commands.specs.Working.{IsInstalled, committed_in, worked_in}
use Rattle.install_commands.specs.declared.work.Work.{Work}
use Rattle.install_commands.proofs.Flights.{files_of_work}
use Rattle.install_world.specs.InFlight.{Files}
use Rattle.stage_job.specs.Jobs.{job_result}
use Rattle.install_packages.specs.Installations.{HasNewProject}
use Rattle.install_packages.specs.Installing.{IsInstall, IsUpdate}
use Rattle.install_packages.proofs.Unrolled.{install_unrolled, update_unrolled}

-- nothing stood at `.install` where the claim passed, and the project is a folder
claimed_from : (t : FileTree) (at : List (List ℕ)) (passed : Unit {0}) → claim_in t at ≡ Ok passed → (maps.get t (work_path at) ≡ None) × (has_folder t (Some at) ≡ true)
unfolding claim_in
claimed_from t at passed e = by (maps.get t (work_path at)) (has_folder t (Some at)) e
  where
    by : (entry : Option Entry) (folder : Bool) → ◌≡◌ {A = Result (Unit {0}) Refusal} (cond (is_some entry) (Err refusals.Unfinished) (cond folder (Ok tt) (Err refusals.NoManifest))) (Ok passed)
        → (entry ≡ None) × (folder ≡ true)
    by None true f = (refl, refl)
    by None false f = absurd cc
    by (Some entry) folder f = absurd cc

-- The work that was committed, and its files.
pub record IsDone (IsMade : FileTree → ℕ → Result Work Refusal → Type 0) (at : List (List ℕ)) (start u : FileTree) : Type 0 where
  pub folder : has_folder start (Some at) ≡ true
  pub unclaimed : maps.get start (work_path at) ≡ None
  pub after : ℕ
  pub work : Work
  pub is_made : IsMade (with_claim at start) after (Ok work)
  pub stands : IsInstalled at start (job_result at (with_claim at start) work.job.parts (file_at start)) u

passes : (t : FileTree) (at : List (List ℕ)) (passed : Unit {0}) → claim_in t at ≡ Ok passed → claim_in t at ≡ Ok tt
passes t at tt e = e

-- a tree that was left has what was made
pub stands_left : (IsMade : FileTree → ℕ → Result Work Refusal → Type 0) (at : List (List ℕ)) (start u : FileTree) (before now : Meaning) (lines : List ℕ)
    → (run : Commanded IsMade at start before now (Ok lines)) → IsLeft at start before now u → IsInstalled at start (files_made at start run.left run.made) u
stands_left IsMade at start u before now lines run (inl told) = run.new_stands u told
stands_left IsMade at start u before now lines run (inr held) = run.settled held.0 u held.1

pub done : (IsMade : FileTree → ℕ → Result Work Refusal → Type 0) (at : List (List ℕ)) (start u : FileTree) (before now : Meaning) (lines : List ℕ) → Commanded IsMade at start before now (Ok lines)
    → IsLeft at start before now u → IsDone IsMade at start u
unfolding worked_in
done IsMade at start u before now lines run is_left =
    let claim = both_ok (claim_in start at) (λ passed. worked_in at (with_claim at start) run.left run.made) lines run.told in
    let from = claimed_from start at claim.0 claim.1 in
    let work = both_ok run.made (committed_in at (with_claim at start) run.left) lines claim.2 in
    let files = subst (λ (made : Result Work Refusal). IsInstalled at start (files_made at start run.left made) u) work.1 (stands_left IsMade at start u before now lines run is_left) in
    record {
      folder = from.1;
      unclaimed = from.0;
      after = run.left;
      work = work.0;
      is_made = subst (TellsOne (λ work. work) (IsMade (with_claim at start) run.left)) work.1 (run.is_made (passes start at claim.0 claim.1));
      stands = subst (λ (some : Files). IsInstalled at start some u) (files_of_work at start (with_claim at start) run.left work.0 lines work.2) files;
    }

pub installed : (at : List (List ℕ)) (ways : Ways) (start u : FileTree) (before now : Meaning) (lines : List ℕ) → Commanded (IsInstall at ways ENTRIES) at start before now (Ok lines)
    → IsLeft at start before now u → HasNewProject at ways start u
installed at ways start u before now lines run is_left =
    let end = done (IsInstall at ways ENTRIES) at start u before now lines run is_left in
    let steps = install_unrolled at ways ENTRIES end.after (with_claim at start) end.work end.is_made in
    record { folder = end.folder; unclaimed = end.unclaimed; choice = steps.0; is_chosen = inl steps.1; after = end.after; work = end.work; made = steps.2; stands = end.stands }

pub updated : (at : List (List ℕ)) (ways : Ways) (start u : FileTree) (before now : Meaning) (lines : List ℕ) → Commanded (IsUpdate at ways ENTRIES) at start before now (Ok lines)
    → IsLeft at start before now u → HasNewProject at ways start u
updated at ways start u before now lines run is_left =
    let end = done (IsUpdate at ways ENTRIES) at start u before now lines run is_left in
    let steps = update_unrolled at ways ENTRIES end.after (with_claim at start) end.work end.is_made in
    record { folder = end.folder; unclaimed = end.unclaimed; choice = steps.0; is_chosen = inr steps.1; after = end.after; work = end.work; made = steps.2; stands = end.stands }
