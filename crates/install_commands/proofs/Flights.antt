-- What each moment of a command is on the way to.
use Rattle.std.proofs.Common.{◌≡◌, ℕ, List, Ok, refl, sym, ap, ◌∙◌, subst, inl, inr}
use Rattle.tree_dev.specs.Trees.{FileTree}
use Rattle.tree_dev.specs.Device.{Meaning}
use Rattle.tree_dev.specs.Projects.{file_at}
use Rattle.tree_dev.specs.Steady.{EachImage, IsSteadily, Steady, Through}
use Rattle.tree_dev.proofs.Stretches.{through_ends}
use Rattle.install_world.specs.InFlight.{Files, IsInFlight}
use Rattle.install_world.specs.Moving.{Way}
use Rattle.install_world.specs.Recovery.{IsNewProject}
use Rattle.stage_job.specs.Jobs.{job_result}
use Rattle.stage_job.specs.Staged.{IsStagedJob}
use Rattle.stage_job.specs.declared.job.Part.{Part}
use Rattle.vendor_journal.specs.Committing.{IsReady}
use Rattle.vendor_journal.specs.JobTargets.{install_way, journal_for, puts_of}
use Rattle.vendor_journal.specs.Prepared.{IsPrepared}
use Rattle.vendor_journal.specs.declared.prepared.Prepared.{Prepared}
use Rattle.vendor_journal.proofs.InstallSteps.{stays_new}
use Rattle.vendor_journal.proofs.JobMoves.{moved_is_job, staged_targets}
use Rattle.install_commands.specs.Working.{IsInstalled, committed_in, files_after, files_by}
use Rattle.install_commands.specs.declared.work.Work.{Work}

-- ---- while nothing is committed

module _ (project : List (List ℕ)) (start : FileTree) (begun now : Meaning) (each : EachImage begun (IsSteadily project start)) (steady : Steady project begun now) where
  pub steady_in_flight : (new : Files) → Through begun now (IsInFlight project start (file_at start) new)
  steady_in_flight new = record {
    later = steady.later;
    each = λ left since.
        let is = steady.each start each left since in
        record {
          outside = record { each = is.surroundings };
          state = inl (record { absent = is.no_journal }, inl (record { each = is.project_files }));
        };
    faults = steady.faults;
  }

  pub steady_stays : EachImage now (IsInstalled project start (file_at start))
  steady_stays = λ left image.
      let is = through_ends (IsSteadily project start) begun now (record { later = steady.later; each = steady.each start each; faults = steady.faults }) left image in
      record { no_journal = record { absent = is.no_journal }; has_files = record { each = is.project_files }; outside = record { each = is.surroundings } }

-- ---- a commit that begins with what is told

-- Whatever stands, a job that is staged and prepared leads from it to what the job makes of it.
pub ready_here : (project : List (List ℕ)) (t u : FileTree) (parts : List Part) (generation : ℕ) (prepared : Prepared) → IsStagedJob project parts t u
    → IsPrepared project (journal_for parts generation) prepared → IsReady (install_way project u t parts generation) (puts_of t parts) prepared u
ready_here project t u parts generation prepared job made = record {
  made_ready = made;
  job = staged_targets project t u parts job;
  old_files = record { each = λ path part. refl };
  outside = record { each = λ path out. refl };
  new_files = refl;
}

-- ---- what a commit makes

way_files : (project : List (List ℕ)) (start t : FileTree) (parts : List Part) (generation : ℕ)
    → (install_way project start t parts generation).new ≡ job_result project t parts (file_at start)
way_files project start t parts generation = λ i path. moved_is_job project t (file_at start) path parts i

pub files_of_work : (project : List (List ℕ)) (start t : FileTree) (left : ℕ) (work : Work) (lines : List ℕ) → committed_in project t left work ≡ Ok lines
    → files_after project start t left (Ok work) ≡ job_result project t work.job.parts (file_at start)
unfolding files_after
files_of_work project start t left work lines passes = ap (files_by project start t work) passes

pub new_files : (project : List (List ℕ)) (start t : FileTree) (left : ℕ) (work : Work) (lines : List ℕ) → committed_in project t left work ≡ Ok lines
    → (install_way project start t work.job.parts work.generation).new ≡ files_after project start t left (Ok work)
new_files project start t left work lines passes = way_files project start t work.job.parts work.generation ∙ sym (files_of_work project start t left work lines passes)

pub new_is_installed : (project : List (List ℕ)) (start t : FileTree) (parts : List Part) (generation : ℕ) (files : Files) (now : Meaning)
    → (install_way project start t parts generation).new ≡ files → EachImage now (IsNewProject (install_way project start t parts generation))
    → EachImage now (IsInstalled project start files)
new_is_installed project start t parts generation files now same each = λ left image.
    let is = each left image in
    subst (λ (f : Files). IsInstalled project start f left) same (record { no_journal = is.no_journal; has_files = is.files; outside = is.outside })

-- ---- while the claim of a commit is released

pub new_in_flight : (way : Way) (committed released : Meaning) → EachImage committed (IsNewProject way) → Steady way.project committed released
    → Through committed released (IsInFlight way.project way.surroundings way.old way.new)
new_in_flight way committed released each steady =
    let stays = stays_new way committed released each steady in
    record {
      later = stays.later;
      each = λ left since.
          let is = stays.each left since in
          record { outside = is.outside; state = inl (is.no_journal, inr is.files) };
      faults = stays.faults;
    }

pub new_stays : (way : Way) (committed released : Meaning) → EachImage committed (IsNewProject way) → Steady way.project committed released → EachImage released (IsNewProject way)
new_stays way committed released each steady = through_ends (IsNewProject way) committed released (stays_new way committed released each steady)
