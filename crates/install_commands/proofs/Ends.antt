-- What becomes of a command's work: made ready and committed, or refused, and then released.
use Rattle.std.proofs.Common.{◌≡◌, ◌≢◌, ℕ, Bool, false, List, [], ◌∷◌, Some, Result, Ok, Err, IsTrue, refl, sym, ap, ◌∙◌, subst, inl, inr}
use Rattle.std.proofs.lemmas.Bool.{false≢true}
use Rattle.std.specs.Prelude.{◌⊎◌, ◌≤◌, IfErr, OnOk}
use Rattle.std.specs.FinMap as map
use Rattle.path_name.specs.Given.{◌>>=◌}
use Rattle.tree_dev.specs.Trees.{FileTree}
use Rattle.tree_dev.specs.Device.{Meaning, Rose}
use Rattle.tree_dev.specs.Projects.{file_at, work_path}
use Rattle.tree_dev.specs.Steady.{EachImage, IsSteadily, Steady, Through}
use Rattle.tree_dev.specs.declared.entry.Entry.TheVariants as entries
use Rattle.tree_dev.proofs.Stretches.{through_on}
use Rattle.install_world.specs.InFlight.{Files, IsInFlight}
use Rattle.install_world.specs.Moving.{Way}
use Rattle.install_world.specs.Recovery.{IsNewProject}
use Rattle.install_world.specs.JournalText.{journal_text}
use Rattle.install_world.specs.declared.version.Version.TheVariants.{Two}
use Rattle.stage_job.specs.Checked.{job_checked}
use Rattle.stage_job.specs.Jobs.{job_result}
use Rattle.stage_job.specs.declared.job.Part.{Part}
use Rattle.stage_job.specs.Staged.{IsClaimed, IsStagedJob, Staging}
use Rattle.vendor_journal.specs.Committing.{IsReady}
use Rattle.vendor_journal.specs.JobTargets.{install_way, journal_for, puts_of}
use Rattle.vendor_journal.specs.Prepared.{IsPrepared}
use Rattle.vendor_journal.specs.declared.prepared.Prepared.{Prepared}
use Rattle.vendor_journal.proofs.InstallSteps.{ready}
use Rattle.run_answers.specs.Faults.{is_free, is_of_device}
use Rattle.run_answers.specs.Steps.{Tells, is_free_result}
use Rattle.run_answers.specs.declared.refusal.Refusal.{Refusal}
use Rattle.install_commands.specs.Refusals.{or_not_staged}
use Rattle.install_commands.specs.Working.{IsInstalled, committed_in, files_after, journal_fits, text_fits, worked_in}
use Rattle.install_commands.specs.declared.work.Work.{Work}
use Rattle.install_commands.proofs.Faults.{rose_after, rose_before}
use Rattle.install_commands.proofs.Flights.{files_of_work, new_files, new_is_installed, ready_here, steady_in_flight}

-- ---- what is answered of a work

committed_by : Result ℕ Refusal → Result (Unit {0}) Refusal → List ℕ → Result (List ℕ) Refusal
committed_by staged fits lines = staged >>= λ rest. fits >>= λ passed. Ok lines

committed_of : List (List ℕ) → FileTree → ℕ → ℕ → List ℕ → List Part → Result (List ℕ) Refusal
committed_of project t left generation lines parts = committed_by (or_not_staged (job_checked project t parts left)) (journal_fits project parts generation) lines

committed_is : (project : List (List ℕ)) (t : FileTree) (left : ℕ) (work : Work)
    → committed_in project t left work ≡ committed_by (or_not_staged (job_checked project t work.job.parts left)) (journal_fits project work.job.parts work.generation) work.lines
unfolding committed_in committed_by
committed_is project t left work = refl

-- a job without parts
committed_nothing : (project : List (List ℕ)) (t : FileTree) (left generation : ℕ) (lines : List ℕ) → committed_of project t left generation lines [] ≡ Ok lines
unfolding committed_of committed_by job_checked
committed_nothing project t left generation lines = refl

committed_parts : (project : List (List ℕ)) (t : FileTree) (left : ℕ) (work : Work) → committed_in project t left work ≡ committed_of project t left work.generation work.lines work.job.parts
unfolding committed_of
committed_parts project t left work = committed_is project t left work

pub unchanged : (project : List (List ℕ)) (t : FileTree) (left : ℕ) (work : Work) → work.job.parts ≡ [] → committed_in project t left work ≡ Ok work.lines
unchanged project t left work none =
    committed_parts project t left work ∙ ap (committed_of project t left work.generation work.lines) none ∙ committed_nothing project t left work.generation work.lines

job_of_nothing : (project : List (List ℕ)) (t : FileTree) (old : Files) → job_result project t [] old ≡ old
unfolding job_result
job_of_nothing project t old = λ i path. old path

pub unchanged_files : (project : List (List ℕ)) (start t : FileTree) (left : ℕ) (work : Work) → work.job.parts ≡ [] → files_after project start t left (Ok work) ≡ file_at start
unchanged_files project start t left work none =
    files_of_work project start t left work work.lines (unchanged project t left work none) ∙ ap (λ (parts : List Part). job_result project t parts (file_at start)) none
    ∙ job_of_nothing project t (file_at start)

-- a job with parts has a journal
pub has_journal : (project : List (List ℕ)) (parts : List Part) (generation : ℕ) → parts ≢ [] → journal_fits project parts generation ≡ text_fits project (journal_text Two (journal_for parts generation))
has_journal project [] generation some = absurd (some refl)
has_journal project (part ∷ parts) generation some = refl

-- a job that can't be staged
pub not_staged : (project : List (List ℕ)) (t : FileTree) (left : ℕ) (work : Work) (refusal : Refusal)
    → or_not_staged (job_checked project t work.job.parts left) ≡ Err refusal → committed_in project t left work ≡ Err refusal
unfolding committed_by
not_staged project t left work refusal is =
    committed_is project t left work ∙ ap (λ (staged : Result ℕ Refusal). committed_by staged (journal_fits project work.job.parts work.generation) work.lines) is

pub not_staged_told : (project : List (List ℕ)) (t : FileTree) (left : ℕ) (work : Work) (refusal : Refusal)
    → IsTrue (is_free refusal) ⊎ (or_not_staged (job_checked project t work.job.parts left) ≡ Err refusal)
    → IsTrue (is_free refusal) ⊎ (committed_in project t left work ≡ Err refusal)
not_staged_told project t left work refusal (inl free) = inl free
not_staged_told project t left work refusal (inr is) = inr (not_staged project t left work refusal is)

-- one that can, and a journal that fits or doesn't
fits_is : (project : List (List ℕ)) (t : FileTree) (left rest : ℕ) (work : Work) (fits : Result (Unit {0}) Refusal)
    → or_not_staged (job_checked project t work.job.parts left) ≡ Ok rest → journal_fits project work.job.parts work.generation ≡ fits
    → committed_in project t left work ≡ committed_by (Ok rest) fits work.lines
fits_is project t left rest work fits staged is =
    committed_is project t left work ∙ ap (λ (s : Result ℕ Refusal). committed_by s (journal_fits project work.job.parts work.generation) work.lines) staged
    ∙ ap (λ (f : Result (Unit {0}) Refusal). committed_by (Ok rest) f work.lines) is

pub tells_lines : {X : Type 0} (project : List (List ℕ)) (t : FileTree) (left rest : ℕ) (work : Work) (result : Result X Refusal)
    → or_not_staged (job_checked project t work.job.parts left) ≡ Ok rest → Tells (λ made. tt) (journal_fits project work.job.parts work.generation) result
    → Tells (λ made. work.lines) (committed_in project t left work) result
unfolding committed_by
tells_lines project t left rest work (Ok made) staged fits = fits_is project t left rest work (Ok tt) staged fits
tells_lines project t left rest work (Err refusal) staged (inl free) = inl free
tells_lines project t left rest work (Err refusal) staged (inr fits) = inr (fits_is project t left rest work (Err refusal) staged fits)

pub worked : (project : List (List ℕ)) (t : FileTree) (left : ℕ) (made : Result Work Refusal) (work : Work) → made ≡ Ok work
    → worked_in project t left made ≡ committed_in project t left work
unfolding worked_in
worked project t left made work is = ap (λ (m : Result Work Refusal). m >>= committed_in project t left) is

pub not_made : (project : List (List ℕ)) (t : FileTree) (left : ℕ) (made : Result Work Refusal) (refusal : Refusal) → made ≡ Err refusal
    → worked_in project t left made ≡ Err refusal
unfolding worked_in
not_made project t left made refusal is = ap (λ (m : Result Work Refusal). m >>= committed_in project t left) is

-- a refusal that stays, or is free, after one that is wanted or free
pub refused_on : (wanted : Result (List ℕ) Refusal) (before now : Refusal) → IsTrue (is_free before) ⊎ (wanted ≡ Err before) → IsTrue (is_free now) ⊎ (now ≡ before)
    → IsTrue (is_free now) ⊎ (wanted ≡ Err now)
refused_on wanted before now told (inl free) = inl free
refused_on wanted before now (inl free) (inr same) = inl (subst (λ (r : Refusal). IsTrue (is_free r)) (sym same) free)
refused_on wanted before now (inr is) (inr same) = inr (is ∙ ap Err (sym same))

-- what is told of one answer is told of an equal one
pub told_as : {X : Type 0} (wanted before : Result X Refusal) (refusal : Refusal) → wanted ≡ before → IsTrue (is_free refusal) ⊎ (before ≡ Err refusal)
    → IsTrue (is_free refusal) ⊎ (wanted ≡ Err refusal)
told_as wanted before refusal same (inl free) = inl free
told_as wanted before refusal same (inr is) = inr (same ∙ is)

-- what holds whatever is answered
pub whether_ok : {X P : Type 0} (result : Result X Refusal) → P → OnOk result P
whether_ok (Ok x) holds = holds
whether_ok (Err refusal) holds = tt

pub whether_refused : {X : Type 0} (P : Refusal → Type 0) (result : Result X Refusal) → ((refusal : Refusal) → P refusal) → IfErr result P
whether_refused P (Ok x) holds = tt
whether_refused P (Err refusal) holds = holds refusal

-- where lines are wanted, they are what is answered, but for a free refusal
pub done_or_free : {Q : Type 0} (lines : List ℕ) (result : Result (List ℕ) Refusal) → Tells (λ given. given) (Ok lines) result → OnOk result Q → is_free_result result ≡ false → Q
done_or_free lines (Ok given) told done other = done
done_or_free lines (Err refusal) (inl free) done other = absurd (false≢true (sym other ∙ free))
done_or_free lines (Err refusal) (inr is) done other = absurd cc

-- ---- `.install` while a job is staged

pub still_claimed : (project : List (List ℕ)) (before now : Meaning) (failed : Bool) (t : FileTree) → Staging project before now failed → before.told ≡ Some t → IsClaimed project t
    → (u : FileTree) × (now.told ≡ Some u) × (map.get u (work_path project) ≡ Some entries.Folder)
still_claimed project before now failed t staging told claimed =
    let kept = staging.kept t told in
    (kept.0, kept.1, kept.2.claim claimed.folder)

-- ---- a commit

module _ (project : List (List ℕ)) (t u : FileTree) (work : Work) (prepared : Prepared) (staged now : Meaning) (job : IsStagedJob project work.job.parts t u)
    (alone : EachImage staged (λ left. left ≡ u)) (made : IsPrepared project (journal_for work.job.parts work.generation) prepared) where
  -- what is said of each way is so of one from where the tree stands
  pub commit_here : (P : Type 0)
      → ((way : Way) (puts : ℕ → Files) → way.project ≡ project → IsReady way puts prepared u → EachImage staged (λ left. left ≡ u) → P) → P
  commit_here P says =
      says (install_way project u t work.job.parts work.generation) (puts_of t work.job.parts) refl
      (ready_here project t u work.job.parts work.generation prepared job made) alone

  module _ (start : FileTree) (begun : Meaning) (left : ℕ) (lines : List ℕ) (passes : committed_in project t left work ≡ Ok lines) (each : EachImage begun (IsSteadily project start))
      (steady : Steady project begun staged) where
    way : Way
    way = install_way project start t work.job.parts work.generation

    pub committed_through : ((way : Way) (puts : ℕ → Files) → way.project ≡ project → IsReady way puts prepared u → EachImage staged (λ left. left ≡ u)
        → Through staged now (IsInFlight way.project way.surroundings way.old way.new))
        → Through begun now (IsInFlight project start (file_at start) (files_after project start t left (Ok work)))
    unfolding way
    committed_through says =
        let from_here = says way (puts_of t work.job.parts) refl (ready project start begun staged each steady t u work.job.parts work.generation prepared alone job made) alone in
        through_on (IsInFlight project start (file_at start) (files_after project start t left (Ok work))) begun staged now
        (steady_in_flight project start begun staged each steady (files_after project start t left (Ok work)))
        (subst (λ (new : Files). Through staged now (IsInFlight project start (file_at start) new)) (new_files project start t left work lines passes) from_here)

    pub committed_settles : ((way : Way) (puts : ℕ → Files) → way.project ≡ project → IsReady way puts prepared u → EachImage staged (λ left. left ≡ u) → EachImage now (IsNewProject way))
        → EachImage now (IsInstalled project start (files_after project start t left (Ok work)))
    unfolding way
    committed_settles says =
        new_is_installed project start t work.job.parts work.generation (files_after project start t left (Ok work)) now
        (new_files project start t left work lines passes)
        (says way (puts_of t work.job.parts) refl (ready project start begun staged each steady t u work.job.parts work.generation prepared alone job made) alone)

-- ---- where a fault of the device comes from

pub rose_in_either : (refusal : Refusal) (a b d : ℕ) → a ≤ b → b ≤ d → (IsTrue (is_of_device refusal) → Rose a b) → IsTrue (is_of_device refusal) ⊎ Rose b d → Rose a d
rose_in_either refusal a b d first second before (inl failed) = rose_before a b d (before failed) second
rose_in_either refusal a b d first second before (inr rose) = rose_after a b d first rose
