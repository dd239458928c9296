-- What a command commits under its claim, and what becomes of the project.
use Rattle.std.specs.Prelude.{ℕ, ◌≤◌, ◌+◌, List, [], ◌∷◌, length, nat_lt, if◌then◌else◌, Result, Ok, Err}
use Rattle.path_name.specs.Given.{◌>>=◌}
use Rattle.tree_dev.specs.Trees.{FileTree}
use Rattle.tree_dev.specs.Projects.{file_at, journal_path}
use Rattle.tree_dev.specs.declared.limits.TheConstants.{FILE_BYTES}
use Rattle.tree_dev.specs.declared.limits.LimitKind.TheVariants.{FileBytes}
use Rattle.install_world.specs.InFlight.{Files, HasFiles, HasSurroundings, NoJournal}
use Rattle.install_world.specs.JournalText.{journal_text}
use Rattle.install_world.specs.declared.version.Version.TheVariants.{Two}
use Rattle.stage_job.specs.Checked.{job_checked}
use Rattle.stage_job.specs.Jobs.{AreParts, job_result}
use Rattle.stage_job.specs.Staging.{HasParents}
use Rattle.stage_job.specs.Written.{job_files}
use Rattle.stage_job.specs.declared.job.Part.{Part}
use Rattle.vendor_journal.specs.JobTargets.{journal_for}
use Rattle.run_answers.specs.declared.refusal.Refusal.{Refusal}
use Rattle.run_answers.specs.declared.refusal.Refusal.TheVariants as refusals
use Rattle.install_commands.specs.Refusals.{or_not_staged}
use Rattle.install_commands.specs.declared.work.Work.{Work}

-- A job of the project that can be committed, for a generation of tables. A job without parts changes nothing.
pub record IsWork (project : List (List ℕ)) (work : Work) : Type 0 where
  pub parts : AreParts project work.job.parts
  pub generation : 1 ≤ work.generation

abbrev pub IsWorkIf : List (List ℕ) → Result Work Refusal → Type 0
IsWorkIf project (Ok work) = IsWork project work
IsWorkIf project (Err refusal) = Unit {0}

-- What stands above the targets of a work, if it was made, is a folder.
abbrev pub HasParentsIf : List (List ℕ) → FileTree → Result Work Refusal → Type 0
HasParentsIf project t (Ok work) = HasParents project work.job.parts t
HasParentsIf project t (Err refusal) = Unit {0}

-- the text of a journal is no longer than a file may be
unfoldable pub text_fits : List (List ℕ) → List ℕ → Result (Unit {0}) Refusal
text_fits project text = if nat_lt FILE_BYTES (length text) then Err (refusals.Limit (FileBytes (journal_path project))) else Ok tt

-- the text of the journal of a job that makes a generation; a job without parts has none
abbrev pub journal_fits : List (List ℕ) → List Part → ℕ → Result (Unit {0}) Refusal
journal_fits project [] generation = Ok tt
journal_fits project (part ∷ parts) generation = text_fits project (journal_text Two (journal_for (part ∷ parts) generation))

-- The work's lines, where its job can be staged and its journal be written; else the first refusal.
unfoldable pub committed_in : List (List ℕ) → FileTree → ℕ → Work → Result (List ℕ) Refusal
committed_in project t left work = do
  rest ← or_not_staged (job_checked project t work.job.parts left)
  passed ← journal_fits project work.job.parts work.generation
  Ok work.lines

-- the same of a work that was made, or was refused
unfoldable pub worked_in : List (List ℕ) → FileTree → ℕ → Result Work Refusal → Result (List ℕ) Refusal
worked_in project t left made = made >>= committed_in project t left

abbrev pub files_by : List (List ℕ) → FileTree → FileTree → Work → Result (List ℕ) Refusal → Files
files_by project start t work (Ok lines) = job_result project t work.job.parts (file_at start)
files_by project start t work (Err refusal) = file_at start

-- The files of the project afterwards: what the job makes of those at the start, where it is committed, else those at the
-- start. The job's sources are read in a tree t.
unfoldable pub files_after : List (List ℕ) → FileTree → FileTree → ℕ → Result Work Refusal → Files
files_after project start t left (Ok work) = files_by project start t work (committed_in project t left work)
files_after project start t left (Err refusal) = file_at start

-- How many files a job writes: one for each that its parts put, and the journal; none without parts.
abbrev pub files_written : FileTree → List Part → ℕ
files_written t [] = 0
files_written t (part ∷ parts) = job_files t (part ∷ parts) + 1

-- the same of work that was made; none of work that was refused
abbrev pub writes_of : FileTree → Result Work Refusal → ℕ
writes_of t (Ok work) = files_written t work.job.parts
writes_of t (Err refusal) = 0

-- The project has these files, its surroundings are as at the start, and no journal stands.
pub record IsInstalled (project : List (List ℕ)) (start : FileTree) (files : Files) (t : FileTree) : Type 0 where
  pub no_journal : NoJournal project t
  pub has_files : HasFiles project t files
  pub outside : HasSurroundings project start t
