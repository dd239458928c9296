-- An install that was committed and is not done: what its project may look like while its parts are moved, what
-- the job makes of the project, and what becomes of a tree that was left in between. A part's number counts from 0
-- in the order of the journal's targets. What is staged for part k stands at `.install/new/k`, and what it takes
-- away goes to `.install/old/k`.
use Rattle.std.specs.Prelude.{◌≡◌, ◌⊎◌, ℕ, ◌+◌, List, [], ◌∷◌, ◌++◌, codes, Bool, true, false, if◌then◌else◌, Option, Some, None, is_some, IsTrue}
use Rattle.std.specs.List.{slice_get}
use Rattle.std.specs.FinMap as map
use Rattle.path_name.specs.Decimals.{decimal_text}
use Rattle.path_name.specs.Paths.{without_last}
use Rattle.tree_dev.specs.Trees.{FileTree, behind, entry_at, is_folder, has_folder}
use Rattle.tree_dev.specs.Projects.{file_at, is_project_part, is_surroundings, journal_path}
use Rattle.tree_dev.specs.declared.entry.Entry.TheVariants.{File}
use Rattle.install_world.specs.JournalText.{Says}
use Rattle.install_world.specs.declared.journal.Journal.{Journal}
use Rattle.install_world.specs.declared.target.Target.{Target}

-- the bytes of the files of a project, by their paths; None where no file is
abbrev pub Files : Type 0
Files = List (List ℕ) → Option (List ℕ)

-- .install/old, and what stands in .install of a part
abbrev pub old_path : List (List ℕ) → List (List ℕ)
old_path project = project ++ (codes ".install" ∷ codes "old" ∷ [])

-- where the journal's text is written before it is given its name
abbrev pub draft_path : List (List ℕ) → List (List ℕ)
draft_path project = project ++ (codes ".install" ∷ codes "journal.tmp" ∷ [])

abbrev pub staged_path : List (List ℕ) → ℕ → List (List ℕ)
staged_path project number = project ++ (codes ".install" ∷ codes "new" ∷ decimal_text number ∷ [])

abbrev pub kept_path : List (List ℕ) → ℕ → List (List ℕ)
kept_path project number = project ++ (codes ".install" ∷ codes "old" ∷ decimal_text number ∷ [])

-- a target's place in the tree that holds the project
abbrev pub target_path : List (List ℕ) → Target → List (List ℕ)
target_path project target = project ++ target.path

-- ---- what a job makes of a project

-- The part whose target a path stands at or below, and the segments behind that target.
pub record Placed : Type 0 where
  pub number : ℕ
  pub gone : Bool
  pub below : List (List ℕ)

abbrev pub placed_or : Option (List (List ℕ)) → ℕ → Bool → Option Placed → Option Placed
placed_or None number gone later = later
placed_or (Some below) number gone later = Some (record { number = number; gone = gone; below = below })

-- in targets that are numbered from a number on; targets of a job are apart, so there is at most one
abbrev pub part_from : ℕ → List (List ℕ) → List Target → List (List ℕ) → Option Placed
part_from number project [] path = None
part_from number project (target ∷ targets) path =
    placed_or (behind (target_path project target) path) number target.gone (part_from (number + 1) project targets path)

unfoldable pub part_at : List (List ℕ) → List Target → List (List ℕ) → Option Placed
part_at project targets path = part_from 0 project targets path

abbrev pub job_file : (ℕ → Files) → Option (List ℕ) → Option Placed → Option (List ℕ)
job_file puts stood None = stood
job_file puts stood (Some part) = if part.gone then None else puts part.number part.below

-- The files of a project after a job: at each target what its part puts there, given by the segments behind the
-- target; nothing at or below a target that is gone; and elsewhere the files of before.
unfoldable pub job_result : List (List ℕ) → List Target → (ℕ → Files) → Files → Files
job_result project targets puts old path = job_file puts (old path) (part_at project targets path)

-- ---- the journal that stands

-- nothing is at `.install/journal`
pub record NoJournal (project : List (List ℕ)) (t : FileTree) : Type 0 where
  pub absent : map.get t (journal_path project) ≡ None

-- a file is there, whose text says this journal
pub record HasJournal (project : List (List ℕ)) (t : FileTree) (journal : Journal) : Type 0 where
  pub text : List ℕ
  pub there : map.get t (journal_path project) ≡ Some (File text)
  pub says : Says text journal

-- ---- what becomes of a tree

abbrev pub finished_file : List (List ℕ) → FileTree → List (List ℕ) → Option Placed → Option (List ℕ)
finished_file project t path None = file_at t path
finished_file project t path (Some part) =
    if part.gone then None
    else if is_some (map.get t (staged_path project part.number)) then file_at t (staged_path project part.number ++ part.below)
    else file_at t path

-- The files of the project once a journal's job is done: what is staged for a part that is there stands at its
-- target, nothing at or below a target that is gone, and all else as it is.
unfoldable pub finished_by : List (List ℕ) → List Target → FileTree → Files
finished_by project targets t path = finished_file project t path (part_at project targets path)

-- The project's files that recovery leaves of a tree: its own where no journal stands, else those once its job is done.
pub record IsFinishedProject (project : List (List ℕ)) (t : FileTree) (files : Files) : Type 0 where
  pub kept : NoJournal project t → (path : List (List ℕ)) → is_project_part project path ≡ true → files path ≡ file_at t path
  pub finished : (journal : Journal) → HasJournal project t journal → (path : List (List ℕ)) → is_project_part project path ≡ true
      → files path ≡ finished_by project journal.targets t path

-- ---- in flight

-- The project's files are these.
pub record HasFiles (project : List (List ℕ)) (t : FileTree) (files : Files) : Type 0 where
  pub each : (path : List (List ℕ)) → is_project_part project path ≡ true → file_at t path ≡ files path

-- At and below one path stand the files that these give at and below another.
pub record HasFilesOf (t : FileTree) (at : List (List ℕ)) (files : Files) (from : List (List ℕ)) : Type 0 where
  pub each : (below : List (List ℕ)) → file_at t (at ++ below) ≡ files (from ++ below)

-- The staged part is there, as the new project has it at the target.
pub record IsStagedPart (project : List (List ℕ)) (new : Files) (number : ℕ) (target : Target) (t : FileTree) : Type 0 where
  pub there : IsTrue (is_some (map.get t (staged_path project number)))
  pub files : HasFilesOf t (staged_path project number) new (target_path project target)

-- Not begun: the target is as in the old project, and the staged part is there.
pub record IsNotBegun (project : List (List ℕ)) (old new : Files) (number : ℕ) (target : Target) (t : FileTree) : Type 0 where
  pub target_as_before : HasFilesOf t (target_path project target) old (target_path project target)
  pub staged : IsStagedPart project new number target t

-- Taken away: nothing is at the target, what the old project had there is kept, and the staged part is there.
pub record IsTakenAway (project : List (List ℕ)) (old new : Files) (number : ℕ) (target : Target) (t : FileTree) : Type 0 where
  pub target_absent : map.get t (target_path project target) ≡ None
  pub kept : HasFilesOf t (kept_path project number) old (target_path project target)
  pub staged : IsStagedPart project new number target t

-- Done: the target is as in the new project, and the staged part is no longer there.
pub record IsDone (project : List (List ℕ)) (new : Files) (number : ℕ) (target : Target) (t : FileTree) : Type 0 where
  pub target_as_after : HasFilesOf t (target_path project target) new (target_path project target)
  pub unstaged : map.get t (staged_path project number) ≡ None

-- A part whose target is to be gone has nothing staged, and is not begun or done.
pub record IsGoing (project : List (List ℕ)) (old : Files) (number : ℕ) (target : Target) (t : FileTree) : Type 0 where
  pub unstaged : map.get t (staged_path project number) ≡ None
  pub target_either : HasFilesOf t (target_path project target) old (target_path project target)
      ⊎ (map.get t (target_path project target) ≡ None)

abbrev pub PartInFlight : Bool → List (List ℕ) → Files → Files → ℕ → Target → FileTree → Type 0
PartInFlight true project old new number target t = IsGoing project old number target t
PartInFlight false project old new number target t =
    IsNotBegun project old new number target t ⊎ (IsTakenAway project old new number target t ⊎ IsDone project new number target t)

-- the part of this number has this target
abbrev pub IsPart : List Target → ℕ → Target → Type 0
IsPart targets number target = slice_get targets number ≡ Some target

-- A journal stands, its job makes the new project of the old one, and each of its parts is on its way.
pub record IsMoving (project : List (List ℕ)) (old new : Files) (t : FileTree) : Type 0 where
  pub journal : Journal
  pub stands : HasJournal project t journal
  pub puts : ℕ → Files
  pub result : (path : List (List ℕ)) → is_project_part project path ≡ true → new path ≡ job_result project journal.targets puts old path
  pub old_folder : is_folder (entry_at t (old_path project)) ≡ true
  pub parents : (number : ℕ) (target : Target) → IsPart journal.targets number target → has_folder t (without_last (target_path project target)) ≡ true
  pub elsewhere : (path : List (List ℕ)) → is_project_part project path ≡ true → part_at project journal.targets path ≡ None → file_at t path ≡ old path
  pub parts : (number : ℕ) (target : Target) → IsPart journal.targets number target → PartInFlight target.gone project old new number target t

-- The surroundings of the project are as in this tree.
pub record HasSurroundings (project : List (List ℕ)) (surroundings t : FileTree) : Type 0 where
  pub each : (path : List (List ℕ)) → is_surroundings project path ≡ true → map.get t path ≡ map.get surroundings path

-- The tree is on the way from an old project to a new one, in surroundings: no journal stands and it has one of
-- the two, or a journal stands and its parts are on their way.
pub record IsInFlight (project : List (List ℕ)) (surroundings : FileTree) (old new : Files) (t : FileTree) : Type 0 where
  pub outside : HasSurroundings project surroundings t
  pub state : (NoJournal project t × (HasFiles project t old ⊎ HasFiles project t new)) ⊎ IsMoving project old new t

-- ---- a staged job

-- What a part puts at its target stands staged; nothing does for a part whose target is to be gone.
abbrev pub IsStagedSource : Bool → List (List ℕ) → (ℕ → Files) → ℕ → FileTree → Type 0
IsStagedSource true project puts number t = map.get t (staged_path project number) ≡ None
IsStagedSource false project puts number t =
    IsTrue (is_some (map.get t (staged_path project number)))
    × ((below : List (List ℕ)) → file_at t (staged_path project number ++ below) ≡ puts number below)

-- Each part is staged, `.install/old` is a folder without entries, and a folder stands above each target.
pub record HasStagedParts (project : List (List ℕ)) (targets : List Target) (puts : ℕ → Files) (t : FileTree) : Type 0 where
  pub staged : (number : ℕ) (target : Target) → IsPart targets number target → IsStagedSource target.gone project puts number t
  pub old_folder : is_folder (entry_at t (old_path project)) ≡ true
  pub old_empty : (name : List ℕ) → map.get t (old_path project ++ name ∷ []) ≡ None
  pub parents : (number : ℕ) (target : Target) → IsPart targets number target → has_folder t (without_last (target_path project target)) ≡ true

-- A job that is staged whole, and whose journal is not yet written, not even in part.
pub record IsStagedJob (project : List (List ℕ)) (targets : List Target) (puts : ℕ → Files) (t : FileTree) : Type 0 where
  pub parts : HasStagedParts project targets puts t
  pub no_journal : NoJournal project t
  pub no_draft : map.get t (draft_path project) ≡ None

-- ---- parts that are done

-- Nothing is staged of the part; nothing is at a target that is to be gone.
abbrev pub IsPartDone : Bool → List (List ℕ) → ℕ → Target → FileTree → Type 0
IsPartDone true project number target t = map.get t (target_path project target) ≡ None
IsPartDone false project number target t = map.get t (staged_path project number) ≡ None

-- Each part is done.
pub record AreAllDone (project : List (List ℕ)) (targets : List Target) (t : FileTree) : Type 0 where
  pub each : (number : ℕ) (target : Target) → IsPart targets number target → IsPartDone target.gone project number target t

-- something is at a path
abbrev pub IsThere : FileTree → List (List ℕ) → Type 0
IsThere t path = IsTrue (is_some (map.get t path))
