-- A job that is staged: each part stands whole beside the project, and nothing of the project has been moved.
use Rattle.std.specs.Prelude.{◌≡◌, ◌⊎◌, ℕ, List, ◌∷◌, ◌++◌, Bool, true, false, IsTrue, Option, Some, None, is_some}
use Rattle.std.specs.List.{slice_get}
use Rattle.std.specs.FinMap as map
use Rattle.path_name.specs.Paths.{without_last}
use Rattle.tree_dev.specs.Trees.{FileTree, behind, has_folder}
use Rattle.tree_dev.specs.Device.{Meaning, OfTold, Rose}
use Rattle.tree_dev.specs.Projects.{is_within, journal_path, vendor_path, work_path}
use Rattle.tree_dev.specs.Steady.{Steady}
use Rattle.tree_dev.specs.declared.entry.Entry.{Entry}
use Rattle.tree_dev.specs.declared.entry.Entry.TheVariants as entries
use Rattle.stage_job.specs.Jobs.{is_gone, part_entry}
use Rattle.stage_job.specs.Places.{draft_path, old_path, staged_path}
use Rattle.stage_job.specs.declared.job.Part.{Part}

-- ---- what stands where

-- At and below a path stands what is given by the segments behind it, and elsewhere what another tree has.
pub record Puts (at : List (List ℕ)) (entries_at : List (List ℕ) → Option Entry) (t u : FileTree) : Type 0 where
  pub put : (below : List (List ℕ)) → map.get u (at ++ below) ≡ entries_at below
  pub elsewhere : (path : List (List ℕ)) → behind at path ≡ None → map.get u path ≡ map.get t path

-- Nothing stands at and below a path, and a folder above it.
pub record IsFree (at : List (List ℕ)) (t : FileTree) : Type 0 where
  pub above : has_folder t (without_last at) ≡ true
  pub none : (below : List (List ℕ)) → map.get t (at ++ below) ≡ None

-- ---- before, between and after

-- `.install` is an empty folder of the project: an install has claimed it.
pub record IsClaimed (project : List (List ℕ)) (t : FileTree) : Type 0 where
  pub folder : map.get t (work_path project) ≡ Some entries.Folder
  pub empty : (name : List ℕ) (rest : List (List ℕ)) → map.get t (work_path project ++ name ∷ rest) ≡ None

-- A folder was made where nothing stood, at or below `vendor`.
pub record IsNewFolder (project : List (List ℕ)) (t u : FileTree) (path : List (List ℕ)) : Type 0 where
  pub vendor : is_within (vendor_path project) path ≡ true
  pub before : map.get t path ≡ None
  pub now : map.get u path ≡ Some entries.Folder

-- Outside of `.install` each entry is as it was, but for folders that were made at or below `vendor`. So each file is as it was.
-- `.install` is a folder where it was one.
pub record IsKept (project : List (List ℕ)) (t u : FileTree) : Type 0 where
  pub each : (path : List (List ℕ)) → is_within (work_path project) path ≡ false → (map.get u path ≡ map.get t path) ⊎ IsNewFolder project t u path
  pub claim : map.get t (work_path project) ≡ Some entries.Folder → map.get u (work_path project) ≡ Some entries.Folder

-- A tree is told afterwards exactly where one was told before.
abbrev pub KeepsTelling : Meaning → Meaning → Type 0
KeepsTelling before now = is_some now.told ≡ is_some before.told

-- Calls that only stage: whatever a crash may leave at any moment between has the one project and the one surroundings that
-- each image had before, and no journal; outside of `.install` nothing changed in the tree that is told, but folders below
-- `vendor`, and `.install` is still a folder. Where the last call failed, the count of faults rose.
pub record Staging (project : List (List ℕ)) (before now : Meaning) (failed : Bool) : Type 0 where
  pub steady : Steady project before now
  pub kept : OfTold before (λ t. (u : FileTree) × (now.told ≡ Some u) × IsKept project t u)
  pub cause : IsTrue failed → Rose before.faults now.faults

-- Each part stands staged as it is to stand at its target, and nothing for one that is to be gone; `.install/old` is an
-- empty folder; a folder stands above each target; and there is no journal, nor the draft of one.
pub record IsStagedJob (project : List (List ℕ)) (parts : List Part) (t u : FileTree) : Type 0 where
  pub staged : (number : ℕ) (part : Part) → slice_get parts number ≡ Some part
      → (below : List (List ℕ)) → map.get u (staged_path project number ++ below) ≡ part_entry t part.from below
  pub there : (number : ℕ) (part : Part) → slice_get parts number ≡ Some part → is_gone part.from ≡ false → is_some (map.get u (staged_path project number)) ≡ true
  pub old_folder : map.get u (old_path project) ≡ Some entries.Folder
  pub old_empty : (name : List ℕ) (rest : List (List ℕ)) → map.get u (old_path project ++ name ∷ rest) ≡ None
  pub parents : (number : ℕ) (part : Part) → slice_get parts number ≡ Some part → has_folder u (without_last (project ++ part.target)) ≡ true
  pub no_journal : map.get u (journal_path project) ≡ None
  pub no_draft : map.get u (draft_path project) ≡ None
