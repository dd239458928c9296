-- What holds of every tree that a crash may leave, over a stretch of moments.
use Rattle.std.specs.Prelude.{◌≡◌, ◌≢◌, ℕ, ◌≤◌, List, Bool, true, false, not, Option, None}
use Rattle.std.specs.List.{list_all}
use Rattle.std.specs.FinMap as map
use Rattle.tree_dev.specs.Trees.{FileTree}
use Rattle.tree_dev.specs.Disk.{Disk, IsImage, IsLater, LeftSince, moment}
use Rattle.tree_dev.specs.Device.{Meaning}
use Rattle.tree_dev.specs.Projects.{file_at, is_project_part, is_surroundings, is_within, journal_path, work_path}
use Rattle.tree_dev.specs.declared.change.Change.{Change}
use Rattle.tree_dev.specs.declared.entry.Entry.{Entry}
use Rattle.tree_dev.specs.declared.change.Change.TheVariants as changes

-- every tree that a crash now may leave
abbrev pub EachImage : Meaning → (FileTree → Type 0) → Type 0
EachImage m P = (left : FileTree) → IsImage m.disks.now left → P left

-- every tree that a crash at any moment between may have left, both ends with them
abbrev pub EachSince : Meaning → Meaning → (FileTree → Type 0) → Type 0
EachSince before now P = (left : FileTree) → LeftSince now.disks (moment before.disks) left → P left

-- The one project and the one surroundings as in a tree, and no journal.
pub record IsSteadily (project : List (List ℕ)) (t left : FileTree) : Type 0 where
  pub project_files : (path : List (List ℕ)) → is_project_part project path ≡ true → file_at left path ≡ file_at t path
  pub surroundings : (path : List (List ℕ)) → is_surroundings project path ≡ true → map.get left path ≡ map.get t path
  pub no_journal : map.get left (journal_path project) ≡ None

-- Whatever project and surroundings every image had before, every image of all moments between has them too.
pub record Steady (project : List (List ℕ)) (before now : Meaning) : Type 0 where
  pub later : IsLater before.disks now.disks
  pub each : (t : FileTree) → EachImage before (IsSteadily project t) → EachSince before now (IsSteadily project t)
  pub faults : before.faults ≤ now.faults

-- a path at or below `.install` that is not the journal's
pub record IsStaged (project at : List (List ℕ)) : Type 0 where
  pub within : is_within (work_path project) at ≡ true
  pub no_journal : at ≢ journal_path project

-- Every image of all moments between has P.
pub record Through (before now : Meaning) (P : FileTree → Type 0) : Type 0 where
  pub later : IsLater before.disks now.disks
  pub each : EachSince before now P
  pub faults : before.faults ≤ now.faults

abbrev pub is_write : Change → Bool
is_write (changes.Written at bytes) = true
is_write (changes.FolderMade at) = false
is_write (changes.Renamed from to) = false
is_write (changes.FileRemoved at) = false
is_write (changes.FolderRemoved at) = false

-- No write is pending, so no bytes can be torn: a crash leaves a tree that was read.
unfoldable pub IsWhole : Disk → Type 0
IsWhole d = list_all (λ change. not (is_write change)) d.pending ≡ true

-- this stands at a path
abbrev pub HasAt : List (List ℕ) → Option Entry → FileTree → Type 0
HasAt path entry t = map.get t path ≡ entry
