-- The way of a tree from one project to another by a journal, and the places of a part on it.
use Rattle.std.specs.Prelude.{◌≡◌, ◌⊎◌, ℕ, ◌<◌, ◌^◌, List, length, Bool, true, false, Some, None}
use Rattle.std.specs.FinMap as map
use Rattle.path_name.specs.Paths.{without_last}
use Rattle.tree_dev.specs.Trees.{FileTree, behind, entry_at, has_folder, is_folder, kind_at}
use Rattle.tree_dev.specs.Projects.{journal_path}
use Rattle.tree_dev.specs.declared.entry.Entry.TheVariants.{File}
use Rattle.tree_dev.specs.declared.entry.Kind.{Kind}
use Rattle.tree_dev.specs.declared.entry.Kind.TheVariants as kinds
use Rattle.install_world.specs.InFlight.{Files, HasJournal, IsInFlight, IsThere, kept_path, old_path, staged_path, target_path}
use Rattle.install_world.specs.declared.journal.Journal.{Journal}
use Rattle.install_world.specs.declared.moving.PartPlaces.{PartPlaces}
use Rattle.install_world.specs.Targets.{IsTargetPath}
use Rattle.install_world.specs.declared.target.Target.{Target}

-- a project and its surroundings, what its files were, what they are to be, and the journal that stands
pub record Way : Type 0 where
  pub project : List (List ℕ)
  pub surroundings : FileTree
  pub old : Files
  pub new : Files
  pub journal : Journal

-- The tree is in flight, and this journal stands, in a text of fewer than 2^64 bytes.
pub record IsOnWay (way : Way) (t : FileTree) : Type 0 where
  pub flight : IsInFlight way.project way.surroundings way.old way.new t
  pub stands : HasJournal way.project t way.journal
  pub small : (text : List ℕ) → map.get t (journal_path way.project) ≡ Some (File text) → length text < 2 ^ 64

-- The places of a part of a job.
pub record ArePlaces (project : List (List ℕ)) (number : ℕ) (target : Target) (places : PartPlaces) : Type 0 where
  pub is_target : IsTargetPath target.path
  pub target_is : places.target ≡ target_path project target
  pub staged_is : places.staged ≡ staged_path project number
  pub kept_is : places.kept ≡ kept_path project number

-- Only at and below the places of a part did a tree change.
pub record ChangesPlaces (places : PartPlaces) (t now : FileTree) : Type 0 where
  pub others : (path : List (List ℕ)) → behind places.target path ≡ None → behind places.staged path ≡ None → behind places.kept path ≡ None
      → map.get now path ≡ map.get t path

-- Nothing stands where the target of a part goes, if it is still to be taken away.
pub record HasRoom (gone : Bool) (places : PartPlaces) (t : FileTree) : Type 0 where
  pub free : IsThere t places.target → (gone ≡ true) ⊎ IsThere t places.staged → map.get t places.kept ≡ None

abbrev pub is_something : Kind → Bool
is_something kinds.Absent = false
is_something kinds.File = true
is_something kinds.Folder = true
is_something kinds.Other = true

abbrev pub is_no_file : Kind → Bool
is_no_file kinds.Absent = false
is_no_file kinds.File = false
is_no_file kinds.Folder = true
is_no_file kinds.Other = true

-- by the kinds of what stands at a target and of what is staged: it is taken away before that is put there, but a file for a file
abbrev pub is_replaced : Kind → Kind → Bool
is_replaced kinds.Absent staged = false
is_replaced kinds.File staged = is_no_file staged
is_replaced kinds.Folder staged = is_something staged
is_replaced kinds.Other staged = is_something staged

-- Whether a part takes what stands at its target where it is kept: it is to be gone, or to be replaced.
abbrev pub is_kept : Bool → Kind → Kind → Bool
is_kept true target staged = is_something target
is_kept false target staged = is_replaced target staged

-- The folders that the moves of a part need are there: the one that keeps what is taken away, where something is; and the one
-- above the target, where something is staged that is to be put there.
pub record HasFolders (project : List (List ℕ)) (number : ℕ) (target : Target) (t : FileTree) : Type 0 where
  pub old_folder : is_kept target.gone (kind_at t (target_path project target)) (kind_at t (staged_path project number)) ≡ true
      → is_folder (entry_at t (old_path project)) ≡ true
  pub parent : target.gone ≡ false → IsThere t (staged_path project number) → has_folder t (without_last (target_path project target)) ≡ true
