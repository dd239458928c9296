-- The folders in which the tables stand.
use Rattle.std.specs.Prelude.{◌≡◌, ◌⊎◌, ℕ, List, Some, None}
use Rattle.std.specs.FinMap as map
use Rattle.tree_dev.specs.Trees.{FileTree}
use Rattle.tree_dev.specs.Projects.{vendor_path}
use Rattle.tree_dev.specs.declared.entry.Entry.TheVariants as entries
use Rattle.project_files.specs.Places.{composer_place}

-- a folder stands at a path, or nothing
abbrev pub IsFree : FileTree → List (List ℕ) → Type 0
IsFree t path = (map.get t path ≡ None) ⊎ (map.get t path ≡ Some entries.Folder)

-- Nothing but folders stands where the tables' folders are to be.
pub record HasTableFolders (project : List (List ℕ)) (t : FileTree) : Type 0 where
  pub vendor : IsFree t (vendor_path project)
  pub composer : IsFree t (composer_place project)
