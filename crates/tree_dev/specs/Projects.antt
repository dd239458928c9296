-- The parts of a project, the folder that holds a composer.json: its lock and its vendor folder, which an install
-- makes; the folder `.install` in which it works; and all else, its surroundings.
use Rattle.std.specs.Prelude.{ℕ, List, [], ◌∷◌, ◌++◌, Bool, ◌||◌, ◌&&◌, not, Option, Some, None, is_some, codes}
use Rattle.std.specs.FinMap as map
use Rattle.tree_dev.specs.Trees.{FileTree, behind}
use Rattle.tree_dev.specs.declared.entry.Entry.{Entry}
use Rattle.tree_dev.specs.declared.entry.Entry.TheVariants as entries

-- composer.lock
abbrev pub lock_path : List (List ℕ) → List (List ℕ)
lock_path project = project ++ codes "composer.lock" ∷ []

-- vendor
abbrev pub vendor_path : List (List ℕ) → List (List ℕ)
vendor_path project = project ++ codes "vendor" ∷ []

-- .install
abbrev pub work_path : List (List ℕ) → List (List ℕ)
work_path project = project ++ codes ".install" ∷ []

-- .install/journal
abbrev pub journal_path : List (List ℕ) → List (List ℕ)
journal_path project = project ++ codes ".install" ∷ codes "journal" ∷ []

-- at or below
abbrev pub is_within : List (List ℕ) → List (List ℕ) → Bool
is_within head path = is_some (behind head path)

-- at or below the lock or the vendor folder
unfoldable pub is_project_part : List (List ℕ) → List (List ℕ) → Bool
is_project_part project path = is_within (lock_path project) path || is_within (vendor_path project) path

-- at or below none of these and `.install`
unfoldable pub is_surroundings : List (List ℕ) → List (List ℕ) → Bool
is_surroundings project path = not (is_project_part project path) && not (is_within (work_path project) path)

abbrev pub bytes_of : Option Entry → Option (List ℕ)
bytes_of (Some (entries.File bytes)) = Some bytes
bytes_of (Some entries.Folder) = None
bytes_of (Some entries.Other) = None
bytes_of None = None

-- the bytes of the file at a path
abbrev pub file_at : FileTree → List (List ℕ) → Option (List ℕ)
file_at t path = bytes_of (map.get t path)
