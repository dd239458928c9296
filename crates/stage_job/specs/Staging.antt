-- Parts staged one after another, and the folders above their targets.
use Rattle.std.specs.Prelude.{◌≡◌, ◌⊎◌, ℕ, ◌<◌, ◌≤◌, ◌^◌, List, [], ◌∷◌, ◌++◌, Bool, true, if◌then◌else◌, Some, None}
use Rattle.std.specs.List.{list_any, slice_get}
use Rattle.std.specs.FinMap as map
use Rattle.path_name.specs.Paths.{without_last}
use Rattle.path_name.specs.Decimals.{decimal_text}
use Rattle.tree_dev.specs.Trees.{FileTree, behind, has_folder}
use Rattle.tree_dev.specs.declared.entry.Entry.TheVariants as entries
use Rattle.stage_job.specs.Above.{front_of, is_front}
use Rattle.stage_job.specs.Jobs.{part_entry}
use Rattle.stage_job.specs.Copied.{folder_alone}
use Rattle.stage_job.specs.Places.{new_path, old_path}
use Rattle.stage_job.specs.Staged.{Puts}
use Rattle.stage_job.specs.declared.job.Part.{Part}

-- where a part is staged
abbrev pub place_of : List (List ℕ) → ℕ → List (List ℕ)
place_of project number = new_path project ++ decimal_text number ∷ []

-- The first parts, so many of them, are staged, and nothing is of the others; all outside of `.install/new` is as it was.
pub record PutsParts (project : List (List ℕ)) (parts : List Part) (count : ℕ) (t u : FileTree) : Type 0 where
  pub staged : (number : ℕ) (part : Part) → number < count → slice_get parts number ≡ Some part → (below : List (List ℕ)) → map.get u (place_of project number ++ below) ≡ part_entry t part.from below
  pub rest : (number : ℕ) → count ≤ number → number < 2 ^ 64 → (below : List (List ℕ)) → map.get u (place_of project number ++ below) ≡ None
  pub folder : map.get u (new_path project) ≡ Some entries.Folder
  pub elsewhere : (path : List (List ℕ)) → behind (new_path project) path ≡ None → map.get u path ≡ map.get t path

-- a path between the project and the target of some part
abbrev pub is_parent : List (List ℕ) → List Part → List (List ℕ) → Bool
is_parent project parts path = list_any (λ part. is_front project (front_of part.target) path) parts

-- What stands above a target is a folder.
pub record HasParents (project : List (List ℕ)) (parts : List Part) (t : FileTree) : Type 0 where
  pub each : (path : List (List ℕ)) → is_parent project parts path ≡ true → (map.get t path ≡ None) ⊎ (map.get t path ≡ Some entries.Folder)

-- A folder stands at each path above a target, and all else is as it was.
pub record PutsParents (project : List (List ℕ)) (parts : List Part) (t u : FileTree) : Type 0 where
  pub each : (path : List (List ℕ)) → map.get u path ≡ (if is_parent project parts path then Some entries.Folder else map.get t path)

-- The project is a folder.
pub record HasProject (project : List (List ℕ)) (t : FileTree) : Type 0 where
  pub folder : (name : List ℕ) → has_folder t (without_last (project ++ name ∷ [])) ≡ true

-- `.install/new` was made, and then `.install/old`, both empty; all else is as it was.
pub record HasWorkFolders (project : List (List ℕ)) (t v : FileTree) : Type 0 where
  pub between : FileTree
  pub new : Puts (new_path project) folder_alone t between
  pub old : Puts (old_path project) folder_alone between v
