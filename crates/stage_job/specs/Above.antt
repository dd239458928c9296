-- Folders above a path.
use Rattle.std.specs.Prelude.{◌≡◌, ◌⊎◌, ℕ, List, [], ◌∷◌, ◌++◌, Bool, true, false, if◌then◌else◌, Option, Some, None}
use Rattle.std.specs.FinMap as map
use Rattle.tree_dev.specs.Trees.{FileTree, behind, has_folder}
use Rattle.path_name.specs.Paths.{without_last}
use Rattle.tree_dev.specs.Projects.{is_within, vendor_path}
use Rattle.tree_dev.specs.Steady.{IsStaged}
use Rattle.tree_dev.specs.declared.entry.Entry.TheVariants as entries

abbrev pub begins_names : Option (List (List ℕ)) → List (List ℕ) → Bool
begins_names None names = false
begins_names (Some []) names = false
begins_names (Some (first ∷ front)) names = is_within (first ∷ front) names

-- a path that some first ones of these names lead to from a folder
abbrev pub is_front : List (List ℕ) → List (List ℕ) → List (List ℕ) → Bool
is_front base names path = begins_names (behind base path) names

-- Each of these paths has a folder, and all else is as it was.
pub record MakesFolders (base names : List (List ℕ)) (t u : FileTree) : Type 0 where
  pub each : (path : List (List ℕ)) → map.get u path ≡ (if is_front base names path then Some entries.Folder else map.get t path)

-- Folders can be made on the way of these names from a folder: a folder is there, and what stands on the way is a folder.
pub record HasWay (base names : List (List ℕ)) (t : FileTree) : Type 0 where
  pub base_folder : (name : List ℕ) → has_folder t (without_last (base ++ name ∷ [])) ≡ true
  pub each : (path : List (List ℕ)) → is_front base names path ≡ true → (map.get t path ≡ None) ⊎ (map.get t path ≡ Some entries.Folder)

-- a folder may be made there: at or below `.install`, but for the journal's path, or at or below `vendor`
abbrev pub CanMake : List (List ℕ) → List (List ℕ) → Type 0
CanMake project at = IsStaged project at ⊎ (is_within (vendor_path project) at ≡ true)

-- folders may be made on the way
abbrev pub CanMakeWay : List (List ℕ) → List (List ℕ) → List (List ℕ) → Type 0
CanMakeWay project base names = (path : List (List ℕ)) → is_front base names path ≡ true → CanMake project path

-- all but the last of some names; nothing of nothing
abbrev pub front_or_none : Option (List (List ℕ)) → List (List ℕ)
front_or_none None = []
front_or_none (Some front) = front

abbrev pub front_of : List (List ℕ) → List (List ℕ)
front_of names = front_or_none (without_last names)
