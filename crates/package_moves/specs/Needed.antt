-- Which entries of `vendor` the targets of parts need, and which are to go.
use Rattle.std.specs.Prelude.{◌≡◌, ℕ, ◌+◌, List, [], ◌∷◌, ◌++◌, Bool, true, false, ◌||◌, ◌&&◌, if◌then◌else◌, Option, Some, None, map}
use Rattle.std.specs.BTreeSet.{contains}
use Rattle.std.specs.List.{list_any}
use Rattle.std.specs.Ordering.{is_eq}
use Rattle.path_name.specs.Orders.{path_cmp}
use Rattle.path_name.specs.Paths.{without_last}
use Rattle.tree_dev.specs.Trees.{FileTree, entry_at, is_folder, names_in}
use Rattle.tree_dev.specs.Changes.{is_leaf}
use Rattle.tree_dev.specs.Projects.{vendor_path}
use Rattle.stage_job.specs.declared.job.Part.{Part}
use Rattle.stage_job.specs.declared.job.Source.TheVariants as sources
use Rattle.package_moves.specs.Counted.{names_count}
use Rattle.package_moves.specs.Wanted.{vendor_name}
use Rattle.package_moves.specs.declared.needed.Needed.{Needed}

-- ---- what is needed, by paths from the project

-- which paths are targets, and which have one in them
pub record Needs : Type 0 where
  pub is_target : List (List ℕ) → Bool
  pub is_above : List (List ℕ) → Bool

abbrev pub is_folder_at : Option (List (List ℕ)) → List (List ℕ) → Bool
is_folder_at None path = false
is_folder_at (Some folder) path = is_eq (path_cmp folder path)

-- what the targets of parts need: themselves, and the folders that they stand in
abbrev pub needs_of : List Part → Needs
needs_of parts = record {
  is_target = λ path. list_any (λ part. is_eq (path_cmp part.target path)) parts;
  is_above = λ path. list_any (λ part. is_folder_at (without_last part.target) path) parts;
}

-- the same of two sets of paths
abbrev pub needs_in : Needed → Needs
needs_in needed = record { is_target = contains path_cmp needed.targets; is_above = contains path_cmp needed.above }

-- with one target more
abbrev pub needs_with : List (List ℕ) → Needs → Needs
needs_with target needs = record {
  is_target = λ path. is_eq (path_cmp target path) || needs.is_target path;
  is_above = λ path. is_folder_at (without_last target) path || needs.is_above path;
}

-- two that say the same of each path
pub record AreSameNeeds (one other : Needs) : Type 0 where
  pub targets : (path : List (List ℕ)) → one.is_target path ≡ other.is_target path
  pub above : (path : List (List ℕ)) → one.is_above path ≡ other.is_above path

-- ---- what is to go

-- the names of a folder, where one stands at a path
abbrev pub names_of : FileTree → List (List ℕ) → List (List ℕ)
names_of t at = if is_folder (entry_at t at) then names_in t at else []

abbrev pub if_other : Bool → List (List ℕ) → List (List (List ℕ))
if_other true path = []
if_other false path = path ∷ []

-- the entries of these names in a folder that are no target
abbrev pub others_in : Needs → List (List ℕ) → List (List ℕ) → List (List (List ℕ))
others_in needs folder [] = []
others_in needs folder (name ∷ names) = if_other (needs.is_target (folder ++ name ∷ [])) (folder ++ name ∷ []) ++ others_in needs folder names

-- What is to go of an entry of `vendor`: where targets stand in it, its entries that are none; and else itself, unless it is one.
abbrev pub unneeded_at : Needs → List (List ℕ) → FileTree → List (List ℕ) → List (List (List ℕ))
unneeded_at needs project t path =
    if needs.is_above path then others_in needs path (names_of t (project ++ path)) else if_other (needs.is_target path) path

abbrev pub unneeded_of : Needs → List (List ℕ) → FileTree → List (List ℕ) → List (List ℕ) → List (List (List ℕ))
unneeded_of needs project t folder [] = []
unneeded_of needs project t folder (name ∷ names) = unneeded_at needs project t (folder ++ name ∷ []) ++ unneeded_of needs project t folder names

-- The topmost entries below `vendor` that no target needs, in path order.
unfoldable pub unneeded : Needs → List (List ℕ) → FileTree → List (List (List ℕ))
unneeded needs project t = unneeded_of needs project t vendor_name (names_of t (vendor_path project))

-- the part that takes the entry at a path from the project away
abbrev pub gone_part : List (List ℕ) → Part
gone_part target = record { target = target; from = sources.Gone }

-- parts that take away what no target needs, in path order
abbrev pub gone_parts : List (List ℕ) → FileTree → List Part → List Part
gone_parts project t wanted = map gone_part (unneeded (needs_of wanted) project t)

-- ---- what is in the way

-- something that is no folder stands where targets are to stand in a folder
abbrev pub is_blocked : Needs → List (List ℕ) → FileTree → List (List ℕ) → Bool
is_blocked needs project t path = needs.is_above path && is_leaf (entry_at t (project ++ path))

-- a path is that of one of these names in a folder, and something is in the way there
abbrev pub is_blocked_of : Needs → List (List ℕ) → FileTree → List (List ℕ) → List (List ℕ) → List (List ℕ) → Bool
is_blocked_of needs project t folder [] path = false
is_blocked_of needs project t folder (name ∷ names) path =
    (is_eq (path_cmp (folder ++ name ∷ []) path) && is_blocked needs project t (folder ++ name ∷ [])) || is_blocked_of needs project t folder names path

-- ---- how many names are listed

abbrev pub above_count : Needs → List (List ℕ) → FileTree → List (List ℕ) → ℕ
above_count needs project t path = if needs.is_above path then names_count t (project ++ path) else 0

abbrev pub above_counts : Needs → List (List ℕ) → FileTree → List (List ℕ) → List (List ℕ) → ℕ
above_counts needs project t folder [] = 0
above_counts needs project t folder (name ∷ names) = above_count needs project t (folder ++ name ∷ []) + above_counts needs project t folder names

-- The names of `vendor`, and of each folder in it that targets stand in.
unfoldable pub vendor_count : Needs → List (List ℕ) → FileTree → ℕ
vendor_count needs project t = names_count t (vendor_path project) + above_counts needs project t vendor_name (names_of t (vendor_path project))
