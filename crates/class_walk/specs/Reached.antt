-- What lies below a folder, in path order: folders before what they hold, names in byte order.
use Rattle.std.specs.Prelude.{ℕ, List, [], ◌∷◌, Option, Some, None, filter_map}
use Rattle.std.specs.FinMap.{keys}
use Rattle.tree_dev.specs.Trees.{FileTree, behind}

abbrev pub filled : Option (List (List ℕ)) → Option (List (List ℕ))
filled None = None
filled (Some []) = None
filled (Some (name ∷ rest)) = Some (name ∷ rest)

-- a path below a folder, seen from the folder
abbrev pub tail_below : List (List ℕ) → List (List ℕ) → Option (List (List ℕ))
tail_below folder path = filled (behind folder path)

-- the paths below a folder, seen from the folder
unfoldable pub tails_in : FileTree → List (List ℕ) → List (List (List ℕ))
tails_in t folder = filter_map (tail_below folder) (keys t)
