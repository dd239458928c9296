-- Many entries that are put into a tree in memory or taken from it.
use Rattle.std.specs.Prelude.{◌≡◌, ℕ, List, [], ◌∷◌, ◌++◌, Bool, true, Some}
use Rattle.std.specs.List.{list_any}
use Rattle.std.specs.Ordering.{eq_by_cmp}
use Rattle.std.specs.FinMap as map
use Rattle.path_name.specs.Orders.{path_cmp}
use Rattle.tree_dev.specs.Trees.{FileTree}
use Rattle.tree_dev.specs.Stored.{entry_of}
use Rattle.tree_dev.specs.declared.moves.Placed.{Placed}

-- with each of these entries, the first one first
unfoldable pub with_all : FileTree → List Placed → FileTree
with_all t [] = t
with_all t (placed ∷ more) = with_all (map.insert t placed.at (entry_of placed.entry)) more

-- without what is at these paths
unfoldable pub without_all : FileTree → List (List (List ℕ)) → FileTree
without_all t [] = t
without_all t (path ∷ paths) = without_all (map.remove t path) paths

abbrev pub paths_of : List Placed → List (List (List ℕ))
paths_of [] = []
paths_of (placed ∷ more) = placed.at ∷ paths_of more

-- whether a path is among some
abbrev pub is_among : List (List ℕ) → List (List (List ℕ)) → Bool
is_among path paths = list_any (eq_by_cmp path_cmp path) paths

-- one more entry: what stands at a path, at its target
pub record AddsEntry (t : FileTree) (path target : List (List ℕ)) (before after : List Placed) : Type 0 where
  pub placed : Placed
  pub items : after ≡ before ++ placed ∷ []
  pub at : placed.at ≡ target
  pub entry : map.get t path ≡ Some (entry_of placed.entry)

-- Each old path is at or below one path, and its entry is at the same place at or below another.
abbrev pub Carries : FileTree → List (List ℕ) → List (List ℕ) → List (List (List ℕ)) → List Placed → Type 0
Carries t from to [] [] = Unit {0}
Carries t from to [] (placed ∷ new) = ⊥
Carries t from to (path ∷ old) [] = ⊥
Carries t from to (path ∷ old) (placed ∷ new) =
    (rest : List (List ℕ)) × (path ≡ from ++ rest) × (placed.at ≡ to ++ rest) × (map.get t path ≡ Some (entry_of placed.entry)) × Carries t from to old new

-- all that stands at and below a path
abbrev pub AreAll : FileTree → List (List ℕ) → List (List (List ℕ)) → Type 0
AreAll t from paths = (rest : List (List ℕ)) → map.contains_key t (from ++ rest) ≡ true → is_among (from ++ rest) paths ≡ true
