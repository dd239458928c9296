-- Entries of a tree in memory in path order.
use Rattle.std.specs.Prelude.{◌≡◌, ℕ, List, [], ◌∷◌, ◌++◌, true, false, None}
use Rattle.std.specs.Ordering.{is_gt}
use Rattle.std.specs.declared.cmp.Ordering.TheVariants.{Less}
use Rattle.std.specs.FinMap as map
use Rattle.path_name.specs.Orders.{byte_cmp, path_cmp}
use Rattle.path_name.specs.Paths.{is_segment}
use Rattle.tree_dev.specs.Trees.{FileTree}

-- no entry stands at a path or behind it
abbrev pub IsNoneFrom : FileTree → List (List ℕ) → Type 0
IsNoneFrom t from = (path : List (List ℕ)) → is_gt (path_cmp from path) ≡ false → map.get t path ≡ None

-- the first path with an entry, at a path or behind it
pub record IsFirstFrom (t : FileTree) (from first : List (List ℕ)) : Type 0 where
  pub after : is_gt (path_cmp from first) ≡ false
  pub has : map.contains_key t first ≡ true
  pub least : (path : List (List ℕ)) → is_gt (path_cmp from path) ≡ false → map.contains_key t path ≡ true → is_gt (path_cmp first path) ≡ false

-- an entry of this name stands in a folder
abbrev pub HasName : FileTree → List (List ℕ) → List ℕ → Type 0
HasName t folder name = map.contains_key t (folder ++ name ∷ []) ≡ true

-- no name of a folder comes after this one
abbrev pub IsLastName : FileTree → List (List ℕ) → List ℕ → Type 0
IsLastName t folder last = (name : List ℕ) → HasName t folder name → byte_cmp last name ≡ Less → ⊥

-- the first name of a folder after another, or after nothing
pub record IsNextName (t : FileTree) (folder : List (List ℕ)) (last name : List ℕ) : Type 0 where
  pub has : HasName t folder name
  pub after : byte_cmp last name ≡ Less
  pub least : (other : List ℕ) → HasName t folder other → byte_cmp last other ≡ Less → is_gt (byte_cmp name other) ≡ false

-- a name, or nothing
abbrev pub IsNameOrNothing : List ℕ → Type 0
IsNameOrNothing [] = Unit {0}
IsNameOrNothing (byte ∷ bytes) = is_segment (byte ∷ bytes) ≡ true
