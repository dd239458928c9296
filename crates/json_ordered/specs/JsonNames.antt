-- What a repeated name does, apart from how members are put one after the other.
use Rattle.std.specs.Prelude.{ℕ, List, [], ◌∷◌, ◌++◌, map, Option, Some, None, if◌then◌else◌}
use Rattle.std.specs.List.{list_any}
use Rattle.path_name.specs.Orders.{bytes_are_equal}
use Rattle.json_ordered.specs.JsonTree.{JsonTree}

-- the first value that a name has among members
abbrev pub value_of : List (List ℕ × JsonTree) → List ℕ → Option JsonTree
value_of [] name = None
value_of (m ∷ ms) name = if bytes_are_equal name m.0 then Some m.1 else value_of ms name

-- the last value that a name has
abbrev pub or_else : Option JsonTree → Option JsonTree → Option JsonTree
or_else (Some v) other = Some v
or_else None other = other

abbrev pub last_value : List (List ℕ × JsonTree) → List ℕ → Option JsonTree
last_value [] name = None
last_value (m ∷ ms) name = or_else (last_value ms name) (if bytes_are_equal name m.0 then Some m.1 else None)

abbrev pub names_of : List (List ℕ × JsonTree) → List (List ℕ)
names_of ms = map (λ m. m.0) ms

-- the names in the order in which they first come, behind those that came before
abbrev pub first_names : List (List ℕ) → List (List ℕ × JsonTree) → List (List ℕ)
first_names seen [] = seen
first_names seen (m ∷ ms) = first_names (if list_any (bytes_are_equal m.0) seen then seen else seen ++ m.0 ∷ []) ms
