-- Keys in a strict order, and places of keys.
use Rattle.std.specs.Prelude.{ℕ, suc, List, [], ◌∷◌, Bool, true, false, ◌&&◌, if◌then◌else◌, Option, Some, None}
use Rattle.std.specs.Option.{option_map}
use Rattle.std.specs.declared.cmp.Ordering.{Ordering}
use Rattle.std.specs.declared.cmp.Ordering.TheVariants.{Less, Equal, Greater}
use Rattle.path_name.specs.Orders.{byte_cmp, bytes_are_equal}

abbrev pub is_order : Ordering → Ordering → Bool
is_order Less Less = true
is_order Equal Equal = true
is_order Greater Greater = true
is_order _ _ = false

-- each key stands in this order to the one before it, the first one to the last
abbrev pub are_strict_behind : Ordering → List ℕ → List (List ℕ) → Bool
are_strict_behind order last [] = true
are_strict_behind order last (key ∷ keys) = is_order (byte_cmp last key) order && are_strict_behind order key keys

abbrev pub are_strict : Ordering → List (List ℕ) → Bool
are_strict order [] = true
are_strict order (key ∷ keys) = are_strict_behind order key keys

-- the first place of a key
abbrev pub place_of : List ℕ → List (List ℕ) → Option ℕ
place_of key [] = None
place_of key (first ∷ keys) = if bytes_are_equal first key then Some 0 else option_map suc (place_of key keys)
