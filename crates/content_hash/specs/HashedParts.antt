-- What the hashed text has so far, and what it still needs.
use Rattle.std.specs.Prelude.{ℕ, Bool, true, false, List, [], ◌∷◌, ◌++◌, codes, Option, Some, None, map}
use Rattle.std.specs.List.{filter_map}
use Rattle.std.specs.Borrow.{Bor}
use Rattle.json_ordered.specs.JsonTree.{JsonTree}
use Rattle.json_ordered.specs.JsonTexts.{compact_string, compact_text}
use Rattle.content_hash.specs.HashedText.{pair_at}

abbrev pub pair_text : List ℕ × JsonTree → List ℕ
pair_text p = compact_string p.0 ++ 58 ∷ compact_text p.1

-- whether nothing has been added
abbrev pub is_first : List ℕ → Bool
is_first [] = true
is_first (byte ∷ text) = false

-- what stands before a pair
abbrev pub opening : Bool → List ℕ
opening true = codes "{"
opening false = codes ","

-- what is added for a pair that may be there
abbrev pub part_of : Bool → Option (List ℕ × JsonTree) → List ℕ
part_of first (Some p) = opening first ++ pair_text p
part_of first None = []

abbrev pub ending : Bool → List ℕ
ending true = codes "[]"
ending false = codes "}"

-- the pairs that come, and the end
abbrev pub rest_of : Bool → List (List ℕ × JsonTree) → List ℕ
rest_of first [] = ending first
rest_of first (p ∷ ps) = opening first ++ (pair_text p ++ rest_of false ps)

-- the pairs of these keys that a manifest has
abbrev pub found_pairs : JsonTree → List (Bor (List ℕ)) → List (List ℕ × JsonTree)
found_pairs manifest names = filter_map (pair_at manifest) (map (λ name. name.now) names)
