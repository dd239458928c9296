-- Texts compared byte by byte, with `/` first, stand in path order.
use Rattle.std.proofs.Common.{◌≡◌, ℕ, ◌+◌, Bool, true, false, cond, eqb, List, [], ◌∷◌, refl, arith}
use Rattle.std.specs.List.{onto_first}
use Rattle.std.specs.Ordering.{nat_cmp, ordering_then}
use Rattle.std.specs.declared.cmp.Ordering.{Ordering}
use Rattle.std.specs.declared.cmp.Ordering.TheVariants.{Less, Equal, Greater}
use Rattle.std.proofs.lemmas.Bool.Decides.{nat_tests}
use Rattle.path_name.specs.Orders.{path_cmp, byte_cmp}
use Rattle.path_name.specs.Joined.{segments_of, joined_cmp}
use Rattle.path_name.proofs.Joining.{split, HasFirst, split_has_first}

then_assoc : (a b d : Ordering) → ordering_then a (ordering_then b d) ≡ ordering_then (ordering_then a b) d
then_assoc Less b d = refl
then_assoc Equal b d = refl
then_assoc Greater b d = refl

below_next : (n : ℕ) → nat_cmp 0 (n + 1) ≡ Less
below_next n = grind (arith, nat_tests)

above_none : (n : ℕ) → nat_cmp (n + 1) 0 ≡ Greater
above_none n = grind (arith, nat_tests)

both_next : (m n : ℕ) → nat_cmp (m + 1) (n + 1) ≡ nat_cmp m n
both_next m n = grind (arith, nat_tests)

before_cut : (t : Bool) (y : ℕ) (q : List (List ℕ)) → HasFirst q → Less ≡ path_cmp ([] ∷ []) (cond t ([] ∷ q) (onto_first y q))
before_cut t y [] h = absurd h
before_cut true y (part ∷ parts) h = refl
before_cut false y (part ∷ parts) h = refl

behind_cut : (t : Bool) (x : ℕ) (p : List (List ℕ)) → HasFirst p → Greater ≡ path_cmp (cond t ([] ∷ p) (onto_first x p)) ([] ∷ [])
behind_cut t x [] h = absurd h
behind_cut true x (part ∷ parts) h = refl
behind_cut false x (part ∷ parts) h = refl

cuts : (s t : Bool) (x y : ℕ) (p q : List (List ℕ)) → HasFirst p → HasFirst q
    → ordering_then (nat_cmp (cond s 0 (x + 1)) (cond t 0 (y + 1))) (path_cmp p q) ≡ path_cmp (cond s ([] ∷ p) (onto_first x p)) (cond t ([] ∷ q) (onto_first y q))
cuts s t x y [] q h k = absurd h
cuts s t x y (part ∷ parts) [] h k = absurd k
cuts true true x y (part ∷ parts) (other ∷ others) h k = refl
cuts true false x y (part ∷ parts) (other ∷ others) h k = rw (below_next y) refl
cuts false true x y (part ∷ parts) (other ∷ others) h k = rw (above_none x) refl
cuts false false x y (part ∷ parts) (other ∷ others) h k = rw (both_next x y) (then_assoc (nat_cmp x y) (byte_cmp part other) (path_cmp parts others))

split_cmp : (a b : List ℕ) → joined_cmp a b ≡ path_cmp (split a) (split b)
split_cmp [] [] = refl
split_cmp [] (y ∷ ys) = before_cut (eqb y 47) y (split ys) (split_has_first ys)
split_cmp (x ∷ xs) [] = behind_cut (eqb x 47) x (split xs) (split_has_first xs)
split_cmp (x ∷ xs) (y ∷ ys) = rw (split_cmp xs ys) (cuts (eqb x 47) (eqb y 47) x y (split xs) (split ys) (split_has_first xs) (split_has_first ys))

none_first : (parts : List (List ℕ)) → HasFirst parts → Less ≡ path_cmp [] parts
none_first [] h = absurd h
none_first (part ∷ parts) h = refl

none_last : (parts : List (List ℕ)) → HasFirst parts → Greater ≡ path_cmp parts []
none_last [] h = absurd h
none_last (part ∷ parts) h = refl

pub path_cmp-segments_of : (a b : List ℕ) → joined_cmp a b ≡ path_cmp (segments_of a) (segments_of b)
path_cmp-segments_of [] [] = refl
path_cmp-segments_of [] (y ∷ ys) = none_first (split (y ∷ ys)) (split_has_first (y ∷ ys))
path_cmp-segments_of (x ∷ xs) [] = none_last (split (x ∷ xs)) (split_has_first (x ∷ xs))
path_cmp-segments_of (x ∷ xs) (y ∷ ys) = split_cmp (x ∷ xs) (y ∷ ys)
