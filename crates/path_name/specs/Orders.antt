-- Byte order and path order, with their laws.
use Rattle.std.specs.Prelude.{◌≡◌, ℕ, List, [], ◌∷◌, Bool, nat_eq}
use Rattle.std.specs.Cmp.{IsTotalOrder, IsEquivalence, IsPartialOrder, partial_order_from_agreeing_total}
use Rattle.std.specs.Cmp.Lexicographic.{slice_cmp, pointwise, nat_list_cmp_total, nat_list_eq_equiv, lists_total, lists_equiv, lists_ties, texts_ties}
use Rattle.std.specs.Ordering.{nat_cmp, eq_by_cmp, as_partial_cmp, ordering_then}
use Rattle.std.specs.declared.cmp.Ordering.{Ordering}
use Rattle.std.specs.declared.cmp.Ordering.TheVariants.{Less, Equal, Greater}
use Rattle.std.proofs.Common.{refl}
use Rattle.std.proofs.lemmas.Map.Lookups.{exact_bytes}

-- byte by byte, a prefix first
abbrev pub byte_cmp : List ℕ → List ℕ → Ordering
byte_cmp = slice_cmp nat_cmp

-- segment by segment in byte order, a prefix first
abbrev pub path_cmp : List (List ℕ) → List (List ℕ) → Ordering
path_cmp = slice_cmp byte_cmp

abbrev pub bytes_are_equal : List ℕ → List ℕ → Bool
bytes_are_equal = pointwise nat_eq

abbrev pub paths_are_equal : List (List ℕ) → List (List ℕ) → Bool
paths_are_equal = pointwise bytes_are_equal

-- Both are total orders.
pub byte_cmp_total : IsTotalOrder byte_cmp
byte_cmp_total = nat_list_cmp_total

pub path_cmp_total : IsTotalOrder path_cmp
path_cmp_total = lists_total byte_cmp_total

-- What compares as equal is the same.
pub byte_cmp_exact : (a b : List ℕ) → byte_cmp a b ≡ Equal → a ≡ b
byte_cmp_exact = exact_bytes

both_equal : (first second : Ordering) → ordering_then first second ≡ Equal → (first ≡ Equal) × (second ≡ Equal)
both_equal Less second e = absurd cc
both_equal Equal second e = (refl, e)
both_equal Greater second e = absurd cc

pub path_cmp_exact : (a b : List (List ℕ)) → path_cmp a b ≡ Equal → a ≡ b
path_cmp_exact [] [] e = refl
path_cmp_exact [] (y ∷ ys) e = absurd cc
path_cmp_exact (x ∷ xs) [] e = absurd cc
path_cmp_exact (x ∷ xs) (y ∷ ys) e =
    let both = both_equal (byte_cmp x y) (path_cmp xs ys) e in
    let first = byte_cmp_exact x y both.0 in
    let rest = path_cmp_exact xs ys both.1 in
    cc

-- Equality, and that it holds of what compares as equal.
pub byte_equality : IsEquivalence bytes_are_equal
byte_equality = nat_list_eq_equiv

pub path_equality : IsEquivalence paths_are_equal
path_equality = lists_equiv byte_equality

pub byte_ties : (a b : List ℕ) → bytes_are_equal a b ≡ eq_by_cmp byte_cmp a b
byte_ties = texts_ties

pub path_ties : (a b : List (List ℕ)) → paths_are_equal a b ≡ eq_by_cmp path_cmp a b
path_ties = lists_ties byte_cmp byte_ties

pub byte_order : IsPartialOrder bytes_are_equal (as_partial_cmp byte_cmp)
byte_order = partial_order_from_agreeing_total byte_cmp byte_cmp_total (λ a b. refl) byte_ties

pub path_order : IsPartialOrder paths_are_equal (as_partial_cmp path_cmp)
path_order = partial_order_from_agreeing_total path_cmp path_cmp_total (λ a b. refl) path_ties
