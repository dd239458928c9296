-- The order of what follows two modifiers.
use Rattle.std.proofs.Common.{◌≡◌, ℕ, Bool, true, false, List, [], ◌∷◌, refl, arith}
use Rattle.std.specs.Ordering.{nat_cmp, bool_cmp, ordering_then}
use Rattle.std.specs.Cmp.Lexicographic.{slice_cmp}
use Rattle.std.specs.declared.cmp.Ordering.{Ordering}
use Rattle.std.specs.declared.cmp.Ordering.TheVariants.{Less, Equal, Greater}
use Rattle.std.proofs.lemmas.Bool.Decides.{nat_tests}
use Rattle.version_norm.specs.VersionOrder.{Number, final_element, element_cmp, with_end}

pub with_end_above : (numbers : List ℕ) (dev : Bool) → slice_cmp element_cmp (with_end numbers dev) [] ≡ Greater
with_end_above [] dev = refl
with_end_above (n ∷ ns) dev = refl

pub with_end_below : (numbers : List ℕ) (dev : Bool) → slice_cmp element_cmp [] (with_end numbers dev) ≡ Less
with_end_below [] dev = refl
with_end_below (n ∷ ns) dev = refl

number_cmp : (m n : ℕ) → element_cmp (Number m) (Number n) ≡ nat_cmp m n
number_cmp m n = grind (arith, nat_tests)

final_below : (dev : Bool) (n : ℕ) → element_cmp (final_element dev) (Number n) ≡ Less
final_below true n = grind (arith, nat_tests)
final_below false n = grind (arith, nat_tests)

pub final_above : (dev : Bool) (n : ℕ) → element_cmp (Number n) (final_element dev) ≡ Greater
final_above true n = grind (arith, nat_tests)
final_above false n = grind (arith, nat_tests)

then_Equal : (o : Ordering) → ordering_then o Equal ≡ o
then_Equal Less = refl
then_Equal Equal = refl
then_Equal Greater = refl

-- the numbers decide, and then the ends
pub with_end_cmp : (ms ns : List ℕ) (a b : Bool) → slice_cmp element_cmp (with_end ms a) (with_end ns b) ≡ ordering_then (slice_cmp nat_cmp ms ns) (element_cmp (final_element a) (final_element b))
with_end_cmp [] [] a b = then_Equal (element_cmp (final_element a) (final_element b))
with_end_cmp [] (n ∷ ns) a b = rw (final_below a n) refl
with_end_cmp (m ∷ ms) [] a b = rw (final_above b m) refl
with_end_cmp (m ∷ ms) (n ∷ ns) a b = rw (number_cmp m n, with_end_cmp ms ns a b) (chained (nat_cmp m n) (slice_cmp nat_cmp ms ns) (element_cmp (final_element a) (final_element b)))
  where
    chained : (x y z : Ordering) → ordering_then x (ordering_then y z) ≡ ordering_then (ordering_then x y) z
    chained Less y z = refl
    chained Equal y z = refl
    chained Greater y z = refl

pub final_cmp : (a b : Bool) → element_cmp (final_element a) (final_element b) ≡ bool_cmp b a
final_cmp true true = refl
final_cmp true false = refl
final_cmp false true = refl
final_cmp false false = refl
