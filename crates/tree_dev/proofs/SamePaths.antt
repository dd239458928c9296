-- Whether two paths are the same, by their order.
use Rattle.std.proofs.Common.{◌≡◌, Bool, true, false, List, ℕ, refl, sym, ap, ◌∙◌}
use Rattle.std.specs.Ordering.{is_eq}
use Rattle.std.specs.Cmp.{tied_itself}
use Rattle.path_name.specs.Orders.{path_cmp, path_cmp_total}
use Rattle.tree_dev.specs.Told.{equal_paths}

abbrev pub is_same : List (List ℕ) → List (List ℕ) → Bool
is_same a b = is_eq (path_cmp a b)

pub same_path : (a b : List (List ℕ)) → is_same a b ≡ true → a ≡ b
same_path a b e = equal_paths a b e

pub itself : (a : List (List ℕ)) → is_same a a ≡ true
itself a = ap is_eq (tied_itself path_cmp_total a)

pub is_same_path : (a b : List (List ℕ)) → a ≡ b → is_same a b ≡ true
is_same_path a b e = ap (is_same a) (sym e) ∙ itself a

apart_case : (a b : List (List ℕ)) (s : Bool) → is_same a b ≡ s → (a ≡ b → ⊥) → s ≡ false
apart_case a b true e other = absurd (other (same_path a b e))
apart_case a b false e other = refl

pub apart : (a b : List (List ℕ)) → (a ≡ b → ⊥) → is_same a b ≡ false
apart a b other = apart_case a b (is_same a b) refl other

alike_case : (a b c d : List (List ℕ)) (s : Bool) → is_same a b ≡ s → (a ≡ b → c ≡ d) → (c ≡ d → a ≡ b) → s ≡ is_same c d
alike_case a b c d true e on back = sym (is_same_path c d (on (same_path a b e)))
alike_case a b c d false e on back = sym (apart c d (λ same. let f = is_same_path a b (back same) in absurd cc))

pub alike : (a b c d : List (List ℕ)) → (a ≡ b → c ≡ d) → (c ≡ d → a ≡ b) → is_same a b ≡ is_same c d
alike a b c d on back = alike_case a b c d (is_same a b) refl on back
