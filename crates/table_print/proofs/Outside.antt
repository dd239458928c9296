-- Whether all of a list are below a folder, one after the other.
use Rattle.std.proofs.Common.{◌≡◌, ℕ, ◌+◌, ◌<◌, ◌≤◌, Bool, true, false, List, [], ◌∷◌, ◌++◌, length, get_or, take, All, refl, sym, ap, ◌∙◌, subst}
use Rattle.std.specs.Prelude.{◌↔◌, IsTrue}
use Rattle.std.proofs.lemmas.List.{take_more, take_all}
use Rattle.table_print.proofs.Loops.{all_more}

pub one_is_not : {X : Type 0} (P : X → Type 0) (xs : List X) (i : ℕ) (x : X) (b : Bool) → b ≡ false → (IsTrue b ↔ P x) → i < length xs → x ≡ get_or xs i x → IsTrue false ↔ All P xs
one_is_not P xs i x b e h l is = (λ f. absurd cc, λ all. absurd (let yes : b ≡ true = h.1 (subst P (sym is) (all i x l)) in cc))

pub one_more_is : {X : Type 0} (P : X → Type 0) (xs : List X) (i : ℕ) (x : X) (b : Bool) → b ≡ true → (IsTrue b ↔ P x) → i < length xs → x ≡ get_or xs i x → All P (take i xs) → All P (take (i + 1) xs)
one_more_is P xs i x b e h l is all = all_more P xs i x (take_more xs i x l ∙ ap (λ y. take i xs ++ y ∷ []) (sym is)) all (h.0 e)

pub all_are : {X : Type 0} (P : X → Type 0) (xs : List X) (i : ℕ) → length xs ≤ i → All P (take i xs) → IsTrue true ↔ All P xs
all_are P xs i l all = (λ t. subst (λ ys. All P ys) (take_all i xs l) all, λ a. refl)

-- one part is not
pub part_is_not : {P Q : Type 0} (b : Bool) → b ≡ false → (IsTrue b ↔ P) → (Q → P) → IsTrue false ↔ Q
part_is_not b e h part = (λ f. absurd cc, λ q. absurd (let yes : b ≡ true = h.1 (part q) in cc))
