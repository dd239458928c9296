-- Members whose names make different numbers.
use Rattle.std.proofs.Common.{◌≡◌, ℕ, suc, ◌+◌, ◌<◌, ◌≤◌, Bool, true, false, ◌||◌, cond, eqb, List, [], ◌∷◌, ◌++◌, map, get_or, refl, sym, ap, ◌∙◌, subst, arith, append_assoc}
use Rattle.std.specs.Ordering.{is_eq}
use Rattle.std.specs.declared.cmp.Ordering.{Ordering}
use Rattle.std.specs.declared.cmp.Ordering.TheVariants.{Less, Equal, Greater}
use Rattle.std.specs.List.{list_any, count_by}
use Rattle.std.specs.List.Sorted.{IsPermutation, IsStrictlyIncreasing}
use Rattle.std.proofs.lemmas.Bool.{eq-eqb, ne_eqb, eqb-true}
use Rattle.std.proofs.lemmas.List.{append-nil}
use Rattle.std.proofs.lemmas.List.Recursion.{is_count_by}
use Rattle.std.proofs.lemmas.List.Sorted.{sum_by-IsPermutation}
use Rattle.path_name.specs.Orders.{bytes_are_equal, byte_cmp, byte_cmp_exact, byte_ties}
use Rattle.json_ordered.specs.JsonTree.{JsonTree, put_all}
use Rattle.json_ordered.specs.JsonNames.{names_of}
use Rattle.json_ordered.proofs.Joined.{put_new}

-- how often a number stands in a list
pub occurs : ℕ → List ℕ → ℕ
occurs x [] = 0
occurs x (y ∷ ys) = cond (eqb x y) (1 + occurs x ys) (occurs x ys)

counts : (x : ℕ) (xs : List ℕ) → occurs x xs ≡ count_by (eqb x) xs
unfolding occurs
counts x xs = is_count_by (occurs x) (eqb x) refl (λ y ys. refl) xs

permuted : (x : ℕ) (xs ys : List ℕ) → IsPermutation xs ys → occurs x ys ≡ occurs x xs
permuted x xs ys h = counts x ys ∙ sum_by-IsPermutation (λ y. cond (eqb x y) 1 0) xs ys h ∙ sym (counts x xs)

-- ---- a list that rises has each number once

tail_rises : (y : ℕ) (ys : List ℕ) → IsStrictlyIncreasing (y ∷ ys) → IsStrictlyIncreasing ys
tail_rises y ys up k h =
    let next : suc k + 1 ≡ suc (k + 1) = omega arith in
    subst (λ (n : ℕ). get_or ys k 0 < get_or (y ∷ ys) n 0) next (up (suc k) (omega arith))

none_more : (b : Bool) (n : ℕ) → b ≡ false → n ≡ 0 → cond b (1 + n) n ≡ 0
none_more true n e z = absurd cc
none_more false n e z = z

none_below : (x y : ℕ) (ys : List ℕ) → x ≤ y → IsStrictlyIncreasing (y ∷ ys) → occurs x ys ≡ 0
unfolding occurs
none_below x y [] le up = refl
none_below x y (z ∷ zs) le up =
    let first : y < z = up 0 (omega arith) in
    none_more (eqb x z) (occurs x zs) (ne_eqb x z (λ (e : x ≡ z). omega arith)) (none_below x z zs (omega arith) (tail_rises y (z ∷ zs) up))

at_most_one : (b : Bool) (n : ℕ) → (b ≡ true → n ≡ 0) → n ≤ 1 → cond b (1 + n) n ≤ 1
at_most_one true n h le = let z = h refl in omega arith
at_most_one false n h le = le

once : (x : ℕ) (ys : List ℕ) → IsStrictlyIncreasing ys → occurs x ys ≤ 1
unfolding occurs
once x [] up = omega arith
once x (y ∷ ys) up = at_most_one (eqb x y) (occurs x ys) (λ e. let is = eqb-true x y e in none_below x y ys (omega arith) up) (once x ys (tail_rises y ys up))

-- ---- names

equal_order : (o : Ordering) → is_eq o ≡ true → o ≡ Equal
equal_order Less h = absurd cc
equal_order Equal h = refl
equal_order Greater h = absurd cc

same_name : (a b : List ℕ) → bytes_are_equal a b ≡ true → a ≡ b
same_name a b h = byte_cmp_exact a b (equal_order (byte_cmp a b) (sym (byte_ties a b) ∙ h))

module _ (number : List ℕ → ℕ) where
  abbrev numbers_in : List (List ℕ × JsonTree) → List ℕ
  numbers_in ms = map number (names_of ms)

  counted : (b c d : Bool) (n : ℕ) → b || c ≡ true → (b ≡ true → d ≡ true) → (c ≡ true → 1 ≤ n) → 1 ≤ cond d (1 + n) n
  counted b c true n h f g = omega arith
  counted true c false n h f g = let no = f refl in absurd cc
  counted false c false n h f g = g h

  is_there : (name : List ℕ) (ms : List (List ℕ × JsonTree)) → list_any (bytes_are_equal name) (names_of ms) ≡ true → 1 ≤ occurs (number name) (numbers_in ms)
  unfolding occurs
  is_there name [] h = absurd cc
  is_there name (m ∷ ms) h = counted (bytes_are_equal name m.0) (list_any (bytes_are_equal name) (names_of ms)) (eqb (number name) (number m.0)) (occurs (number name) (numbers_in ms)) h
      (λ e. eq-eqb _ _ (ap number (same_name name m.0 e))) (is_there name ms)

  add_more : (b : Bool) (n k l : ℕ) → n ≡ k + l → cond b (1 + n) n ≡ cond b (1 + k) k + l
  add_more true n k l e = omega arith
  add_more false n k l e = e

  occurs_in : (x : ℕ) (done rest : List (List ℕ × JsonTree)) → occurs x (numbers_in (done ++ rest)) ≡ occurs x (numbers_in done) + occurs x (numbers_in rest)
  unfolding occurs
  occurs_in x [] rest = omega arith
  occurs_in x (d ∷ done) rest = add_more (eqb x (number d.0)) (occurs x (numbers_in (done ++ rest))) (occurs x (numbers_in done)) (occurs x (numbers_in rest)) (occurs_in x done rest)

  counted_itself : (b : Bool) (n : ℕ) → b ≡ true → 1 ≤ cond b (1 + n) n
  counted_itself true n e = omega arith
  counted_itself false n e = absurd cc

  one_itself : (m : List ℕ × JsonTree) (ms : List (List ℕ × JsonTree)) → 1 ≤ occurs (number m.0) (numbers_in (m ∷ ms))
  unfolding occurs
  one_itself m ms = counted_itself (eqb (number m.0) (number m.0)) (occurs (number m.0) (numbers_in ms)) (eq-eqb (number m.0) (number m.0) refl)

  -- a name that stood before would make its number a second time
  new_name : (done ms : List (List ℕ × JsonTree)) (m : List ℕ × JsonTree) → occurs (number m.0) (numbers_in (done ++ m ∷ ms)) ≤ 1 → list_any (bytes_are_equal m.0) (names_of done) ≡ false
  new_name done ms m most = by_case (list_any (bytes_are_equal m.0) (names_of done)) refl
    where
      by_case : (b : Bool) → list_any (bytes_are_equal m.0) (names_of done) ≡ b → b ≡ false
      by_case false e = refl
      by_case true e =
          let before = is_there m.0 done e in
          let itself = one_itself m ms in
          let both = occurs_in (number m.0) done (m ∷ ms) in
          let no : ⊥ = omega arith in absurd no

  pub all_new : (done ms : List (List ℕ × JsonTree)) → ((x : ℕ) → occurs x (numbers_in (done ++ ms)) ≤ 1) → put_all done ms ≡ done ++ ms
  all_new done [] most = sym (append-nil done)
  all_new done (m ∷ ms) most =
      ap (λ (ds : List (List ℕ × JsonTree)). put_all ds ms) (put_new done m.0 m.1 (new_name done ms m (most (number m.0))))
      ∙ all_new (done ++ m ∷ []) ms (λ x. subst (λ (l : List (List ℕ × JsonTree)). occurs x (numbers_in l) ≤ 1) (sym (append_assoc done (m ∷ []) ms)) (most x))
      ∙ append_assoc done (m ∷ []) ms

  -- the numbers, sorted, rise
  pub numbers_differ : (ms : List (List ℕ × JsonTree)) (numbers sorted : List ℕ) → numbers ≡ numbers_in ms → IsPermutation numbers sorted → IsStrictlyIncreasing sorted → put_all [] ms ≡ ms
  numbers_differ ms numbers sorted is moved up = all_new [] ms (λ x. subst (λ (n : ℕ). n ≤ 1) (permuted x numbers sorted moved ∙ ap (occurs x) is) (once x sorted up))
