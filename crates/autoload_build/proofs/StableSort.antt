-- A stable sort gives one list alone.
use Rattle.std.proofs.Common.{◌≡◌, ℕ, suc, ◌<◌, ◌≤◌, Bool, true, false, not, ◌&&◌, cond, List, [], ◌∷◌, length, get_or, refl, sym, ap, subst, ◌∙◌, arith}
use Rattle.std.specs.Prelude.{filter}
use Rattle.std.specs.Cmp.{IsStrictWeakOrder}
use Rattle.std.specs.List.{AllByRecursion}
use Rattle.std.specs.List.Sorted.{IsSortedBy, ties}
use Rattle.std.proofs.lemmas.List.Sorted.{sorted_far}

module _ {X : Type 0} (lt : X → X → Bool) where
  -- no element is less than one before it
  abbrev pub Rises : List X → Type 0
  Rises [] = Unit {0}
  Rises (x ∷ xs) = AllByRecursion (λ y. lt y x ≡ false) xs × Rises xs

  above : (x : X) (xs : List X) → ((k : ℕ) → k < length xs → lt (get_or xs k x) x ≡ false) → AllByRecursion (λ y. lt y x ≡ false) xs
  above x [] h = tt
  above x (y ∷ ys) h = (h 0 (omega arith), above x ys (λ k p. h (suc k) (omega arith)))

  all_above : (xs : List X) → ((i j : ℕ) (d : X) → i ≤ j → j < length xs → lt (get_or xs j d) (get_or xs i d) ≡ false) → Rises xs
  all_above [] h = tt
  all_above (x ∷ xs) h = (above x xs (λ k p. h 0 (suc k) x (omega arith) (omega arith)), all_above xs (λ i j d p q. h (suc i) (suc j) d (omega arith) (omega arith)))

  pub rises : IsStrictWeakOrder lt → (xs : List X) → IsSortedBy lt xs → Rises xs
  rises o xs sorted = all_above xs (sorted_far lt o xs sorted)

  -- what holds of each element holds of the first that is kept
  kept_first : (t : X → Bool) (P : X → Type 0) (x : X) (xs zs : List X) → AllByRecursion P zs → x ∷ xs ≡ filter t zs → P x
  kept_first t P x xs [] h e = absurd cc
  kept_first t P x xs (z ∷ zs) h e = by (t z) (kept_first t P x xs zs h.1) e
    where
      by : (b : Bool) → (x ∷ xs ≡ filter t zs → P x) → x ∷ xs ≡ cond b (z ∷ filter t zs) (filter t zs) → P x
      by true later f =
          let same : z ≡ x = cc in
          subst P same h.0
      by false later f = later f

  module _ (o : IsStrictWeakOrder lt) where
    itself : (x : X) → ties lt x x ≡ true
    itself x = by (lt x x) refl
      where
        by : (b : Bool) → lt x x ≡ b → not b && not b ≡ true
        by true e = absurd cc (sym e ∙ o.one_way x x e)
        by false e = refl

    back : (x y : X) → ties lt x y ≡ ties lt y x
    back x y = by (lt x y) (lt y x)
      where
        by : (a b : Bool) → (not a && not b) ≡ (not b && not a)
        by true true = refl
        by true false = refl
        by false true = refl
        by false false = refl

    own : (x : X) (xs : List X) → filter (ties lt x) (x ∷ xs) ≡ x ∷ filter (ties lt x) xs
    own x xs = ap (λ b. cond b (x ∷ filter (ties lt x) xs) (filter (ties lt x) xs)) (itself x)

    other : (x y : X) (ys : List X) → ties lt x y ≡ false → filter (ties lt x) (y ∷ ys) ≡ filter (ties lt x) ys
    other x y ys e = ap (λ b. cond b (y ∷ filter (ties lt x) ys) (filter (ties lt x) ys)) e

    AreAlike : List X → List X → Type 0
    AreAlike ys zs = (x : X) → filter (ties lt x) ys ≡ filter (ties lt x) zs

    same_heads : (y : X) (ys : List X) (z : X) (zs : List X) → Rises (y ∷ ys) → Rises (z ∷ zs) → ((x : X) → filter (ties lt x) (y ∷ ys) ≡ filter (ties lt x) (z ∷ zs)) → y ≡ z
    same_heads y ys z zs up down alike = by (ties lt y z) refl
      where
        by : (b : Bool) → ties lt y z ≡ b → y ≡ z
        by true e =
            let both : y ∷ filter (ties lt y) ys ≡ z ∷ filter (ties lt y) zs = sym (own y ys) ∙ alike y ∙ ap (λ b. cond b (z ∷ filter (ties lt y) zs) (filter (ties lt y) zs)) e in
            cc
        by false e =
            let later : lt y z ≡ false = kept_first (ties lt y) (λ w. lt w z ≡ false) y (filter (ties lt y) ys) zs down.0 (sym (own y ys) ∙ alike y ∙ other y z zs e) in
            let sooner : lt z y ≡ false = kept_first (ties lt z) (λ w. lt w y ≡ false) z (filter (ties lt z) zs) ys up.0 (sym (own z zs) ∙ sym (alike z) ∙ other z y ys (back z y ∙ e)) in
            let tied : ties lt y z ≡ true = rw (later, sooner) refl in
            absurd cc

    same_rest : (y : X) (ys zs : List X) (b : Bool) → cond b (y ∷ ys) ys ≡ cond b (y ∷ zs) zs → ys ≡ zs
    same_rest y ys zs true e = cc
    same_rest y ys zs false e = e

    -- two lists in order that have the same elements of each rank are the same
    pub one_order : (ys zs : List X) → Rises ys → Rises zs → ((x : X) → filter (ties lt x) ys ≡ filter (ties lt x) zs) → ys ≡ zs
    one_order [] [] up down alike = refl
    one_order [] (z ∷ zs) up down alike =
        let none : [] ≡ z ∷ filter (ties lt z) zs = alike z ∙ own z zs in
        absurd cc
    one_order (y ∷ ys) [] up down alike =
        let none : [] ≡ y ∷ filter (ties lt y) ys = sym (alike y) ∙ own y ys in
        absurd cc
    one_order (y ∷ ys) (z ∷ zs) up down alike =
        let first : y ≡ z = same_heads y ys z zs up down alike in
        let rest : ys ≡ zs = one_order ys zs up.1 down.1
        (λ x. same_rest y (filter (ties lt x) ys) (filter (ties lt x) zs) (ties lt x y) (alike x ∙ ap (λ w. cond (ties lt x w) (w ∷ filter (ties lt x) zs) (filter (ties lt x) zs)) (sym first))) in
        cc
