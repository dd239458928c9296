-- Items of which equal ones are left out, one after another.
use Rattle.std.proofs.Common.{◌≡◌, Bool, true, false, not, ◌||◌, cond, List, [], ◌∷◌, ◌++◌, refl, sym, ap, ◌∙◌, append-nil}
use Rattle.std.specs.Prelude.{filter}
use Rattle.std.specs.Cmp.{IsEquivalence}
use Rattle.std.specs.List.{list_any}
use Rattle.autoload_build.specs.BuiltTables.{first_of_each}
use Rattle.autoload_build.proofs.KeyGroups.{kept_append}

module _ {X : Type 0} (same : X → X → Bool) (laws : IsEquivalence same) where
  abbrev unlike : X → X → Bool
  unlike one other = not (same one other)

  -- what is left of a list has an equal of an item, but for those that equal another one
  any_left : (one x : X) (xs : List X) → same one x ≡ false → list_any (same x) (filter (unlike one) xs) ≡ list_any (same x) xs
  any_left one x [] apart = refl
  any_left one x (y ∷ xs) apart = by (same one y) refl (any_left one x xs apart)
    where
      by : (b : Bool) → same one y ≡ b → list_any (same x) (filter (unlike one) xs) ≡ list_any (same x) xs → list_any (same x) (cond (not b) (y ∷ filter (unlike one) xs) (filter (unlike one) xs)) ≡ (same x y || list_any (same x) xs)
      by true e rest =
          let other : same x y ≡ false = laws.symm x y ∙ laws.congr y one x (laws.symm y one ∙ e) ∙ apart in
          rw other rest
      by false e rest = ap (λ b. same x y || b) rest

  -- One more item is kept unless an equal one is.
  pub one_more : (xs : List X) (x : X) → first_of_each same (xs ++ x ∷ []) ≡ first_of_each same xs ++ cond (list_any (same x) (first_of_each same xs)) [] (x ∷ [])
  one_more [] x = refl
  one_more (one ∷ xs) x =
      ap (λ list. one ∷ filter (unlike one) list) (one_more xs x) ∙ ap (λ list. one ∷ list) (kept_append (unlike one) kept (cond (list_any (same x) kept) [] (x ∷ [])) ∙ by (same one x) refl)
    where
      kept : List X
      kept = first_of_each same xs

      left : List X
      left = filter (unlike one) kept

      by : (b : Bool) → same one x ≡ b → left ++ filter (unlike one) (cond (list_any (same x) kept) [] (x ∷ [])) ≡ left ++ cond (same x one || list_any (same x) left) [] (x ∷ [])
      by true e = rw (laws.symm x one ∙ e) (ap (λ list. left ++ list) (gone (list_any (same x) kept)))
        where
          gone : (b : Bool) → filter (unlike one) (cond b [] (x ∷ [])) ≡ []
          gone true = refl
          gone false = rw e refl
      by false e = rw (laws.symm x one ∙ e, any_left one x kept e) (ap (λ list. left ++ list) (stays (list_any (same x) kept)))
        where
          stays : (b : Bool) → filter (unlike one) (cond b [] (x ∷ [])) ≡ cond b [] (x ∷ [])
          stays true = refl
          stays false = rw e refl

  -- what is kept has an equal of an item where the list has one
  pub any_kept : (xs : List X) (x : X) → list_any (same x) (first_of_each same xs) ≡ list_any (same x) xs
  any_kept [] x = refl
  any_kept (one ∷ xs) x = by (same one x) refl (any_kept xs x)
    where
      by : (b : Bool) → same one x ≡ b → list_any (same x) (first_of_each same xs) ≡ list_any (same x) xs → (same x one || list_any (same x) (filter (unlike one) (first_of_each same xs))) ≡ (same x one || list_any (same x) xs)
      by true e rest = rw (laws.symm x one ∙ e) refl
      by false e rest = ap (λ b. same x one || b) (any_left one x (first_of_each same xs) e ∙ rest)

-- ---- items by their keys, and which keys are known

module _ {K X : Type 0} (eq : K → K → Bool) (laws : IsEquivalence eq) (key : X → K) where
  abbrev pub same_keys : X → X → Bool
  same_keys one other = eq (key one) (key other)

  abbrev pub is_known : List X → K → Bool
  is_known kept k = list_any (λ x. eq k (key x)) kept

  by_keys : IsEquivalence same_keys
  by_keys = record {
    refl = λ x. laws.refl (key x);
    symm = λ x y. laws.symm (key x) (key y);
    congr = λ x y z. laws.congr (key x) (key y) (key z);
  }

  any_behind : (kept : List X) (x : X) (k : K) → is_known (kept ++ x ∷ []) k ≡ (is_known kept k || eq k (key x))
  any_behind [] x k = either (eq k (key x))
    where
      either : (b : Bool) → (b || false) ≡ b
      either true = refl
      either false = refl
  any_behind (y ∷ kept) x k = rw (any_behind kept x k) (joined (eq k (key y)) (is_known kept k) (eq k (key x)))
    where
      joined : (a b c : Bool) → (a || (b || c)) ≡ ((a || b) || c)
      joined true b c = refl
      joined false b c = refl

  -- an item whose key is new is kept
  pub kept_more : (xs kept : List X) (x : X) → kept ≡ first_of_each same_keys xs → is_known kept (key x) ≡ false → kept ++ x ∷ [] ≡ first_of_each same_keys (xs ++ x ∷ [])
  kept_more xs kept x is new =
      let fresh : list_any (same_keys x) (first_of_each same_keys xs) ≡ false = ap (list_any (same_keys x)) (sym is) ∙ new in
      ap (λ list. list ++ x ∷ []) is ∙ ap (λ b. first_of_each same_keys xs ++ cond b [] (x ∷ [])) (sym fresh) ∙ sym (one_more same_keys by_keys xs x)

  -- and one whose key is known is not
  pub kept_still : (xs kept : List X) (x : X) → kept ≡ first_of_each same_keys xs → is_known kept (key x) ≡ true → kept ≡ first_of_each same_keys (xs ++ x ∷ [])
  kept_still xs kept x is old =
      let there : list_any (same_keys x) (first_of_each same_keys xs) ≡ true = ap (list_any (same_keys x)) (sym is) ∙ old in
      is ∙ sym (append-nil (first_of_each same_keys xs)) ∙ ap (λ b. first_of_each same_keys xs ++ cond b [] (x ∷ [])) (sym there) ∙ sym (one_more same_keys by_keys xs x)

  pub known_more : (kept : List X) (x : X) (k : K) (now : Bool) → now ≡ cond (eq (key x) k) true (is_known kept k) → now ≡ is_known (kept ++ x ∷ []) k
  known_more kept x k now is = is ∙ by (eq (key x) k) (is_known kept k) ∙ ap (λ b. is_known kept k || b) (laws.symm (key x) k) ∙ sym (any_behind kept x k)
    where
      by : (a b : Bool) → cond a true b ≡ (b || a)
      by true true = refl
      by true false = refl
      by false true = refl
      by false false = refl

  alike : (kept : List X) (one other : K) → eq one other ≡ true → is_known kept one ≡ is_known kept other
  alike [] one other e = refl
  alike (x ∷ kept) one other e = rw (laws.congr one other (key x) e, alike kept one other e) refl

  pub known_still : (kept : List X) (x : X) (k : K) (now : Bool) → is_known kept (key x) ≡ true → now ≡ cond (eq (key x) k) true (is_known kept k) → now ≡ is_known kept k
  known_still kept x k now old is = is ∙ by (eq (key x) k) refl
    where
      by : (b : Bool) → eq (key x) k ≡ b → cond b true (is_known kept k) ≡ is_known kept k
      by true e = sym old ∙ alike kept (key x) k e
      by false e = refl
