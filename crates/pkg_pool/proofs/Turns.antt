-- A step for each of a list that a loop goes over.
use Rattle.std.proofs.Common.{◌≡◌, ◌⊎◌, ℕ, ◌+◌, ◌<◌, ◌≤◌, List, [], ◌∷◌, length, drop, get_or, Result, Ok, Err, IsTrue, refl, sym, ap, ◌∙◌, inl, inr}
use Rattle.std.proofs.lemmas.List.{drop_more, drop_all}
use Rattle.std.specs.List.{enumerate_from}
use Rattle.path_name.specs.Given.{◌>>=◌}
use Rattle.pkg_pool.specs.declared.fault.PoolFault.{PoolFault}
use Rattle.pkg_pool.specs.Outcomes.{Tells, is_free, each_in_turn}

-- the item at a place, and what follows it
pub left_at : {X : Type 0} (xs : List X) (i : ℕ) (x : X) → i < length xs → x ≡ get_or xs i x → drop i xs ≡ x ∷ drop (i + 1) xs
left_at xs i x within is = drop_more xs i x within ∙ ap (λ y. y ∷ drop (i + 1) xs) (sym is)

module _ {X S : Type 0} (step : X → S → Result S PoolFault) where
  -- one more of the list
  turn_on : (xs : List X) (x : X) (s : S) (r : Result S PoolFault) → step x s ≡ r → each_in_turn step (x ∷ xs) s ≡ (r >>= λ next. each_in_turn step xs next)
  unfolding each_in_turn
  turn_on xs x s r e = ap (λ y. y >>= λ next. each_in_turn step xs next) e

  all_done : (s : S) → each_in_turn step [] s ≡ Ok s
  unfolding each_in_turn
  all_done s = refl

  module _ (xs : List X) (i : ℕ) (x : X) (within : i < length xs) (is : x ≡ get_or xs i x) (s : S) where
    pub turn : (next : S) (whole : Result S PoolFault) → step x s ≡ Ok next → each_in_turn step (drop i xs) s ≡ whole → each_in_turn step (drop (i + 1) xs) next ≡ whole
    turn next whole e so_far = sym (ap (λ ys. each_in_turn step ys s) (left_at xs i x within is) ∙ turn_on (drop (i + 1) xs) x s (Ok next) e) ∙ so_far

    pub stop : (fault : PoolFault) (whole : Result S PoolFault) → IsTrue (is_free fault) ⊎ (step x s ≡ Err fault) → each_in_turn step (drop i xs) s ≡ whole → IsTrue (is_free fault) ⊎ (whole ≡ Err fault)
    stop fault whole (inl free) so_far = inl free
    stop fault whole (inr e) so_far = inr (sym so_far ∙ ap (λ ys. each_in_turn step ys s) (left_at xs i x within is) ∙ turn_on (drop (i + 1) xs) x s (Err fault) e)

  pub ended : (xs : List X) (i : ℕ) → length xs ≤ i → (s : S) (whole : Result S PoolFault) → each_in_turn step (drop i xs) s ≡ whole → whole ≡ Ok s
  ended xs i all s whole so_far = sym so_far ∙ ap (λ ys. each_in_turn step ys s) (drop_all i xs all) ∙ all_done s

-- the same where the items have numbers
module _ {X S : Type 0} (step : ℕ × X → S → Result S PoolFault) (xs : List X) (i : ℕ) where
  module _ (x : X) (within : i < length xs) (is : x ≡ get_or xs i x) (s : S) where
    pub numbered_turn : (next : S) (whole : Result S PoolFault) → step (i, x) s ≡ Ok next → each_in_turn step (enumerate_from i (drop i xs)) s ≡ whole
        → each_in_turn step (enumerate_from (i + 1) (drop (i + 1) xs)) next ≡ whole
    numbered_turn next whole e so_far =
        sym (ap (λ ys. each_in_turn step (enumerate_from i ys) s) (left_at xs i x within is) ∙ turn_on step (enumerate_from (i + 1) (drop (i + 1) xs)) (i, x) s (Ok next) e) ∙ so_far

    pub numbered_stop : (fault : PoolFault) (whole : Result S PoolFault) → IsTrue (is_free fault) ⊎ (step (i, x) s ≡ Err fault) → each_in_turn step (enumerate_from i (drop i xs)) s ≡ whole → IsTrue (is_free fault) ⊎ (whole ≡ Err fault)
    numbered_stop fault whole (inl free) so_far = inl free
    numbered_stop fault whole (inr e) so_far =
        inr (sym so_far ∙ ap (λ ys. each_in_turn step (enumerate_from i ys) s) (left_at xs i x within is) ∙ turn_on step (enumerate_from (i + 1) (drop (i + 1) xs)) (i, x) s (Err fault) e)

  pub numbered_ended : length xs ≤ i → (s : S) (whole : Result S PoolFault) → each_in_turn step (enumerate_from i (drop i xs)) s ≡ whole → whole ≡ Ok s
  numbered_ended all s whole so_far = sym so_far ∙ ap (λ ys. each_in_turn step (enumerate_from i ys) s) (drop_all i xs all) ∙ all_done step s

-- What is made of the answer of a last step.
pub told_on : {X Y Z : Type 0} (view : X → Y) (made : Y → Z) (last : Result Y PoolFault) (whole : Result Z PoolFault) (result : Result X PoolFault) → whole ≡ (last >>= λ y. Ok (made y)) → Tells view last result
    → Tells (λ x. made (view x)) whole result
told_on view made last whole (Ok x) is told = is ∙ ap (λ r. r >>= λ y. Ok (made y)) told
told_on view made last whole (Err fault) is (inl free) = inl free
told_on view made last whole (Err fault) is (inr e) = inr (is ∙ ap (λ r. r >>= λ y. Ok (made y)) e)
