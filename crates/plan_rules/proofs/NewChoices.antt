-- The choices of a plan are distinct.
use Rattle.std.proofs.Common.{◌≡◌, ℕ, zero, suc, ◌+◌, ◌≤◌, Bool, true, false, List, [], ◌∷◌, ◌++◌, length, refl, sym, ap, subst, ◌∙◌, append_assoc, arith}
use Rattle.std.specs.Prelude.{◌==◌, ◌||◌}
use Rattle.std.proofs.lemmas.Bool.{false≢true}
use Rattle.pkg_pool.specs.declared.pool.Pool.{Pool}
use Rattle.plan_rules.specs.Sets.{is_in, AreDistinct}
use Rattle.plan_rules.specs.FirstChoice.{AreFirst}
use Rattle.plan_rules.proofs.FirstChoices.{in_middle, in_more, missing, missing_less}
use Rattle.plan_rules.proofs.Plans.{below, fresh}

-- none of a list behind others is among those
abbrev pub AreNew : List ℕ → List ℕ → Type 0
AreNew before [] = Unit {0}
AreNew before (first ∷ others) = (is_in first before ≡ false) × AreNew (before ++ first ∷ []) others

pub are_new : (pool : Pool) (before plan : List ℕ) → AreFirst pool before plan → AreNew before plan
are_new pool before [] ended = tt
are_new pool before (choice ∷ behind) first = (fresh pool before first.0.need choice first.0.unmet first.0.alternative, are_new pool (before ++ choice ∷ []) behind first.1)

-- what is among some isn't among the rest
not_among : (before list : List ℕ) (number : ℕ) → is_in number before ≡ true → AreNew before list → is_in number list ≡ false
not_among before [] number there new = refl
not_among before (first ∷ others) number there new = by (first == number) refl (not_among (before ++ first ∷ []) others number (in_more before (first ∷ []) number there) new.1)
  where
    by : (t : Bool) → (first == number) ≡ t → is_in number others ≡ false → (first == number || is_in number others) ≡ false
    by true e rest = absurd (false≢true (sym new.0 ∙ subst (λ n. is_in n before ≡ true) (grind (arith, e)) there))
    by false e rest = rw (e, rest) refl

pub distinct : (before list : List ℕ) → AreNew before list → AreDistinct list
distinct before [] new = tt
distinct before (first ∷ others) new = (not_among (before ++ first ∷ []) others first (in_middle before [] first) new.1, distinct (before ++ first ∷ []) others new.1)

nothing_behind : (list : List ℕ) → list ++ [] ≡ list
nothing_behind [] = refl
nothing_behind (first ∷ others) = ap (λ rest. first ∷ rest) (nothing_behind others)

missing_within : (count : ℕ) → missing count [] ≡ count
missing_within zero = refl
missing_within (suc count) = omega (arith, missing_within count)

-- each choice leaves one less
pub bounded : (pool : Pool) (before plan : List ℕ) → AreFirst pool before plan → length plan + missing (length pool.candidates) (before ++ plan) ≤ missing (length pool.candidates) before
bounded pool before [] ended = omega (arith, ap (missing (length pool.candidates)) (nothing_behind before))
bounded pool before (choice ∷ behind) first =
    omega (
      arith,
      bounded pool (before ++ choice ∷ []) behind first.1,
      ap (missing (length pool.candidates)) (append_assoc before (choice ∷ []) behind),
      missing_less (length pool.candidates) before choice (below pool first.0.need choice first.0.alternative) (fresh pool before first.0.need choice first.0.unmet first.0.alternative),
    )

pub few : (pool : Pool) (plan : List ℕ) → AreFirst pool [] plan → length plan ≤ length pool.candidates
few pool plan first = omega (arith, bounded pool [] plan first, missing_within (length pool.candidates))
