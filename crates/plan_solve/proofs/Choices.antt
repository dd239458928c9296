-- Choices behind one another, and where they lead.
use Rattle.std.proofs.Common.{◌≡◌, ℕ, zero, suc, ◌+◌, ◌<◌, ◌≤◌, Bool, true, false, List, [], ◌∷◌, ◌++◌, length, Some, refl, sym, ap, subst, ◌∙◌, append_assoc, arith}
use Rattle.std.specs.Prelude.{◌==◌, ◌||◌}
use Rattle.std.specs.List.{slice_get}
use Rattle.std.proofs.lemmas.List.{append-nil}
use Rattle.pkg_pool.specs.declared.pool.Pool.{Pool}
use Rattle.std.proofs.lemmas.Bool.{false≢true}
use Rattle.manifest_read.specs.declared.types.Link.{Link}
use Rattle.plan_rules.specs.Sets.{is_in, AreDistinct}
use Rattle.plan_rules.specs.Preference.{AreAlternatives, AreSorted, is_alternative}
use Rattle.plan_rules.proofs.FirstChoices.{missing, missing_less, number_left}
use Rattle.plan_rules.proofs.Plans.{below, fresh}
use Rattle.plan_rules.proofs.PreferenceOrder.{not_preferred_itself}
use Rattle.plan_solve.specs.declared.search.Pending.{Pending}
use Rattle.plan_solve.specs.declared.search.Choice.{Choice}
use Rattle.plan_solve.specs.Search.{IsPending, AreChosen, chosen}

pub chosen_more : (choices : List Choice) (choice : Choice) → chosen (choices ++ choice ∷ []) ≡ chosen choices ++ choice.member ∷ []
chosen_more [] choice = refl
chosen_more (first ∷ others) choice = ap (λ list. first.member ∷ list) (chosen_more others choice)

at_end : (pool : Pool) (before : List ℕ) (pending : Pending) → IsPending pool (before ++ []) pending → IsPending pool before pending
at_end pool before pending is = subst (λ list. IsPending pool list pending) (append-nil before) is

from_end : (pool : Pool) (before : List ℕ) (pending : Pending) → IsPending pool before pending → IsPending pool (before ++ []) pending
from_end pool before pending is = subst (λ list. IsPending pool list pending) (sym (append-nil before)) is

-- one more choice
pub one_more : (pool : Pool) (before : List ℕ) (choices : List Choice) (choice : Choice) → AreChosen pool before choices → IsPending pool (before ++ chosen choices) choice.of
    → slice_get choice.of.alternatives.items choice.of.passed ≡ Some choice.member → AreChosen pool before (choices ++ choice ∷ [])
one_more pool before [] choice made pending found = (at_end pool before choice.of pending, found, tt)
one_more pool before (first ∷ others) choice made pending found = (
  made.0,
  made.1,
  one_more pool (before ++ first.member ∷ []) others choice made.2 (subst (λ list. IsPending pool list choice.of) (sym (append_assoc before (first.member ∷ []) (chosen others))) pending) found,
)

-- all but the last choice
pub but_last : (pool : Pool) (before : List ℕ) (choices : List Choice) (choice : Choice) → AreChosen pool before (choices ++ choice ∷ []) → AreChosen pool before choices
but_last pool before [] choice made = tt
but_last pool before (first ∷ others) choice made = (made.0, made.1, but_last pool (before ++ first.member ∷ []) others choice made.2)

-- what the last choice was made of
pub last_pending : (pool : Pool) (before : List ℕ) (choices : List Choice) (choice : Choice) → AreChosen pool before (choices ++ choice ∷ []) → IsPending pool (before ++ chosen choices) choice.of
last_pending pool before [] choice made = from_end pool before choice.of made.0
last_pending pool before (first ∷ others) choice made = subst (λ list. IsPending pool list choice.of) (append_assoc before (first.member ∷ []) (chosen others)) (last_pending pool (before ++ first.member ∷ []) others choice made.2)

pub last_found : (pool : Pool) (before : List ℕ) (choices : List Choice) (choice : Choice) → AreChosen pool before (choices ++ choice ∷ []) → slice_get choice.of.alternatives.items choice.of.passed ≡ Some choice.member
last_found pool before [] choice made = made.1
last_found pool before (first ∷ others) choice made = last_found pool (before ++ first.member ∷ []) others choice made.2

-- ---- each choice is a new candidate

or_true : (t : Bool) → (t || true) ≡ true
or_true true = refl
or_true false = refl

same_number : (n : ℕ) → (n == n) ≡ true
same_number n = grind (arith)

first_is : (first choice : ℕ) → Some first ≡ Some choice → first ≡ choice
first_is first choice e = cc

pub in_at : (list : List ℕ) (number choice : ℕ) → slice_get list number ≡ Some choice → is_in choice list ≡ true
in_at [] number choice found = absurd cc
in_at (first ∷ others) zero choice found = rw (ap (λ n. n == choice) (first_is first choice found) ∙ same_number choice) refl
in_at (first ∷ others) (suc number) choice found = rw (in_at others number choice found) (or_true (first == choice))

pub is_one_of : (pool : Pool) (before : List ℕ) (pending : Pending) (choice : ℕ) → (is : IsPending pool before pending) → slice_get pending.alternatives.items pending.passed ≡ Some choice → is_alternative pool is.need choice ≡ true
is_one_of pool before pending choice is found = sym (is.alternatives.all choice) ∙ in_at pending.alternatives.items pending.passed choice found

-- each choice leaves one less
pub bounded : (pool : Pool) (before : List ℕ) (choices : List Choice) → AreChosen pool before choices → length choices + missing (length pool.candidates) (before ++ chosen choices) ≤ missing (length pool.candidates) before
bounded pool before [] made = omega (arith, ap (missing (length pool.candidates)) (append-nil before))
bounded pool before (choice ∷ choices) made =
    let alternative = is_one_of pool before choice.of choice.member made.0 made.1 in
    omega (
      arith,
      bounded pool (before ++ choice.member ∷ []) choices made.2,
      ap (missing (length pool.candidates)) (append_assoc before (choice.member ∷ []) (chosen choices)),
      missing_less (length pool.candidates) before choice.member (below pool made.0.need choice.member alternative) (fresh pool before made.0.need choice.member made.0.unmet alternative),
    )

missing_within : (count : ℕ) → missing count [] ≡ count
missing_within zero = refl
missing_within (suc count) = omega (arith, missing_within count)

-- room for one more
pub has_room : (pool : Pool) (choices : List Choice) (pending : Pending) (choice : ℕ) → AreChosen pool [] choices → IsPending pool (chosen choices) pending → slice_get pending.alternatives.items pending.passed ≡ Some choice → length choices < length pool.candidates
has_room pool choices pending choice made is found =
    let alternative = is_one_of pool (chosen choices) pending choice is found in
    omega (
      arith,
      bounded pool [] choices made,
      missing_within (length pool.candidates),
      missing_less (length pool.candidates) (chosen choices) choice (below pool is.need choice alternative) (fresh pool (chosen choices) is.need choice is.unmet alternative),
    )

-- ---- a requirement has no more alternatives than the pool has candidates

is_number : (a b : ℕ) → (a == b) ≡ true → a ≡ b
is_number a b e = grind (arith, e)

below_one : (a b : ℕ) → a < suc b → (a == b) ≡ false → a < b
below_one a b less apart = grind (arith, less, apart)

-- a number of its own at the head of a list
other_step : (t : Bool) (count first : ℕ) (others : List ℕ) → (first == count) ≡ t → suc count ≤ first → missing count (first ∷ others) ≡ missing count others → missing (suc count) (first ∷ others) ≡ missing (suc count) others
other_step true count first others same most rest = absurd (omega (arith, most, is_number first count same))
other_step false count first others apart most rest = rw apart (ap (λ n. number_left (is_in count others) + n) rest)

missing_other : (count first : ℕ) (others : List ℕ) → count ≤ first → missing count (first ∷ others) ≡ missing count others
missing_other zero first others most = refl
missing_other (suc count) first others most = other_step (first == count) count first others refl most (missing_other count first others (omega (arith, most)))

one_step : (t : Bool) (count first : ℕ) (others : List ℕ) → (first == count) ≡ t → is_in first others ≡ false → ((first == count) ≡ false → suc (missing count (first ∷ others)) ≡ missing count others)
    → suc (missing (suc count) (first ∷ others)) ≡ missing (suc count) others
one_step true count first others same new later =
    let is = is_number first count same in
    let none : is_in count others ≡ false = subst (λ n. is_in n others ≡ false) is new in
    rw (same, none) (omega (arith, missing_other count first others (omega (arith, is))))
one_step false count first others apart new later = let rest = later apart in rw apart (omega (arith, rest))

missing_one : (count first : ℕ) (others : List ℕ) → first < count → is_in first others ≡ false → suc (missing count (first ∷ others)) ≡ missing count others
missing_one zero first others less new = absurd (omega (arith, less))
missing_one (suc count) first others less new = one_step (first == count) count first others refl new (λ apart. missing_one count first others (below_one first count less apart) new)

-- distinct numbers below a number are no more than that
few_below : (count : ℕ) (list : List ℕ) → AreDistinct list → ((number : ℕ) → is_in number list ≡ true → number < count) → length list + missing count list ≡ count
few_below count [] distinct all = omega (arith, missing_within count)
few_below count (first ∷ others) distinct all = omega (
  arith,
  missing_one count first others (all first (rw (same_number first) refl)) distinct.0,
  few_below count others distinct.1 (λ number there. all number (rw there (or_true (first == number)))),
)

-- what is sorted strictly is distinct
distinct_sorted : (pool : Pool) (need : Link) (list : List ℕ) → AreSorted pool need list → AreDistinct list
distinct_sorted pool need [] sorted = tt
distinct_sorted pool need (first ∷ others) sorted = (by (is_in first others) refl, distinct_sorted pool need others sorted.1)
  where
    by : (t : Bool) → is_in first others ≡ t → t ≡ false
    by false e = refl
    by true e = absurd (false≢true (sym (not_preferred_itself pool need first) ∙ sorted.0 first e))

pub few_alternatives : (pool : Pool) (need : Link) (list : List ℕ) → AreAlternatives pool need list → length list ≤ length pool.candidates
few_alternatives pool need list are = omega (
  arith,
  few_below (length pool.candidates) list (distinct_sorted pool need list are.sorted) (λ number there. below pool need number (sym (are.all number) ∙ there)),
)
