-- Lists of first choices: there is at most one, and one where a valid set exists.
use Rattle.std.proofs.Common.{◌≡◌, ℕ, zero, suc, ◌+◌, ◌<◌, ◌≤◌, Bool, true, false, eqb, List, [], ◌∷◌, ◌++◌, length, Option, Some, None, refl, sym, ap, subst, ◌∙◌, append_assoc, arith, inl, inr}
use Rattle.std.specs.Prelude.{◌⊎◌, ◌==◌, ◌||◌, ◌&&◌, ⊤}
use Rattle.std.proofs.lemmas.Bool.{false≢true}
use Rattle.plan_rules.specs.Sets.{Chosen, has, is_in, set_from, set_of, has_all}

-- ---- sets

-- a set of so many candidates that passes a test, or none does
abbrev pub Found : ℕ → (Chosen → Bool) → Type 0
Found count test = (set : Chosen) × (length set ≡ count) × (test set ≡ true)

abbrev pub Fails : ℕ → (Chosen → Bool) → Type 0
Fails count test = (set : Chosen) → length set ≡ count → test set ≡ false

one_set : (test : Chosen → Bool) (t : Bool) → test [] ≡ t → Found 0 test ⊎ Fails 0 test
one_set test true e = inl ([], refl, e)
one_set test false e = inr only
  where
    only : Fails 0 test
    only [] size = e
    only (first ∷ others) size = absurd (omega (arith, size))

both_fail : (count : ℕ) (test : Chosen → Bool) → Fails count (λ set. test (true ∷ set)) → Fails count (λ set. test (false ∷ set)) → Fails (suc count) test
both_fail count test with_first without_first [] size = absurd (omega (arith, size))
both_fail count test with_first without_first (true ∷ others) size = with_first others (omega (arith, size))
both_fail count test with_first without_first (false ∷ others) size = without_first others (omega (arith, size))

either : (count : ℕ) (test : Chosen → Bool) → Found count (λ set. test (true ∷ set)) ⊎ Fails count (λ set. test (true ∷ set)) → Found count (λ set. test (false ∷ set)) ⊎ Fails count (λ set. test (false ∷ set)) → Found (suc count) test ⊎ Fails (suc count) test
either count test (inl found) other = inl (true ∷ found.0, omega (arith, found.1), found.2)
either count test (inr fails) (inl found) = inl (false ∷ found.0, omega (arith, found.1), found.2)
either count test (inr fails) (inr others) = inr (both_fail count test fails others)

pub search : (count : ℕ) (test : Chosen → Bool) → Found count test ⊎ Fails count test
search zero test = one_set test (test []) refl
search (suc count) test = either count test (search count (λ set. test (true ∷ set))) (search count (λ set. test (false ∷ set)))

-- ---- lists

or_true : (t : Bool) → (t || true) ≡ true
or_true true = refl
or_true false = refl

same_number : (n : ℕ) → (n == n) ≡ true
same_number n = grind (arith)

more_step : (t rest after : Bool) → (rest ≡ true → after ≡ true) → (t || rest) ≡ true → (t || after) ≡ true
more_step true rest after more e = refl
more_step false rest after more e = more e

pub in_more : (list more : List ℕ) (number : ℕ) → is_in number list ≡ true → is_in number (list ++ more) ≡ true
in_more [] more number e = absurd (false≢true e)
in_more (first ∷ others) more number e = more_step (first == number) (is_in number others) (is_in number (others ++ more)) (λ f. in_more others more number f) e

pub in_middle : (list more : List ℕ) (number : ℕ) → is_in number (list ++ number ∷ more) ≡ true
in_middle [] more number = rw (same_number number) refl
in_middle (first ∷ others) more number = rw (in_middle others more number) (or_true (first == number))

pub set_has : (count at number : ℕ) (list : List ℕ) → number < count → has (set_from count at list) number ≡ is_in (at + number) list
set_has zero at number list less = absurd (omega (arith, less))
set_has (suc count) at zero list less = ap (λ n. is_in n list) (omega arith)
set_has (suc count) at (suc number) list less = set_has count (suc at) number list (omega (arith, less)) ∙ ap (λ n. is_in n list) (omega arith)

pub set_size : (count at : ℕ) (list : List ℕ) → length (set_from count at list) ≡ count
set_size zero at list = refl
set_size (suc count) at list = ap suc (set_size count (suc at) list)

abbrev pub AllBelow : ℕ → List ℕ → Type 0
AllBelow count [] = ⊤
AllBelow count (first ∷ others) = (first < count) × AllBelow count others

pub below_more : (count : ℕ) (list : List ℕ) (number : ℕ) → AllBelow count list → number < count → AllBelow count (list ++ number ∷ [])
below_more count [] number all less = (less, tt)
below_more count (first ∷ others) number all less = (all.0, below_more count others number all.1 less)

pub has_one : (count : ℕ) (list : List ℕ) (number : ℕ) → number < count → is_in number list ≡ true → has (set_of count list) number ≡ true
has_one count list number less e = set_has count 0 number list less ∙ ap (λ n. is_in n list) (omega arith) ∙ e

both_true : (s t : Bool) → s ≡ true → t ≡ true → (s && t) ≡ true
both_true s t e f = rw e f

left_true : (s t : Bool) → (s && t) ≡ true → s ≡ true
left_true true t e = refl
left_true false t e = e

right_true : (s t : Bool) → (s && t) ≡ true → t ≡ true
right_true true t e = e
right_true false t e = absurd (false≢true e)

in_later : (first number : ℕ) (others : List ℕ) → is_in number others ≡ true → is_in number (first ∷ others) ≡ true
in_later first number others e = rw e (or_true (first == number))

-- the set of a list has each part of it
pub has_own : (count : ℕ) (part whole : List ℕ) → AllBelow count part → ((number : ℕ) → is_in number part ≡ true → is_in number whole ≡ true) → has_all (set_of count whole) part ≡ true
has_own count [] whole all within = refl
has_own count (first ∷ others) whole all within =
    both_true (has (set_of count whole) first) (has_all (set_of count whole) others)
    (has_one count whole first all.0 (within first (in_middle [] others first)))
    (has_own count others whole all.1 (λ number e. within number (in_later first number others e)))

-- ---- how many are left

abbrev pub number_left : Bool → ℕ
number_left true = 0
number_left false = 1

-- how many numbers below a number aren't in the list
abbrev pub missing : ℕ → List ℕ → ℕ
missing zero list = 0
missing (suc count) list = number_left (is_in count list) + missing count list

fewer : (s t : Bool) → (s ≡ true → t ≡ true) → number_left t ≤ number_left s
fewer true t imp = rw (imp refl) (omega arith)
fewer false true imp = omega arith
fewer false false imp = omega arith

missing_more : (count : ℕ) (list more : List ℕ) → missing count (list ++ more) ≤ missing count list
missing_more zero list more = omega arith
missing_more (suc count) list more = omega (arith, fewer (is_in count list) (is_in count (list ++ more)) (λ e. in_more list more count e), missing_more count list more)

less_step : (count : ℕ) (list : List ℕ) (number : ℕ) (t : Bool) → (number == count) ≡ t → number < suc count → is_in number list ≡ false
    → (number < count → missing count (list ++ number ∷ []) + 1 ≤ missing count list) → missing (suc count) (list ++ number ∷ []) + 1 ≤ missing (suc count) list
less_step count list number true same less new rest = let e : number ≡ count = grind (arith, same) in
    omega (arith, ap number_left (ap (λ n. is_in n list) (sym e) ∙ new), ap number_left (ap (λ n. is_in n (list ++ number ∷ [])) (sym e) ∙ in_middle list [] number), missing_more count list (number ∷ []))
less_step count list number false apart less new rest = let e : number < count = grind (arith, apart, less) in
    omega (arith, rest e, fewer (is_in count list) (is_in count (list ++ number ∷ [])) (λ f. in_more list (number ∷ []) count f))

pub missing_less : (count : ℕ) (list : List ℕ) (number : ℕ) → number < count → is_in number list ≡ false → missing count (list ++ number ∷ []) + 1 ≤ missing count list
missing_less zero list number less new = absurd (omega (arith, less))
missing_less (suc count) list number less new = less_step count list number (number == count) refl less new (λ below. missing_less count list number below new)

-- ---- first choices

module _ {Need : Type 0} (count : ℕ) (is_valid : Chosen → Bool) (unmet : List ℕ → Option Need) (is_alternative : Need → ℕ → Bool) (is_before : Need → ℕ → ℕ → Bool) where
  -- a valid set that has the candidates of a list, and another one
  abbrev pub Extends : List ℕ → ℕ → Type 0
  Extends before choice = (set : Chosen) × (length set ≡ count) × (is_valid set ≡ true) × (has_all set before ≡ true) × (has set choice ≡ true)

  -- The first alternative of the first need that is unmet which some valid set has beside those before it.
  abbrev pub IsFirst : List ℕ → ℕ → Type 0
  IsFirst before choice = (need : Need) × (unmet before ≡ Some need) × (is_alternative need choice ≡ true)
      × ((other : ℕ) → is_alternative need other ≡ true → is_before need other choice ≡ true → Extends before other → ⊥)

  abbrev pub AreFirst : List ℕ → List ℕ → Type 0
  AreFirst before [] = unmet before ≡ None
  AreFirst before (choice ∷ behind) = IsFirst before choice × AreFirst (before ++ choice ∷ []) behind

  module _ (below : (need : Need) (choice : ℕ) → is_alternative need choice ≡ true → choice < count) where
    abbrev pub Ordered : Type 0
    Ordered = (need : Need) (a b : ℕ) → is_alternative need a ≡ true → is_alternative need b ≡ true → (is_before need a b ≡ true) ⊎ ((a ≡ b) ⊎ (is_before need b a ≡ true))

    whole : (before : List ℕ) (choice : ℕ) (behind : List ℕ) (need : Need) → AllBelow count before → is_alternative need choice ≡ true → is_valid (set_of count (before ++ choice ∷ behind)) ≡ true → Extends before choice
    whole before choice behind need all alternative valid = (
      set_of count (before ++ choice ∷ behind),
      set_size count 0 (before ++ choice ∷ behind),
      valid,
      has_own count before (before ++ choice ∷ behind) all (λ number e. in_more before (choice ∷ behind) number e),
      has_one count (before ++ choice ∷ behind) choice (below need choice alternative) (in_middle before behind choice),
    )

    none_some : (before : List ℕ) (need : Need) → unmet before ≡ None → unmet before ≡ Some need → ⊥
    none_some before need e f = absurd cc

    one_need : (before : List ℕ) (need other : Need) → unmet before ≡ Some need → unmet before ≡ Some other → need ≡ other
    one_need before need other e f = cc

    -- of two first choices none is before the other
    same_choice : (before : List ℕ) (a b : ℕ) (need : Need) → unmet before ≡ Some need → IsFirst before a → IsFirst before b → Extends before a → Extends before b
        → (is_before need a b ≡ true) ⊎ ((a ≡ b) ⊎ (is_before need b a ≡ true)) → a ≡ b
    same_choice before a b need e first second with_a with_b (inl less) =
        absurd (second.3 a (subst (λ n. is_alternative n a ≡ true) (one_need before first.0 second.0 first.1 second.1) first.2) (subst (λ n. is_before n a b ≡ true) (one_need before need second.0 e second.1) less) with_a)
    same_choice before a b need e first second with_a with_b (inr (inl same)) = same
    same_choice before a b need e first second with_a with_b (inr (inr less)) =
        absurd (first.3 b (subst (λ n. is_alternative n b ≡ true) (one_need before second.0 first.0 second.1 first.1) second.2) (subst (λ n. is_before n b a ≡ true) (one_need before need first.0 e first.1) less) with_b)

    pub unique : Ordered → (before s t : List ℕ) → AllBelow count before → is_valid (set_of count (before ++ s)) ≡ true → is_valid (set_of count (before ++ t)) ≡ true
        → AreFirst before s → AreFirst before t → s ≡ t
    unique order before [] [] all valid other first second = refl
    unique order before [] (b ∷ t) all valid other first second = absurd (none_some before second.0.0 first second.0.1)
    unique order before (a ∷ s) [] all valid other first second = absurd (none_some before first.0.0 second first.0.1)
    unique order before (a ∷ s) (b ∷ t) all valid other first second =
        let need = first.0.0 in
        let b_too : is_alternative need b ≡ true = subst (λ n. is_alternative n b ≡ true) (one_need before second.0.0 need second.0.1 first.0.1) second.0.2 in
        let same : a ≡ b = same_choice before a b need first.0.1 first.0 second.0 (whole before a s need all first.0.2 valid) (whole before b t need all b_too other) (order need a b first.0.2 b_too) in
        let rest : s ≡ t = unique order (before ++ a ∷ []) s t (below_more count before a all (below need a first.0.2))
        (subst (λ list. is_valid (set_of count list) ≡ true) (sym (append_assoc before (a ∷ []) s)) valid)
        (subst (λ list. is_valid (set_of count list) ≡ true) (ap (λ n. before ++ n ∷ t) (sym same) ∙ sym (append_assoc before (a ∷ []) t)) other)
        first.1 (subst (λ n. AreFirst (before ++ n ∷ []) t) (sym same) second.1) in
        ap (λ n. n ∷ s) same ∙ ap (λ list. b ∷ list) rest

    -- what rules owe, so that a list of first choices exists
    pub record Rules : Type 0 where
      pub met : (before : List ℕ) (need : Need) (set : Chosen) → length set ≡ count → is_valid set ≡ true → has_all set before ≡ true → unmet before ≡ Some need
          → (choice : ℕ) × (is_alternative need choice ≡ true) × (has set choice ≡ true)
      pub fresh : (before : List ℕ) (need : Need) (choice : ℕ) → unmet before ≡ Some need → is_alternative need choice ≡ true → is_in choice before ≡ false
      pub done : (before : List ℕ) (set : Chosen) → length set ≡ count → is_valid set ≡ true → has_all set before ≡ true → unmet before ≡ None → is_valid (set_of count before) ≡ true
      pub on : (need : Need) (a b c : ℕ) → is_before need a b ≡ true → is_before need b c ≡ true → is_before need a c ≡ true
      pub not_itself : (need : Need) (a : ℕ) → is_before need a a ≡ false

    abbrev passes : List ℕ → ℕ → Chosen → Bool
    passes before choice set = is_valid set && (has_all set before && has set choice)

    from_search : (before : List ℕ) (choice : ℕ) → Found count (passes before choice) ⊎ Fails count (passes before choice) → Extends before choice ⊎ (Extends before choice → ⊥)
    from_search before choice (inl found) = inl (
      found.0,
      found.1,
      left_true (is_valid found.0) (has_all found.0 before && has found.0 choice) found.2,
      left_true (has_all found.0 before) (has found.0 choice) (right_true (is_valid found.0) (has_all found.0 before && has found.0 choice) found.2),
      right_true (has_all found.0 before) (has found.0 choice) (right_true (is_valid found.0) (has_all found.0 before && has found.0 choice) found.2),
    )
    from_search before choice (inr fails) = inr (λ set. false≢true (sym (fails set.0 set.1) ∙ both_true (is_valid set.0) (has_all set.0 before && has set.0 choice) set.2 (both_true (has_all set.0 before) (has set.0 choice) set.3 set.4)))

    pub extends_or_not : (before : List ℕ) (choice : ℕ) → Extends before choice ⊎ (Extends before choice → ⊥)
    extends_or_not before choice = from_search before choice (search count (passes before choice))

    -- an alternative that some valid set has beside those before it
    abbrev pub IsGood : List ℕ → Need → ℕ → Type 0
    IsGood before need choice = (is_alternative need choice ≡ true) × Extends before choice

    good_step : (before : List ℕ) (need : Need) (choice : ℕ) (t : Bool) → is_alternative need choice ≡ t → Extends before choice ⊎ (Extends before choice → ⊥) → IsGood before need choice ⊎ (IsGood before need choice → ⊥)
    good_step before need choice true e (inl extends) = inl (e, extends)
    good_step before need choice true e (inr never) = inr (λ good. never good.1)
    good_step before need choice false e either_way = inr (λ good. false≢true (sym e ∙ good.0))

    good_or_not : (before : List ℕ) (need : Need) (choice : ℕ) → IsGood before need choice ⊎ (IsGood before need choice → ⊥)
    good_or_not before need choice = good_step before need choice (is_alternative need choice) refl (extends_or_not before choice)

    -- the best of those below a number
    abbrev pub HasBest : List ℕ → Need → ℕ → Type 0
    HasBest before need most = (best : ℕ) × IsGood before need best × ((other : ℕ) → other < most → IsGood before need other → is_before need other best ≡ false)

    abbrev pub HasNone : List ℕ → Need → ℕ → Type 0
    HasNone before need most = (other : ℕ) → other < most → IsGood before need other → ⊥

    last_or_below : (other most : ℕ) → other < suc most → (other < most) ⊎ (other ≡ most)
    last_or_below other most less = split (eqb other most) refl
      where
        split : (t : Bool) → eqb other most ≡ t → (other < most) ⊎ (other ≡ most)
        split true e = inr (grind (arith, e))
        split false e = inl (grind (arith, e, less))

    no_more : (before : List ℕ) (need : Need) (most : ℕ) → HasNone before need most → (IsGood before need most → ⊥) → HasNone before need (suc most)
    no_more before need most none never other less good = split (last_or_below other most less)
      where
        split : (other < most) ⊎ (other ≡ most) → ⊥
        split (inl below_it) = none other below_it good
        split (inr e) = never (subst (λ n. IsGood before need n) e good)

    kept : (before : List ℕ) (need : Need) (most best : ℕ) → ((other : ℕ) → other < most → IsGood before need other → is_before need other best ≡ false) → (IsGood before need most → is_before need most best ≡ false)
        → (other : ℕ) → other < suc most → IsGood before need other → is_before need other best ≡ false
    kept before need most best all last other less good = split (last_or_below other most less)
      where
        split : (other < most) ⊎ (other ≡ most) → is_before need other best ≡ false
        split (inl below_it) = all other below_it good
        split (inr e) = ap (λ n. is_before need n best) e ∙ last (subst (λ n. IsGood before need n) e good)

    -- nothing is before one that is before the best so far
    better : Rules → (before : List ℕ) (need : Need) (most best : ℕ) → is_before need most best ≡ true → ((other : ℕ) → other < most → IsGood before need other → is_before need other best ≡ false)
        → (other : ℕ) → other < most → IsGood before need other → is_before need other most ≡ false
    better rules before need most best less all other below_it good = split (is_before need other most) refl
      where
        split : (t : Bool) → is_before need other most ≡ t → t ≡ false
        split true e = sym (rules.on need other most best e less) ∙ all other below_it good
        split false e = refl

    first_best : Rules → (before : List ℕ) (need : Need) (most : ℕ) → HasNone before need most → IsGood before need most → HasBest before need (suc most)
    first_best rules before need most none good = (most, good, kept before need most most (λ other less also. absurd (none other less also)) (λ _. rules.not_itself need most))

    best_step : Rules → (before : List ℕ) (need : Need) (most best : ℕ) → IsGood before need best → ((other : ℕ) → other < most → IsGood before need other → is_before need other best ≡ false) → IsGood before need most
        → (t : Bool) → is_before need most best ≡ t → HasBest before need (suc most)
    best_step rules before need most best is_best all good true less = (most, good, kept before need most most (better rules before need most best less all) (λ _. rules.not_itself need most))
    best_step rules before need most best is_best all good false not_less = (best, is_best, kept before need most best all (λ _. not_less))

    next_best : Rules → (before : List ℕ) (need : Need) (most : ℕ) → HasBest before need most ⊎ HasNone before need most → IsGood before need most ⊎ (IsGood before need most → ⊥) → HasBest before need (suc most) ⊎ HasNone before need (suc most)
    next_best rules before need most (inl found) (inl good) = inl (best_step rules before need most found.0 found.1 found.2 good (is_before need most found.0) refl)
    next_best rules before need most (inl found) (inr never) = inl (found.0, found.1, kept before need most found.0 found.2 (λ good. absurd (never good)))
    next_best rules before need most (inr none) (inl good) = inl (first_best rules before need most none good)
    next_best rules before need most (inr none) (inr never) = inr (no_more before need most none never)

    best : Rules → (before : List ℕ) (need : Need) (most : ℕ) → HasBest before need most ⊎ HasNone before need most
    best rules before need zero = inr (λ other less good. omega (arith, less))
    best rules before need (suc most) = next_best rules before need most (best rules before need most) (good_or_not before need most)

    -- the first choice behind those of a list that some valid set has
    chosen : Rules → (before : List ℕ) (need : Need) (set : Chosen) → length set ≡ count → is_valid set ≡ true → has_all set before ≡ true → unmet before ≡ Some need
        → (choice : ℕ) × IsFirst before choice × (choice < count) × (is_in choice before ≡ false) × Extends before choice
    chosen rules before need set size valid all e = by (best rules before need count)
      where
        by : HasBest before need count ⊎ HasNone before need count → (choice : ℕ) × IsFirst before choice × (choice < count) × (is_in choice before ≡ false) × Extends before choice
        by (inl found) = (
          found.0,
          (need, e, found.1.0, λ other alternative less extends. absurd (false≢true (sym (found.2 other (below need other alternative) (alternative, extends)) ∙ less))),
          below need found.0 found.1.0,
          rules.fresh before need found.0 e found.1.0,
          found.1.1,
        )
        by (inr none) = let met = rules.met before need set size valid all e in absurd (none met.0 (below need met.0 met.1) (met.1, (set, size, valid, all, met.2)))

    -- what stands behind a list of first choices
    abbrev pub HasRest : List ℕ → Type 0
    HasRest before = (behind : List ℕ) × AreFirst before behind × (is_valid (set_of count (before ++ behind)) ≡ true)

    has_all_more : (set : Chosen) (list : List ℕ) (number : ℕ) → has_all set list ≡ true → has set number ≡ true → has_all set (list ++ number ∷ []) ≡ true
    has_all_more set [] number all e = both_true (has set number) true e refl
    has_all_more set (first ∷ others) number all e = both_true (has set first) (has_all set (others ++ number ∷ [])) (left_true (has set first) (has_all set others) all) (has_all_more set others number (right_true (has set first) (has_all set others) all) e)

    nothing_behind : (list : List ℕ) → list ++ [] ≡ list
    nothing_behind [] = refl
    nothing_behind (first ∷ others) = ap (λ rest. first ∷ rest) (nothing_behind others)

    ended : Rules → (before : List ℕ) (set : Chosen) → length set ≡ count → is_valid set ≡ true → has_all set before ≡ true → unmet before ≡ None → HasRest before
    ended rules before set size valid all e = ([], e, subst (λ list. is_valid (set_of count list) ≡ true) (sym (nothing_behind before)) (rules.done before set size valid all e))

    longer : (before : List ℕ) (choice : ℕ) → IsFirst before choice → HasRest (before ++ choice ∷ []) → HasRest before
    longer before choice first rest = (choice ∷ rest.0, (first, rest.1), subst (λ list. is_valid (set_of count list) ≡ true) (append_assoc before (choice ∷ []) rest.0) rest.2)

    more : Rules → (left : ℕ) (before : List ℕ) → missing count before ≤ left → (set : Chosen) → length set ≡ count → is_valid set ≡ true → has_all set before ≡ true → (first : Option Need) → unmet before ≡ first → HasRest before
    more rules left before fits set size valid all None e = ended rules before set size valid all e
    more rules zero before fits set size valid all (Some need) e =
        let choice = chosen rules before need set size valid all e in
        absurd (omega (arith, fits, missing_less count before choice.0 choice.2 choice.3))
    more rules (suc left) before fits set size valid all (Some need) e =
        let choice = chosen rules before need set size valid all e in
        let behind = before ++ choice.0 ∷ [] in
        let extends = choice.4 in
        longer before choice.0 choice.1 (more rules left behind (omega (arith, fits, missing_less count before choice.0 choice.2 choice.3)) extends.0 extends.1 extends.2 (has_all_more extends.0 before choice.0 extends.3 extends.4) (unmet behind) refl)

    -- where a valid set exists, so does a list of first choices
    pub exists : Rules → (set : Chosen) → length set ≡ count → is_valid set ≡ true → (plan : List ℕ) × AreFirst [] plan × (is_valid (set_of count plan) ≡ true)
    exists rules set size valid = more rules (missing count []) [] (omega arith) set size valid refl (unmet []) refl
