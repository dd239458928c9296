-- What a search finds out: which alternatives no valid set has, and that what it ends with is the plan.
use Rattle.std.proofs.Common.{◌≡◌, ℕ, zero, suc, ◌+◌, ◌*◌, ◌<◌, ◌≤◌, Bool, true, false, eqb, List, [], ◌∷◌, ◌++◌, length, Option, Some, None, is_none, refl, sym, ap, subst, ◌∙◌, append_assoc, arith, inl, inr}
use Rattle.std.specs.Prelude.{◌⊎◌, ◌&&◌, ◌||◌, ◌==◌}
use Rattle.std.specs.Option.{MatchOption, option_or}
use Rattle.std.specs.List.{slice_get}
use Rattle.std.proofs.lemmas.List.{append-nil}
use Rattle.std.proofs.lemmas.Option.{slice_get_within}
use Rattle.std.proofs.lemmas.Bool.{false≢true}
use Rattle.manifest_read.specs.declared.types.Link.{Link}
use Rattle.pkg_pool.specs.declared.pool.Pool.{Pool}
use Rattle.plan_rules.specs.declared.rule.Rule.{Rule}
use Rattle.plan_rules.specs.Sets.{Chosen, IsWithin, has, is_in, has_all, set_from, set_of}
use Rattle.plan_rules.specs.Validity.{members, parties, not_allowed, two_owners, unmet, conflict, platform, first_broken, is_valid}
use Rattle.plan_rules.specs.Preference.{AreSorted, is_preferred}
use Rattle.plan_rules.specs.FirstChoice.{Extends, IsFirst, AreFirst, IsFirstChoice, first_unmet}
use Rattle.plan_rules.proofs.FirstChoices.{in_more}
use Rattle.plan_rules.proofs.Plans.{met, own_within, unmet_of_lists, below, fresh}
use Rattle.plan_rules.proofs.PreferenceOrder.{preferred_on, not_preferred_itself}
use Rattle.plan_rules.proofs.LargerSets.{allowed_below, owners_below, conflict_below, platform_below}
use Rattle.plan_solve.specs.declared.search.Pending.{Pending}
use Rattle.plan_solve.specs.declared.search.Choice.{Choice}
use Rattle.plan_solve.specs.Answers.{HasNoPlan}
use Rattle.plan_rules.specs.Fitting.{BreaksNone}
use Rattle.plan_solve.specs.Search.{IsPending, IsSearched, AreChosen, CanJoin, chosen, work}
use Rattle.plan_solve.proofs.Choices.{chosen_more, one_more, but_last, last_pending, last_found, is_one_of, has_room}
use Rattle.plan_solve.proofs.Work.{work_passed, work_chosen, work_back}

first_is : (first choice : ℕ) → Some first ≡ Some choice → first ≡ choice
first_is first choice e = cc

is_number : (a b : ℕ) → (a == b) ≡ true → a ≡ b
is_number a b e = grind (arith, e)

-- ---- sets that break no rule

-- all the rules of a set, that of requirements among them
abbrev AllKept : Pool → Chosen → Type 0
AllKept pool set = (not_allowed pool (members pool set) ≡ None) × (two_owners (parties pool set) ≡ None) × (unmet pool set ≡ None) × (conflict pool set ≡ None) × (platform pool set ≡ None)

five : (a b c d e : Option Rule) → is_none (option_or a (option_or b (option_or c (option_or d e)))) ≡ true → (a ≡ None) × (b ≡ None) × (c ≡ None) × (d ≡ None) × (e ≡ None)
five None None None None None none = (refl, refl, refl, refl, refl)
five (Some a) b c d e none = absurd (false≢true none)
five None (Some b) c d e none = absurd (false≢true none)
five None None (Some c) d e none = absurd (false≢true none)
five None None None (Some d) e none = absurd (false≢true none)
five None None None None (Some e) none = absurd (false≢true none)

all_kept : (pool : Pool) (set : Chosen) → is_valid pool set ≡ true → AllKept pool set
unfolding first_broken
all_kept pool set valid = five (not_allowed pool (members pool set)) (two_owners (parties pool set)) (unmet pool set) (conflict pool set) (platform pool set) valid

all_valid : (pool : Pool) (list : List ℕ) → BreaksNone pool list → unmet pool (set_of (length pool.candidates) list) ≡ None → is_valid pool (set_of (length pool.candidates) list) ≡ true
unfolding first_broken
all_valid pool list none met = rw (none.allowed, none.owners, met, none.conflict, none.platform) refl

-- a list breaks no rule that is within a set that breaks none
pub breaks_none : (pool : Pool) (list : List ℕ) (set : Chosen) → is_valid pool set ≡ true → has_all set list ≡ true → BreaksNone pool list
breaks_none pool list set valid all =
    let within = own_within (length pool.candidates) list set all in
    let kept = all_kept pool set valid in
    record {
      allowed = allowed_below pool (set_of (length pool.candidates) list) set within kept.0;
      owners = owners_below pool (set_of (length pool.candidates) list) set within kept.1;
      conflict = conflict_below pool (set_of (length pool.candidates) list) set within kept.3;
      platform = platform_below pool (set_of (length pool.candidates) list) set within kept.4;
    }

both_true : (s t : Bool) → s ≡ true → t ≡ true → (s && t) ≡ true
both_true s t e f = rw (e, f) refl

left_true : (s t : Bool) → (s && t) ≡ true → s ≡ true
left_true true t e = refl
left_true false t e = e

right_true : (s t : Bool) → (s && t) ≡ true → t ≡ true
right_true true t e = e
right_true false t e = absurd (false≢true e)

pub has_all_more : (set : Chosen) (list : List ℕ) (number : ℕ) → has_all set list ≡ true → has set number ≡ true → has_all set (list ++ number ∷ []) ≡ true
has_all_more set [] number all e = both_true (has set number) true e refl
has_all_more set (first ∷ others) number all e = both_true (has set first) (has_all set (others ++ number ∷ [])) (left_true (has set first) (has_all set others) all) (has_all_more set others number (right_true (has set first) (has_all set others) all) e)

has_all_front : (set : Chosen) (list : List ℕ) (number : ℕ) → has_all set (list ++ number ∷ []) ≡ true → (has_all set list ≡ true) × (has set number ≡ true)
has_all_front set [] number all = (refl, left_true (has set number) true all)
has_all_front set (first ∷ others) number all =
    let rest = has_all_front set others number (right_true (has set first) (has_all set (others ++ number ∷ [])) all) in
    (both_true (has set first) (has_all set others) (left_true (has set first) (has_all set (others ++ number ∷ [])) all) rest.0, rest.1)

-- ---- alternatives that were passed

-- no valid set has a list and one more that breaks a rule beside it
pub unfit_is_dead : (pool : Pool) (before : List ℕ) (choice : ℕ) → (BreaksNone pool (before ++ choice ∷ []) → ⊥) → Extends pool before choice → ⊥
unfit_is_dead pool before choice unfit extends = unfit (breaks_none pool (before ++ choice ∷ []) extends.set extends.valid (has_all_more extends.set before choice extends.has_before extends.has_choice))

same_get : (list : List ℕ) (number choice other : ℕ) → slice_get list number ≡ Some choice → slice_get list number ≡ Some other → choice ≡ other
same_get list number choice other e f = cc

below_or_at : (number most : ℕ) → number < suc most → (number < most) ⊎ (number ≡ most)
below_or_at number most less = split (eqb number most) refl
  where
    split : (t : Bool) → eqb number most ≡ t → (number < most) ⊎ (number ≡ most)
    split true e = inr (grind (arith, e))
    split false e = inl (grind (arith, e, less))

-- one more alternative was passed
abbrev pub passing : Pending → Pending
passing pending = record { place = pending.place; alternatives = pending.alternatives; passed = suc pending.passed }

pub one_passed : (pool : Pool) (before : List ℕ) (pending : Pending) (choice : ℕ) → IsPending pool before pending → slice_get pending.alternatives.items pending.passed ≡ Some choice → (Extends pool before choice → ⊥) → IsPending pool before (passing pending)
one_passed pool before pending choice is found dead = record { need = is.need; unmet = is.unmet; there = is.there; earlier = is.earlier; alternatives = is.alternatives; passed = each }
  where
    by : (number other : ℕ) → (number < pending.passed) ⊎ (number ≡ pending.passed) → slice_get pending.alternatives.items number ≡ Some other → Extends pool before other → ⊥
    by number other (inl less) at = is.passed number other less at
    by number other (inr same) at = λ extends. dead (subst (λ n. Extends pool before n) (same_get pending.alternatives.items pending.passed other choice (ap (slice_get pending.alternatives.items) (sym same) ∙ at) found) extends)

    each : (number other : ℕ) → number < suc pending.passed → slice_get pending.alternatives.items number ≡ Some other → Extends pool before other → ⊥
    each number other less at = by number other (below_or_at number pending.passed less) at

-- ---- nothing is left

-- where a number stands in a list
abbrev IsAt : List ℕ → ℕ → Type 0
IsAt list choice = (number : ℕ) × (number < length list) × (slice_get list number ≡ Some choice)

one_later : (first choice : ℕ) (others : List ℕ) → IsAt others choice → IsAt (first ∷ others) choice
one_later first choice others at = (suc at.0, omega (arith, at.1), at.2)

in_range : (list : List ℕ) (choice : ℕ) → is_in choice list ≡ true → IsAt list choice
in_range [] choice e = absurd (false≢true e)
in_range (first ∷ others) choice e = by (first == choice) refl e (λ there. in_range others choice there)
  where
    by : (t : Bool) → (first == choice) ≡ t → (t || is_in choice others) ≡ true → (is_in choice others ≡ true → IsAt others choice) → IsAt (first ∷ others) choice
    by true same there later = (0, omega arith, ap Some (is_number first choice same))
    by false apart there later = one_later first choice others (later there)

-- No valid set has a list where all alternatives of its first unmet requirement were passed.
pub none_extends : (pool : Pool) (before : List ℕ) (pending : Pending) → IsPending pool before pending → length pending.alternatives.items ≤ pending.passed
    → (set : Chosen) → length set ≡ length pool.candidates → is_valid pool set ≡ true → has_all set before ≡ true → ⊥
none_extends pool before pending is all set size valid has_before =
    let choice = met pool before is.need set size valid has_before is.unmet in
    let at = in_range pending.alternatives.items choice.0 (is.alternatives.all choice.0 ∙ choice.1) in
    is.passed at.0 choice.0 (omega (arith, at.1, all)) at.2 (record { set = set; is_of_pool = size; valid = valid; has_before = has_before; has_choice = choice.2 })

-- so no valid set has the last choice beside those before it
pub last_is_dead : (pool : Pool) (before : List ℕ) (choice : ℕ) (pending : Pending) → IsPending pool (before ++ choice ∷ []) pending → length pending.alternatives.items ≤ pending.passed → Extends pool before choice → ⊥
last_is_dead pool before choice pending is all extends = none_extends pool (before ++ choice ∷ []) pending is all extends.set extends.is_of_pool extends.valid (has_all_more extends.set before choice extends.has_before extends.has_choice)

-- ---- the plan

-- what is preferred to one of some sorted alternatives, and is another one of them, stands before it
abbrev StandsBefore : List ℕ → ℕ → ℕ → Type 0
StandsBefore list place other = (number : ℕ) × (number < place) × (slice_get list number ≡ Some other)

before_later : (first other place : ℕ) (others : List ℕ) → StandsBefore others place other → StandsBefore (first ∷ others) (suc place) other
before_later first other place others at = (suc at.0, omega (arith, at.1), at.2)

stands_before : (pool : Pool) (need : Link) (list : List ℕ) (place choice other : ℕ) → AreSorted pool need list → slice_get list place ≡ Some choice → is_in other list ≡ true
    → is_preferred pool need other choice ≡ true → StandsBefore list place other
stands_before pool need [] place choice other sorted found there preferred = absurd (false≢true there)
stands_before pool need (first ∷ others) zero choice other sorted found there preferred = by (first == other) refl there
  where
    is_first : is_preferred pool need other first ≡ true
    is_first = subst (λ n. is_preferred pool need other n ≡ true) (sym (first_is first choice found)) preferred

    never : is_preferred pool need first first ≡ true → StandsBefore (first ∷ others) zero other
    never e = absurd (false≢true (sym (not_preferred_itself pool need first) ∙ e))

    by : (t : Bool) → (first == other) ≡ t → (t || is_in other others) ≡ true → StandsBefore (first ∷ others) zero other
    by true same behind = never (subst (λ n. is_preferred pool need n first ≡ true) (sym (is_number first other same)) is_first)
    by false apart behind = never (preferred_on pool need first other first (sorted.0 other behind) is_first)
stands_before pool need (first ∷ others) (suc place) choice other sorted found there preferred =
    by (first == other) refl there (λ behind. stands_before pool need others place choice other sorted.1 found behind preferred)
  where
    by : (t : Bool) → (first == other) ≡ t → (t || is_in other others) ≡ true → (is_in other others ≡ true → StandsBefore others place other) → StandsBefore (first ∷ others) (suc place) other
    by true same behind later = (0, omega arith, ap Some (is_number first other same))
    by false apart behind later = before_later first other place others (later behind)

-- the alternative behind those that were passed is the first choice
is_first_choice : (pool : Pool) (before : List ℕ) (pending : Pending) (choice : ℕ) → IsPending pool before pending → slice_get pending.alternatives.items pending.passed ≡ Some choice → IsFirst pool before choice
is_first_choice pool before pending choice is found = record {
  need = is.need;
  unmet = is.unmet;
  alternative = is_one_of pool before pending choice is found;
  none_preferred = λ other alternative preferred.
      let at = stands_before pool is.need pending.alternatives.items pending.passed choice other is.alternatives.sorted found (is.alternatives.all other ∙ alternative) preferred in
      is.passed at.0 other at.1 at.2;
}

pub are_first : (pool : Pool) (before : List ℕ) (choices : List Choice) → AreChosen pool before choices → first_unmet pool (before ++ chosen choices) ≡ None → AreFirst pool before (chosen choices)
are_first pool before [] made none = ap (first_unmet pool) (sym (append-nil before)) ∙ none
are_first pool before (choice ∷ choices) made none = (
  is_first_choice pool before choice.of choice.member made.0 made.1,
  are_first pool (before ++ choice.member ∷ []) choices made.2 (ap (first_unmet pool) (append_assoc before (choice.member ∷ []) (chosen choices)) ∙ none),
)

-- where nothing is unmet, the choices are the plan
pub is_plan : (pool : Pool) (choices : List Choice) → AreChosen pool [] choices → BreaksNone pool (chosen choices) → first_unmet pool (chosen choices) ≡ None → IsFirstChoice pool (chosen choices)
is_plan pool choices made sound none = record {
  valid = all_valid pool (chosen choices) sound (unmet_of_lists pool (chosen choices) none);
  choices = are_first pool [] choices made none;
}

-- ---- going back

longer_within : (count at : ℕ) (list : List ℕ) (choice number : ℕ) → has (set_from count at list) number ≡ true → has (set_from count at (list ++ choice ∷ [])) number ≡ true
longer_within zero at list choice number e = e
longer_within (suc count) at list choice zero e = in_more list (choice ∷ []) at e
longer_within (suc count) at list choice (suc number) e = longer_within count (suc at) list choice number e

-- a list without its last one breaks no rule either
pub sound_before : (pool : Pool) (list : List ℕ) (choice : ℕ) → BreaksNone pool (list ++ choice ∷ []) → BreaksNone pool list
sound_before pool list choice sound =
    let within : IsWithin (set_of (length pool.candidates) list) (set_of (length pool.candidates) (list ++ choice ∷ [])) = longer_within (length pool.candidates) 0 list choice in
    record {
      allowed = allowed_below pool (set_of (length pool.candidates) list) (set_of (length pool.candidates) (list ++ choice ∷ [])) within sound.allowed;
      owners = owners_below pool (set_of (length pool.candidates) list) (set_of (length pool.candidates) (list ++ choice ∷ [])) within sound.owners;
      conflict = conflict_below pool (set_of (length pool.candidates) list) (set_of (length pool.candidates) (list ++ choice ∷ [])) within sound.conflict;
      platform = platform_below pool (set_of (length pool.candidates) list) (set_of (length pool.candidates) (list ++ choice ∷ [])) within sound.platform;
    }

-- ---- the steps

pub at_number : {X : Type 0} (xs : List X) (number : ℕ) → number < length xs → (x : X) × (slice_get xs number ≡ Some x)
at_number [] number less = absurd (omega (arith, less))
at_number (x ∷ xs) zero less = (x, refl)
at_number (x ∷ xs) (suc number) less = at_number xs number (omega (arith, less))

-- passing an alternative that no valid set has
pub pass_searched : (pool : Pool) (choices : List Choice) (pending : Pending) → IsSearched pool choices pending → pending.passed < length pending.alternatives.items
    → ((choice : ℕ) → slice_get pending.alternatives.items pending.passed ≡ Some choice → Extends pool (chosen choices) choice → ⊥)
    → IsSearched pool choices (record { place = pending.place; alternatives = pending.alternatives; passed = pending.passed + 1 })
pass_searched pool choices pending searched more dead =
    let at = at_number pending.alternatives.items pending.passed more in
    record {
      made = searched.made;
      sound = searched.sound;
      next = subst (λ n. IsPending pool (chosen choices) (record { place = pending.place; alternatives = pending.alternatives; passed = n })) (omega arith)
          (one_passed pool (chosen choices) pending at.0 searched.next at.1 (dead at.0 at.1));
    }

pub less_passed : (pool : Pool) (choices : List Choice) (pending : Pending) → pending.passed < length pending.alternatives.items
    → work pool choices (record { place = pending.place; alternatives = pending.alternatives; passed = pending.passed + 1 }) < work pool choices pending
less_passed pool choices pending more = work_passed (suc (2 * length pool.candidates)) (length pool.candidates) choices pending (record { place = pending.place; alternatives = pending.alternatives; passed = pending.passed + 1 }) (omega (arith, more))

has_none : (set : Chosen) (choices : List Choice) → length choices ≡ 0 → has_all set (chosen choices) ≡ true
has_none set [] none = refl
has_none set (choice ∷ choices) none = absurd (omega (arith, none))

-- no choice is left to take back: no set is valid
pub none_valid : (pool : Pool) (choices : List Choice) (pending : Pending) → IsSearched pool choices pending → length pending.alternatives.items ≤ pending.passed → length choices ≡ 0
    → HasNoPlan pool
none_valid pool choices pending searched all none set size = by (is_valid pool set) refl
  where
    by : (t : Bool) → is_valid pool set ≡ t → t ≡ false
    by false e = refl
    by true e = absurd (none_extends pool (chosen choices) pending searched.next all set size e (has_none set choices none))

-- a choice is taken back
pub back_more : (pool : Pool) (choices : List Choice) (choice : Choice) (pending : Pending) → IsSearched pool (choices ++ choice ∷ []) pending → choice.of.passed < length choice.of.alternatives.items
back_more pool choices choice pending searched = slice_get_within choice.of.alternatives.items choice.of.passed choice.member (last_found pool [] choices choice searched.made)

pub back_searched : (pool : Pool) (choices : List Choice) (choice : Choice) (pending : Pending) → IsSearched pool (choices ++ choice ∷ []) pending → length pending.alternatives.items ≤ pending.passed
    → IsSearched pool choices (record { place = choice.of.place; alternatives = choice.of.alternatives; passed = choice.of.passed + 1 })
back_searched pool choices choice pending searched all =
    let behind = subst (λ list. IsPending pool list pending) (chosen_more choices choice) searched.next in
    record {
      made = but_last pool [] choices choice searched.made;
      sound = sound_before pool (chosen choices) choice.member (subst (BreaksNone pool) (chosen_more choices choice) searched.sound);
      next = subst (λ n. IsPending pool (chosen choices) (record { place = choice.of.place; alternatives = choice.of.alternatives; passed = n })) (omega arith)
          (one_passed pool (chosen choices) choice.of choice.member (last_pending pool [] choices choice searched.made) (last_found pool [] choices choice searched.made)
          (last_is_dead pool (chosen choices) choice.member pending behind all));
    }

pub back_less : (pool : Pool) (choices : List Choice) (choice : Choice) (pending : Pending)
    → work pool choices (record { place = choice.of.place; alternatives = choice.of.alternatives; passed = choice.of.passed + 1 }) < work pool (choices ++ choice ∷ []) pending
back_less pool choices choice pending = work_back (suc (2 * length pool.candidates)) (length pool.candidates) choices choice pending (record { place = choice.of.place; alternatives = choice.of.alternatives; passed = choice.of.passed + 1 }) (omega arith)

-- a choice is made, and another requirement is unmet
pub choose_searched : (pool : Pool) (choices : List Choice) (pending next : Pending) (member : ℕ) → IsSearched pool choices pending → slice_get pending.alternatives.items pending.passed ≡ Some member
    → BreaksNone pool (chosen choices ++ member ∷ []) → IsPending pool (chosen choices ++ member ∷ []) next
    → IsSearched pool (choices ++ record { of = pending; member = member } ∷ []) next
choose_searched pool choices pending next member searched found sound is = record {
  made = one_more pool [] choices (record { of = pending; member = member }) searched.made searched.next found;
  next = subst (λ list. IsPending pool list next) (sym (chosen_more choices (record { of = pending; member = member }))) is;
  sound = subst (BreaksNone pool) (sym (chosen_more choices (record { of = pending; member = member }))) sound;
}

pub choose_less : (pool : Pool) (choices : List Choice) (pending next : Pending) (member : ℕ) → IsSearched pool choices pending → slice_get pending.alternatives.items pending.passed ≡ Some member
    → length next.alternatives.items ≤ length pool.candidates
    → work pool (choices ++ record { of = pending; member = member } ∷ []) next < work pool choices pending
choose_less pool choices pending next member searched found few =
    work_chosen (suc (2 * length pool.candidates)) (length pool.candidates) choices (record { of = pending; member = member }) pending next
    (has_room pool choices pending member searched.made searched.next found)
    (omega (arith, slice_get_within pending.alternatives.items pending.passed member found)) (omega (arith, few))

-- no valid set has the next alternative
pub next_is_dead : (pool : Pool) (before : List ℕ) (member choice : ℕ) (got : Option ℕ) → got ≡ Some member → got ≡ Some choice → (Extends pool before member → ⊥) → Extends pool before choice → ⊥
next_is_dead pool before member choice got e f dead extends = dead (subst (λ n. Extends pool before n) is extends)
  where
    is : choice ≡ member
    is = cc

-- the last choice, behind which nothing is unmet
pub last_choice : (pool : Pool) (choices : List Choice) (pending : Pending) (member : ℕ) → IsSearched pool choices pending → slice_get pending.alternatives.items pending.passed ≡ Some member
    → BreaksNone pool (chosen choices ++ member ∷ []) → first_unmet pool (chosen choices ++ member ∷ []) ≡ None → IsFirstChoice pool (chosen choices ++ member ∷ [])
last_choice pool choices pending member searched found sound none =
    let more = chosen_more choices (record { of = pending; member = member }) in
    subst (IsFirstChoice pool) more (is_plan pool (choices ++ record { of = pending; member = member } ∷ [])
    (one_more pool [] choices (record { of = pending; member = member }) searched.made searched.next found)
    (subst (BreaksNone pool) (sym more) sound) (ap (first_unmet pool) more ∙ none))

-- a root that breaks a rule alone has no plan
pub root_unfit : (pool : Pool) → (BreaksNone pool [] → ⊥) → HasNoPlan pool
root_unfit pool unfit set size = by (is_valid pool set) refl
  where
    by : (t : Bool) → is_valid pool set ≡ t → t ≡ false
    by false e = refl
    by true e = absurd (unfit (breaks_none pool [] set e refl))

pub root_alone : (pool : Pool) → BreaksNone pool [] → first_unmet pool [] ≡ None → IsFirstChoice pool []
root_alone pool sound none = is_plan pool [] tt sound none

-- ---- what a search asks

-- the next alternative can be asked whether it fits
pub joins : (pool : Pool) (choices : List Choice) (pending : Pending) (member : ℕ) → IsSearched pool choices pending → slice_get pending.alternatives.items pending.passed ≡ Some member → CanJoin pool (chosen choices) member
joins pool choices pending member searched found =
    let alternative = is_one_of pool (chosen choices) pending member searched.next found in
    record {
      within = below pool searched.next.need member alternative;
      new = fresh pool (chosen choices) searched.next.need member searched.next.unmet alternative;
      sound = searched.sound;
    }

-- the last choice is none of those before it
pub last_is_new : (pool : Pool) (choices : List Choice) (choice : Choice) (pending : Pending) → IsSearched pool (choices ++ choice ∷ []) pending → is_in choice.member (chosen choices) ≡ false
last_is_new pool choices choice pending searched =
    let is = last_pending pool [] choices choice searched.made in
    fresh pool (chosen choices) is.need choice.member is.unmet (is_one_of pool (chosen choices) choice.of choice.member is (last_found pool [] choices choice searched.made))

-- ---- tests, and values that may be missing

pub not_both : (t : Bool) → t ≡ false → t ≡ true → ⊥
not_both t e f = false≢true (sym e ∙ f)

pub or_false : (t : Bool) → (t || false) ≡ t
or_false true = refl
or_false false = refl

pub when_none : {X A : Type 0} (B : X → Type 0) (o : Option X) → o ≡ None → MatchOption o A B → A
when_none B None e is = is
when_none B (Some x) e is = absurd cc

pub when_some : {X : Type 0} (A : Type 0) (B : X → Type 0) (o : Option X) (x : X) → o ≡ Some x → MatchOption o A B → B x
when_some A B None x e is = absurd cc
when_some A B (Some y) x e is = subst B (same y x e) is
  where
    same : {X : Type 0} (a b : X) → Some a ≡ Some b → a ≡ b
    same a b e = cc
