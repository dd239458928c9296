-- The order of packages has each once, and where requirements don't go round, what one requires before it.
use Rattle.std.proofs.Common.{◌≡◌, ◌≢◌, ℕ, zero, suc, ◌+◌, ◌<◌, Bool, true, false, cond, not, List, [], ◌∷◌, length, get_or, map, filter, find, Option, Some, refl, sym, ap, subst, ◌∙◌, arith, inl, inr}
use Rattle.std.specs.Prelude.{◌==◌, ◌&&◌, nat_lt}
use Rattle.std.specs.List.{AllByRecursion, Contains, list_any, enumerate_from, slice_get, range_with_len}
use Rattle.std.specs.Option.{option_or, option_map_or}
use Rattle.std.specs.Ordering.{is_lt}
use Rattle.std.specs.List.Sorted.{IsPermutation}
use Rattle.std.specs.declared.cmp.Ordering.{Ordering}
use Rattle.std.specs.declared.cmp.Ordering.TheVariants.{Less, Equal, Greater}
use Rattle.std.proofs.lemmas.Bool.{false≢true}
use Rattle.std.proofs.lemmas.Bool.Decides.{nat_tests, eqb_tells}
use Rattle.std.proofs.lemmas.Cmp.{tied_itself}
use Rattle.std.proofs.lemmas.List.Sorted.{IsPermutation-refl, IsPermutation-sym, IsPermutation-cons, IsPermutation-trans, IsPermutation-map, Contains-permutation, length_permutation}
use Rattle.path_name.specs.Orders.{byte_cmp, byte_cmp_total}
use Rattle.psr_routes.specs.declared.types.Placed.{Placed}
use Rattle.psr_routes.specs.PackageOrder.{Numbered, requires, waits_for, is_ready, is_less, least_of, next_of, without, taken_from, ordered, package_order_of, Requires, HasNoCycle, StandsBefore}
use Rattle.psr_routes.proofs.Chosen.{Member, IsAt, all_member, member_filter, filter_member, member_any, any_none, filter_all, Ascends, ascending, ascending_filter, numbered, enumerated}

-- ---- a least one

pub record Least (less : Numbered → Numbered → Bool) (some : List Numbered) : Type 0 where
  pub one : Numbered
  pub within : Member one some
  pub least : (other : Numbered) → Member other some → less other one ≡ false

module _ (less : Numbered → Numbered → Bool) (itself : (x : Numbered) → less x x ≡ false) (after : (x y z : Numbered) → less x y ≡ true → less y z ≡ true → less x z ≡ true) where
  least_first : (x : Numbered) (some : List Numbered) (found : Least less some) → less x found.one ≡ true → Least less (x ∷ some)
  least_first x some found e = record { one = x; within = inl refl; least = each }
    where
      by : (y : Numbered) (t : Bool) → Member y some → less y x ≡ t → t ≡ false
      by y true there f = absurd (false≢true (sym (found.least y there) ∙ after y x found.one f e))
      by y false there f = refl

      each : (y : Numbered) → Member y (x ∷ some) → less y x ≡ false
      each y (inl same) = subst (λ z. less z x ≡ false) same (itself x)
      each y (inr there) = by y (less y x) there refl

  least_behind : (x : Numbered) (some : List Numbered) (found : Least less some) → less x found.one ≡ false → Least less (x ∷ some)
  least_behind x some found e = record { one = found.one; within = inr found.within; least = each }
    where
      each : (y : Numbered) → Member y (x ∷ some) → less y found.one ≡ false
      each y (inl same) = subst (λ z. less z found.one ≡ false) same e
      each y (inr there) = found.least y there

  least_step : (t : Bool) (x : Numbered) (some : List Numbered) (found : Least less some) → less x found.one ≡ t → Least less (x ∷ some)
  least_step true x some found e = least_first x some found e
  least_step false x some found e = least_behind x some found e

  alone : (x y : Numbered) → Member y (x ∷ []) → less y x ≡ false
  alone x y (inl same) = subst (λ z. less z x ≡ false) same (itself x)
  alone x y (inr there) = absurd there

  pub least_one : (x : Numbered) (some : List Numbered) → Least less (x ∷ some)
  least_one x [] = record { one = x; within = inl refl; least = alone x }
  least_one x (y ∷ some) = least_step (less x (least_one y some).one) x (y ∷ some) (least_one y some) refl

less_is : (o : Ordering) → is_lt o ≡ true → o ≡ Less
less_is Less e = refl
less_is Equal e = absurd (false≢true e)
less_is Greater e = absurd (false≢true e)

least_name : (x : Numbered) (some : List Numbered) → Least is_less (x ∷ some)
least_name = least_one is_less
    (λ x. ap is_lt (tied_itself byte_cmp_total x.1.package.name))
    (λ x y z e f. ap is_lt (byte_cmp_total.trans x.1.package.name y.1.package.name z.1.package.name (less_is (byte_cmp x.1.package.name y.1.package.name) e) (less_is (byte_cmp y.1.package.name z.1.package.name) f)))

-- ---- there is a next one

pub record Chosen (chosen : Option Numbered) (some : List Numbered) : Type 0 where
  pub one : Numbered
  pub is : chosen ≡ Some one
  pub within : Member one some

found_step : (p : Numbered → Bool) (t : Bool) (x y : Numbered) (some : List Numbered) → p y ≡ t → p x ≡ true → Member x (y ∷ some) → (Member x some → Chosen (find p some) some) → Chosen (cond t (Some y) (find p some)) (y ∷ some)
found_step p true x y some e passes there rest = record { one = y; is = refl; within = inl refl }
found_step p false x y some e passes (inl same) rest = absurd (false≢true (sym e ∙ ap p same ∙ passes))
found_step p false x y some e passes (inr there) rest = let behind = rest there in record { one = behind.one; is = behind.is; within = inr behind.within }

found_some : (p : Numbered → Bool) (some : List Numbered) (x : Numbered) → Member x some → p x ≡ true → Chosen (find p some) some
found_some p [] x found passes = absurd found
found_some p (y ∷ some) x found passes = found_step p (p y) x y some refl passes found (λ there. found_some p some x there passes)

least_chosen : (x : Numbered) (some : List Numbered) → Chosen (least_of (x ∷ some)) (x ∷ some)
least_chosen x some =
    let least = least_name x some in
    found_some (λ one. not (list_any (λ other. is_less other one) (x ∷ some))) (x ∷ some) least.one least.within (ap not (any_none (λ other. is_less other least.one) (x ∷ some) least.least))

-- of those that are ready, where some are
ready_chosen : (remaining some : List Numbered) → some ≡ filter (is_ready remaining) remaining → (x : Numbered) → Member x some → Chosen (next_of remaining) some
ready_chosen remaining [] e x found = absurd found
ready_chosen remaining (y ∷ some) e x found =
    let first = least_chosen y some in
    record { one = first.one; is = ap (λ ready. option_or (least_of ready) (least_of remaining)) (sym e) ∙ ap (λ chosen. option_or chosen (least_of remaining)) first.is; within = first.within }

pub next_chosen : (x : Numbered) (some : List Numbered) → Chosen (next_of (x ∷ some)) (x ∷ some)
next_chosen x some = by (filter (is_ready (x ∷ some)) (x ∷ some)) refl
  where
    by : (ready : List Numbered) → ready ≡ filter (is_ready (x ∷ some)) (x ∷ some) → Chosen (next_of (x ∷ some)) (x ∷ some)
    by [] e = let first = least_chosen x some in record { one = first.one; is = ap (λ ready. option_or (least_of ready) (least_of (x ∷ some))) (sym e) ∙ first.is; within = first.within }
    by (y ∷ ready) e =
        let first = ready_chosen (x ∷ some) (y ∷ ready) e y (inl refl) in
        record { one = first.one; is = first.is; within = (member_filter (is_ready (x ∷ some)) (x ∷ some) first.one (subst (Member first.one) e first.within)).0 }

-- ---- each once

swapped : (x y : Numbered) (some : List Numbered) → IsPermutation (x ∷ y ∷ some) (y ∷ x ∷ some)
swapped x y some = record { moves = (0, 1) ∷ []; below = (omega arith, omega arith, tt); is = refl }

greater_apart : (n place : ℕ) → place < n → (n == place) ≡ false
greater_apart n place less = grind (arith, nat_tests)

lesser_apart : (a b : ℕ) → a < b → (a == b) ≡ false
lesser_apart a b less = grind (arith, nat_tests)

-- those with another place
others : (place : ℕ) (some : List Numbered) → AllByRecursion (λ y. place < y.0) some → without place some ≡ some
others place some all = filter_all (λ one. not (one.0 == place)) some (λ y there. ap not (greater_apart y.0 place (all_member (λ z. place < z.0) some y all there)))

equal : (n : ℕ) → (n == n) ≡ true
equal n = grind (arith, nat_tests)

pub to_front : (some : List Numbered) (x : Numbered) → Ascends some → Member x some → IsPermutation some (x ∷ without x.0 some)
to_front [] x ascends found = absurd found
to_front (y ∷ some) x ascends (inl same) =
    subst (λ z. IsPermutation (y ∷ some) (z ∷ without z.0 (y ∷ some))) same
    (rw (equal y.0, others y.0 some ascends.0) (IsPermutation-refl (y ∷ some)))
to_front (y ∷ some) x ascends (inr there) =
    let less : y.0 < x.0 = all_member (λ z. y.0 < z.0) some x ascends.0 there in
    rw (lesser_apart y.0 x.0 less) (IsPermutation-trans (y ∷ some) (y ∷ x ∷ without x.0 some) (x ∷ y ∷ without x.0 some)
    (IsPermutation-cons y some (x ∷ without x.0 some) (to_front some x ascends.1 there)) (swapped y x (without x.0 some)))

pub taken_all : (count : ℕ) (some : List Numbered) → Ascends some → length some ≡ count → IsPermutation some (taken_from count some)
unfolding taken_from
taken_all zero [] ascends long = IsPermutation-refl []
taken_all zero (x ∷ some) ascends long = absurd (omega (arith, long))
taken_all (suc count) [] ascends long = absurd (omega (arith, long))
taken_all (suc count) (x ∷ some) ascends long =
    let all = x ∷ some in
    let next = next_chosen x some in
    let moved = to_front all next.one ascends next.within in
    let left = without next.one.0 all in
    let rest = taken_all count left (ascending_filter (λ one. not (one.0 == next.one.0)) all ascends) (omega (arith, long, length_permutation all (next.one ∷ left) moved)) in
    subst (λ chosen. IsPermutation all (option_map_or (λ one. one ∷ taken_from count (without one.0 all)) chosen [])) (sym next.is)
    (IsPermutation-trans all (next.one ∷ left) (next.one ∷ taken_from count left) moved (IsPermutation-cons next.one left (taken_from count left) rest))

places_of : (from : ℕ) (members : List Placed) → map (λ one. one.0) (enumerate_from from members) ≡ range_with_len from (length members)
places_of from [] = refl
places_of from (x ∷ members) = ap (λ list. from ∷ list) (places_of (from + 1) members)

length_of : (from : ℕ) (members : List Placed) → length (enumerate_from from members) ≡ length members
length_of from [] = refl
length_of from (x ∷ members) = ap suc (length_of (from + 1) members)

pub all_places : (members : List Placed) → IsPermutation (range_with_len 0 (length members)) (package_order_of members)
unfolding ordered
all_places members =
    subst (λ list. IsPermutation list (map (λ one. one.0) (taken_from (length members) (enumerate_from 0 members)))) (places_of 0 members)
    (IsPermutation-map (λ one. one.0) (enumerate_from 0 members) (taken_from (length members) (enumerate_from 0 members)) (taken_all (length members) (enumerate_from 0 members) (ascending 0 members) (length_of 0 members)))

-- ---- what one requires before it

record Stands (order : List ℕ) (place : ℕ) : Type 0 where
  pub index : ℕ
  pub at : slice_get order index ≡ Some place

member_stands : (some : List Numbered) (x : Numbered) → Member x some → Stands (map (λ one. one.0) some) x.0
member_stands [] x found = absurd found
member_stands (y ∷ some) x (inl same) = record { index = 0; at = ap (λ z. Some z.0) same }
member_stands (y ∷ some) x (inr there) = let rest = member_stands some x there in record { index = suc rest.index; at = rest.at }

eq_of : (a b : ℕ) → (a == b) ≡ true → a ≡ b
eq_of a b e = grind (arith, nat_tests)

-- at one place stands one
same_place : (list : List Numbered) (one two : Numbered) → Ascends list → Member one list → Member two list → one.0 ≡ two.0 → one ≡ two
same_place [] one two up here there e = absurd here
same_place (z ∷ list) one two up (inl f) (inl g) e = sym f ∙ g
same_place (z ∷ list) one two up (inl f) (inr there) e = absurd (omega (arith, ap (λ (k : Numbered). k.0) f, e, all_member (λ k. z.0 < k.0) list two up.0 there))
same_place (z ∷ list) one two up (inr here) (inl g) e = absurd (omega (arith, ap (λ (k : Numbered). k.0) g, e, all_member (λ k. z.0 < k.0) list one up.0 here))
same_place (z ∷ list) one two up (inr here) (inr there) e = same_place list one two up.1 here there e

-- what is left behind one
length_left : (some : List Numbered) (one : Numbered) (count : ℕ) → Ascends some → Member one some → length some ≡ suc count → length (without one.0 some) ≡ count
length_left some one count ascends within long = omega (arith, long, length_permutation some (one ∷ without one.0 some) (to_front some one ascends within))

left_ascends : (some : List Numbered) (one : Numbered) → Ascends some → Ascends (without one.0 some)
left_ascends some one ascends = ascending_filter (λ k. not (k.0 == one.0)) some ascends

left_keeps : (some : List Numbered) (one k : Numbered) → Member k some → (k.0 == one.0) ≡ false → Member k (without one.0 some)
left_keeps some one k found e = filter_member (λ j. not (j.0 == one.0)) some k found (ap not e)

-- each that is left is taken
stays_step : (t : Bool) (count : ℕ) (some : List Numbered) (x one : Numbered) → Ascends some → Member one some → Member x some → (x.0 == one.0) ≡ t
    → (Member x (without one.0 some) → Member x (taken_from count (without one.0 some))) → Member x (one ∷ taken_from count (without one.0 some))
stays_step true count some x one ascends within found e rest = inl (same_place some one x ascends within found (sym (eq_of x.0 one.0 e)))
stays_step false count some x one ascends within found e rest = inr (rest (left_keeps some one x found e))

stays : (count : ℕ) (some : List Numbered) (x : Numbered) → Ascends some → length some ≡ count → Member x some → Member x (taken_from count some)
unfolding taken_from
stays zero [] x ascends long found = absurd found
stays zero (y ∷ some) x ascends long found = absurd (omega (arith, long))
stays (suc count) [] x ascends long found = absurd found
stays (suc count) (y ∷ some) x ascends long found =
    let all = y ∷ some in
    let next = next_chosen y some in
    subst (λ chosen. Member x (option_map_or (λ one. one ∷ taken_from count (without one.0 all)) chosen [])) (sym next.is)
    (stays_step (x.0 == next.one.0) count all x next.one ascends next.within found refl
    (λ left. stays count (without next.one.0 all) x (left_ascends all next.one ascends) (length_left all next.one count ascends next.within long) left))

not_itself : (n : ℕ) → nat_lt n n ≡ false
not_itself n = grind (arith, nat_tests)

after_all : (a b c : ℕ) → nat_lt a b ≡ true → nat_lt b c ≡ true → nat_lt a c ≡ true
after_all a b c e f = grind (arith, nat_tests)

not_both : (a b : ℕ) → nat_lt a b ≡ false → a < b → ⊥
not_both a b e less = grind (arith, nat_tests)

some_same : (a b : Placed) → Some a ≡ Some b → a ≡ b
some_same a b e = cc

unequal : (a b : ℕ) → a ≢ b → (a == b) ≡ false
unequal a b apart = elim (eqb_tells a b) [ inl e ↦ absurd (apart e.1) | inr e ↦ e.0 ]

apart_of : (a b : ℕ) → (a == b) ≡ false → a ≢ b
apart_of a b f e = false≢true (sym f ∙ subst (λ c. (a == c) ≡ true) e (equal a))

module _ (rank : ℕ → ℕ) (members : List Placed) (falls : (place other : ℕ) → Requires members place other → rank other < rank place) where
  -- those that stand at their places
  abbrev AreAt : List Numbered → Type 0
  AreAt some = (x : Numbered) → Member x some → slice_get members x.0 ≡ Some x.1

  falls_step : (t : Bool) (x y : Numbered) → slice_get members x.0 ≡ Some x.1 → slice_get members y.0 ≡ Some y.1 → (x.0 == y.0) ≡ t → (not t && requires x.1.package y.1.package) ≡ true → rank y.0 < rank x.0
  falls_step true x y at also e f = absurd (false≢true f)
  falls_step false x y at also e f = falls x.0 y.0 (record { one = x.1; needed = y.1; at = at; needed_at = also; apart = apart_of x.0 y.0 e; has_name = f })

  waits_falls : (some : List Numbered) → AreAt some → (x y : Numbered) → Member x some → Member y some → waits_for x y ≡ true → rank y.0 < rank x.0
  waits_falls some at x y here there e = falls_step (x.0 == y.0) x y (at x here) (at y there) refl e

  least_rank : (x : Numbered) (some : List Numbered) → Least (λ a b. nat_lt (rank a.0) (rank b.0)) (x ∷ some)
  least_rank = least_one (λ a b. nat_lt (rank a.0) (rank b.0)) (λ x. not_itself (rank x.0)) (λ x y z e f. after_all (rank x.0) (rank y.0) (rank z.0) e f)

  waits_not : (some : List Numbered) (at : AreAt some) (least : Least (λ a b. nat_lt (rank a.0) (rank b.0)) some) (y : Numbered) → Member y some → (t : Bool) → waits_for least.one y ≡ t → t ≡ false
  waits_not some at least y there true e = absurd (not_both (rank y.0) (rank least.one.0) (least.least y there) (waits_falls some at least.one y least.within there e))
  waits_not some at least y there false e = refl

  -- one is ready
  some_ready : (x : Numbered) (some : List Numbered) → AreAt (x ∷ some) → Chosen (next_of (x ∷ some)) (filter (is_ready (x ∷ some)) (x ∷ some))
  some_ready x some at =
      let all = x ∷ some in
      let least = least_rank x some in
      ready_chosen all (filter (is_ready all) all) refl least.one
      (filter_member (is_ready all) all least.one least.within (ap not (any_none (waits_for least.one) all (λ y there. waits_not all at least y there (waits_for least.one y) refl))))

  before_step : (count : ℕ) (some : List Numbered) → Ascends some → AreAt some → length some ≡ suc count → (x y one : Numbered) → Member x some → Member y some → waits_for x y ≡ true
      → Member one some → is_ready some one ≡ true → (t u : Bool) → (x.0 == one.0) ≡ t → (y.0 == one.0) ≡ u
      → (Member x (without one.0 some) → Member y (without one.0 some) → StandsBefore (map (λ k. k.0) (taken_from count (without one.0 some))) y.0 x.0)
      → StandsBefore (one.0 ∷ map (λ k. k.0) (taken_from count (without one.0 some))) y.0 x.0
  before_step count some ascends at long x y one here there e within ready true u f g rest =
      let same : x.1 ≡ one.1 = some_same x.1 one.1 (sym (at x here) ∙ ap (slice_get members) (eq_of x.0 one.0 f) ∙ at one within) in
      let waiting : waits_for one y ≡ true = subst (λ p. (not (p == y.0) && requires one.1.package y.1.package) ≡ true) (eq_of x.0 one.0 f) (subst (λ m. (not (x.0 == y.0) && requires m.package y.1.package) ≡ true) same e) in
      absurd (false≢true (sym (ap not (member_any (waits_for one) some y there waiting)) ∙ ready))
  before_step count some ascends at long x y one here there e within ready false true f g rest =
      let found = member_stands (taken_from count (without one.0 some)) x (stays count (without one.0 some) x (left_ascends some one ascends) (length_left some one count ascends within long) (left_keeps some one x here f)) in
      (0, suc found.index, omega arith, ap Some (sym (eq_of y.0 one.0 g)), found.at)
  before_step count some ascends at long x y one here there e within ready false false f g rest =
      let later = rest (left_keeps some one x here f) (left_keeps some one y there g) in
      (suc later.0, suc later.1, omega (arith, later.2), later.3, later.4)

  before : (count : ℕ) (some : List Numbered) → Ascends some → AreAt some → length some ≡ count → (x y : Numbered) → Member x some → Member y some → waits_for x y ≡ true → StandsBefore (map (λ one. one.0) (taken_from count some)) y.0 x.0
  unfolding taken_from
  before zero [] ascends at long x y here there e = absurd here
  before zero (z ∷ some) ascends at long x y here there e = absurd (omega (arith, long))
  before (suc count) [] ascends at long x y here there e = absurd here
  before (suc count) (z ∷ some) ascends at long x y here there e =
      let all = z ∷ some in
      let next = some_ready z some at in
      let both = member_filter (is_ready all) all next.one next.within in
      subst (λ chosen. StandsBefore (map (λ one. one.0) (option_map_or (λ one. one ∷ taken_from count (without one.0 all)) chosen [])) y.0 x.0) (sym next.is)
      (before_step count all ascends at long x y next.one here there e both.0 both.1 (x.0 == next.one.0) (y.0 == next.one.0) refl refl
      (λ left behind. before count (without next.one.0 all) (left_ascends all next.one ascends) (λ k found. at k (member_filter (λ j. not (j.0 == next.one.0)) all k found).0)
      (length_left all next.one count ascends both.0 long) x y left behind e))

pub needs_first : (members : List Placed) → HasNoCycle members → (place other : ℕ) → Requires members place other → StandsBefore (package_order_of members) other place
unfolding ordered
needs_first members none place other needs =
    before none.0 members none.1 (length members) (enumerate_from 0 members) (ascending 0 members) (λ x found. all_member (IsAt members) (enumerate_from 0 members) x (numbered [] members) found) (length_of 0 members)
    (place, needs.one) (other, needs.needed) (enumerated members place needs.one needs.at) (enumerated members other needs.needed needs.needed_at)
    (rw (unequal place other needs.apart, needs.has_name) refl)

-- ---- each stands at its place

contains : (list : List Numbered) (y : Numbered) → Member y list → Contains list y
contains [] y there = absurd there
contains (z ∷ list) y (inl same) = (0, omega arith, same)
contains (z ∷ list) y (inr there) = let rest = contains list y there in (suc rest.0, omega (arith, rest.1), rest.2)

contained_at : (list : List Numbered) (y : Numbered) (k : ℕ) → k < length list → get_or list k y ≡ y → Member y list
contained_at [] y k within e = absurd (omega (arith, within))
contained_at (z ∷ list) y zero within e = inl e
contained_at (z ∷ list) y (suc k) within e = inr (contained_at list y k (omega (arith, within)) e)

contained : (list : List Numbered) (y : Numbered) → Contains list y → Member y list
contained list y there = contained_at list y there.0 there.1 there.2

taken_within : (count : ℕ) (some : List Numbered) (x : Numbered) → Ascends some → length some ≡ count → Member x (taken_from count some) → Member x some
taken_within count some x ascends long found =
    contained some x (Contains-permutation (taken_from count some) some x (IsPermutation-sym some (taken_from count some) (taken_all count some ascends long)) (contains (taken_from count some) x found))

at_member : (list : List Numbered) (k : ℕ) (x : Numbered) → slice_get list k ≡ Some x → Member x list
at_member [] k x e = absurd cc
at_member (z ∷ list) zero x e = inl (one_same z x e)
  where
    one_same : (a b : Numbered) → Some a ≡ Some b → a ≡ b
    one_same a b f = cc
at_member (z ∷ list) (suc k) x e = inr (at_member list k x e)

pub taken_at : (members : List Placed) (k : ℕ) (x : Numbered) → slice_get (ordered members) k ≡ Some x → slice_get members x.0 ≡ Some x.1
unfolding ordered
taken_at members k x e =
    let all = enumerate_from 0 members in
    let found = at_member (taken_from (length members) all) k x e in
    all_member (IsAt members) all x (numbered [] members) (taken_within (length members) all x (ascending 0 members) (length_of 0 members) found)
