-- The first of a queue is the next package.
use Rattle.std.proofs.Common.{◌≡◌, ◌≢◌, ℕ, zero, suc, ◌+◌, ◌<◌, ◌≤◌, Bool, true, false, cond, not, List, [], ◌∷◌, ◌++◌, length, get_or, map, filter, Some, refl, sym, ap, subst, ◌∙◌, append_assoc, append-nil, add-one, arith, inl, inr}
use Rattle.std.specs.Prelude.{◌==◌, ◌&&◌, nat_lt}
use Rattle.std.specs.List.{enumerate_from, slice_get}
use Rattle.std.specs.Option.{option_or, option_map_or}
use Rattle.std.specs.Ordering.{nat_cmp, ordering_then, is_lt, is_gt}
use Rattle.std.proofs.lemmas.Bool.{false≢true}
use Rattle.std.proofs.lemmas.Bool.Decides.{nat_tests}
use Rattle.path_name.specs.Orders.{byte_cmp}
use Rattle.psr_routes.specs.declared.types.Placed.{Placed}
use Rattle.psr_routes.specs.declared.needs.Needs.{Needs}
use Rattle.psr_routes.specs.declared.queue.Queue.{Queue}
use Rattle.psr_routes.specs.PackageOrder.{Numbered, requires, waits_for, is_ready, least_of, next_of, without, taken_from, ordered, package_order_of}
use Rattle.psr_routes.specs.Waiting.{Key, key_cmp, is_in, count_of, number_at, required_at, key_of, remaining, awaits, passed_at, Waits, IsNext}
use Rattle.psr_routes.proofs.Keys.{has, count, one_borne, two_borne, Bears, another_borne, second_borne, eq_of, eq_true}
use Rattle.psr_routes.proofs.Queues.{same_or_not, unlike}
use Rattle.psr_routes.proofs.Chosen.{Member, IsAt, Ascends, all_member, member_filter, filter_member, member_any, any_none, filter_none, filter_all, filter_twice, filter_same, least_is, numbered, enumerated, ascending, ascending_filter}

-- numbers say of packages what their names do
pub record Agrees (members : List Placed) (needs : Needs) : Type 0 where
  pub many : count_of needs ≡ length members
  pub order : (place other : ℕ) (one second : Placed) → slice_get members place ≡ Some one → slice_get members other ≡ Some second
      → nat_cmp (number_at needs place) (number_at needs other) ≡ byte_cmp one.package.name second.package.name
  pub named : (place other : ℕ) (one second : Placed) → slice_get members place ≡ Some one → slice_get members other ≡ Some second → requires one.package second.package ≡ true
      → (at : ℕ) × (at < length (required_at needs place)) × (get_or (required_at needs place) at 0 ≡ number_at needs other)
  pub needed : (place other : ℕ) (one second : Placed) → slice_get members place ≡ Some one → slice_get members other ≡ Some second
      → (at : ℕ) → at < length (required_at needs place) → get_or (required_at needs place) at 0 ≡ number_at needs other → requires one.package second.package ≡ true

not_less : (a b p q : ℕ) → is_gt (ordering_then (nat_cmp a b) (nat_cmp p q)) ≡ false → is_lt (nat_cmp b a) ≡ false
not_less a b p q e = grind (arith, nat_tests)

placed_first : (a b p q : ℕ) → is_gt (ordering_then (nat_cmp a b) (nat_cmp p q)) ≡ false → is_lt (nat_cmp a b) ≡ false → p ≤ q
placed_first a b p q e f = grind (arith, nat_tests)

pub within_members : (list : List Placed) (k : ℕ) (x : Placed) → slice_get list k ≡ Some x → k < length list
within_members [] k x e = absurd cc
within_members (y ∷ list) zero x e = omega arith
within_members (y ∷ list) (suc k) x e = omega (arith, within_members list k x e)

pub at_within : (list : List Placed) (k : ℕ) → k < length list → (x : Placed) × (slice_get list k ≡ Some x)
at_within [] k less = absurd (omega (arith, less))
at_within (y ∷ list) zero less = (y, refl)
at_within (y ∷ list) (suc k) less = at_within list k (omega (arith, less))

module _ (members : List Placed) (needs : Needs) (agrees : Agrees members needs) (queue : Queue) where
  -- what is among those that remain
  pub record Stands (one : Numbered) : Type 0 where
    pub at : slice_get members one.0 ≡ Some one.1
    pub within : one.0 < count_of needs
    pub rest : is_in queue.rest (key_of needs one.0) ≡ true

  stands : (one : Numbered) → Member one (remaining members needs queue) → Stands one
  stands one found =
      let both = member_filter (λ other. is_in queue.rest (key_of needs other.0)) (enumerate_from 0 members) one found in
      let at = all_member (IsAt members) (enumerate_from 0 members) one (numbered [] members) both.0 in
      record { at = at; within = omega (arith, within_members members one.0 one.1 at, agrees.many); rest = both.1 }

  pub standing : (place : ℕ) (one : Placed) → slice_get members place ≡ Some one → is_in queue.rest (key_of needs place) ≡ true → Member (place, one) (remaining members needs queue)
  standing place one at rest = filter_member (λ other. is_in queue.rest (key_of needs other.0)) (enumerate_from 0 members) (place, one) (enumerated members place one at) rest

  module _ (waits : Waits needs queue []) where
    -- a ready package waits for none
    borne_twice : (place other : ℕ) → place ≢ other → is_in queue.rest (key_of needs place) ≡ true → is_in queue.rest (key_of needs other) ≡ true → other < count_of needs
        → nat_lt (cond (number_at needs place == number_at needs other) 1 0) (get_or queue.bearers.items (number_at needs other) 0) ≡ true
    borne_twice place other apart rest also within = elim (same_or_not (number_at needs place) (number_at needs other)) [
      | inl e ↦ twice (two_borne queue.rest.keys (key_of needs place) (key_of needs other) (number_at needs other) e refl apart rest also)
      | inr f ↦ once f (one_borne queue.rest.keys (key_of needs other) (number_at needs other) refl also)
    ]
      where
        counted : get_or queue.bearers.items (number_at needs other) 0 ≡ count (number_at needs other) queue.rest.keys
        counted = waits.keeps.counted (number_at needs other) (waits.fits.numbers other within)

        twice : 2 ≤ count (number_at needs other) queue.rest.keys → nat_lt (cond (number_at needs place == number_at needs other) 1 0) (get_or queue.bearers.items (number_at needs other) 0) ≡ true
        twice many = above (number_at needs place == number_at needs other) (get_or queue.bearers.items (number_at needs other) 0) (omega (arith, counted, many))
          where
            above : (t : Bool) (n : ℕ) → 2 ≤ n → nat_lt (cond t 1 0) n ≡ true
            above true n h = grind (arith, nat_tests)
            above false n h = grind (arith, nat_tests)

        once : number_at needs place ≢ number_at needs other → 1 ≤ count (number_at needs other) queue.rest.keys → nat_lt (cond (number_at needs place == number_at needs other) 1 0) (get_or queue.bearers.items (number_at needs other) 0) ≡ true
        once f some = above (number_at needs place == number_at needs other) (get_or queue.bearers.items (number_at needs other) 0) refl (omega (arith, counted, some))
          where
            above : (t : Bool) (n : ℕ) → (number_at needs place == number_at needs other) ≡ t → 1 ≤ n → nat_lt (cond t 1 0) n ≡ true
            above true n e h = absurd (f (eq_of (number_at needs place) (number_at needs other) e))
            above false n e h = grind (arith, nat_tests)

    not_waiting : (one other : Numbered) → Stands one → Stands other → is_in queue.ready (key_of needs one.0) ≡ true → waits_for one other ≡ false
    not_waiting one other here there ready = by (requires one.1.package other.1.package) (one.0 == other.0) refl refl
      where
        by : (t u : Bool) → requires one.1.package other.1.package ≡ t → (one.0 == other.0) ≡ u → (not (one.0 == other.0) && requires one.1.package other.1.package) ≡ false
        by t true e f = rw f refl
        by false false e f = rw (f, e) refl
        by true false e f =
            let found = agrees.named one.0 other.0 one.1 other.1 here.at there.at e in
            let full : passed_at queue one.0 ≡ length (required_at needs one.0) = (waits.keeps.ready (key_of needs one.0) ready).1 in
            let passed = waits.keeps.passed one.0 found.0 here.within (omega (arith, found.1, full)) in
            let apart : one.0 ≢ other.0 = λ same. false≢true (sym f ∙ eq_true one.0 other.0 same) in
            let awaited = borne_twice one.0 other.0 apart here.rest there.rest there.within in
            absurd (false≢true (sym passed.1 ∙ subst (λ n. nat_lt (cond (number_at needs one.0 == n) 1 0) (get_or queue.bearers.items n 0) ≡ true) (sym found.2) awaited))

    waits_for_none : (one : Numbered) → Stands one → is_in queue.ready (key_of needs one.0) ≡ true → is_ready (remaining members needs queue) one ≡ true
    waits_for_none one here ready = ap not (any_none (waits_for one) (remaining members needs queue) (λ other found. not_waiting one other here (stands other found) ready))

    -- and a parked one waits for another one
    bearer : (place at : ℕ) → at < length (required_at needs place) → place < count_of needs → awaits needs queue place at ≡ true → Bears queue.rest.keys (get_or (required_at needs place) at 0) place
    bearer place at within below awaited = by (number_at needs place == name) refl
      where
        name : ℕ
        name = get_or (required_at needs place) at 0

        counted : get_or queue.bearers.items name 0 ≡ count name queue.rest.keys
        counted = waits.keeps.counted name (waits.fits.required place at below within)

        above : (t : Bool) → (number_at needs place == name) ≡ t → nat_lt (cond t 1 0) (count name queue.rest.keys) ≡ true
        above t e = subst (λ u. nat_lt (cond u 1 0) (count name queue.rest.keys) ≡ true) e (subst (λ n. nat_lt (cond (number_at needs place == name) 1 0) n ≡ true) counted awaited)

        two_of : (n : ℕ) → nat_lt 1 n ≡ true → 2 ≤ n
        two_of n h = grind (arith, nat_tests)

        one_of : (n : ℕ) → nat_lt 0 n ≡ true → 1 ≤ n
        one_of n h = grind (arith, nat_tests)

        by : (t : Bool) → (number_at needs place == name) ≡ t → Bears queue.rest.keys name place
        by true e = second_borne queue.rest.keys name place waits.keeps.sorted (two_of (count name queue.rest.keys) (above true e))
        by false e = another_borne queue.rest.keys name place (λ key h named at_place. not_there key h named at_place) (one_of (count name queue.rest.keys) (above false e))
          where
            not_there : (key : Key) → is_in queue.rest key ≡ true → key.0 ≡ name → key.1 ≡ place → ⊥
            not_there key h named at_place =
                let its : key.0 ≡ number_at needs key.1 = (waits.keeps.members key h).1 in
                false≢true (sym e ∙ eq_true (number_at needs place) name (ap (number_at needs) (sym at_place) ∙ sym its ∙ named))

    waits_for_one : (one : Numbered) → Stands one → is_in queue.ready (key_of needs one.0) ≡ false → is_ready (remaining members needs queue) one ≡ false
    waits_for_one one here idle = elim (waits.waits one.0 here.within here.rest) [
      | inl ready ↦ absurd (false≢true (sym idle ∙ ready))
      | inr (inr found) ↦ absurd (omega (arith, found.1))
      | inr (inl parked) ↦ found (passed_at queue one.0) parked.within (bearer one.0 (passed_at queue one.0) parked.within here.within parked.awaits)
    ]
      where
        found : (at : ℕ) → at < length (required_at needs one.0) → Bears queue.rest.keys (get_or (required_at needs one.0) at 0) one.0 → is_ready (remaining members needs queue) one ≡ false
        found at within bears =
            let place = bears.key.1 in
            let member = waits.keeps.members bears.key bears.within in
            let second = at_within members place (omega (arith, member.0, agrees.many)) in
            let rest : is_in queue.rest (key_of needs place) ≡ true = subst (λ n. is_in queue.rest (n, place) ≡ true) member.1 bears.within in
            let required : requires one.1.package second.0.package ≡ true = agrees.needed one.0 place one.1 second.0 here.at second.1 at within (sym bears.named ∙ member.1) in
            let apart : (one.0 == place) ≡ false = unlike one.0 place (λ e. bears.apart (sym e)) in
            let waiting : waits_for one (place, second.0) ≡ true = rw (apart, required) refl in
            ap not (member_any (waits_for one) (remaining members needs queue) (place, second.0) (standing place second.0 second.1 rest) waiting)

    -- ---- the first one of a set

    first_of_some : (set : Key → Bool) (one : Numbered) (some : List Numbered) → Stands one → Ascends some → Member one some → ((other : Numbered) → Member other some → Stands other)
        → ((other : Numbered) → Member other some → is_gt (key_cmp (key_of needs one.0) (key_of needs other.0)) ≡ false) → least_of some ≡ Some one
    first_of_some set one some here ascends found all least =
        least_is some one ascends found
        (λ other there. sym (ap is_lt (agrees.order other.0 one.0 other.1 one.1 (all other there).at here.at)) ∙ not_less (number_at needs one.0) (number_at needs other.0) one.0 other.0 (least other there))
        (λ other there e. placed_first (number_at needs one.0) (number_at needs other.0) one.0 other.0 (least other there) (ap is_lt (agrees.order one.0 other.0 one.1 other.1 here.at (all other there).at) ∙ e))

    ready_or_not : (one : Numbered) → Stands one → is_ready (remaining members needs queue) one ≡ true → is_in queue.ready (key_of needs one.0) ≡ true
    ready_or_not one here ready = by (is_in queue.ready (key_of needs one.0)) refl
      where
        by : (t : Bool) → is_in queue.ready (key_of needs one.0) ≡ t → t ≡ true
        by true e = refl
        by false e = absurd (false≢true (sym (waits_for_one one here e) ∙ ready))

    pub next_is : (key : Key) (one : Placed) → slice_get members key.1 ≡ Some one → IsNext queue key → next_of (remaining members needs queue) ≡ Some (key.1, one)
    next_is key one at (inl first) =
        let known = waits.keeps.ready key first.within in
        let its : key.0 ≡ number_at needs key.1 = (waits.keeps.members key known.0).1 in
        let ready : is_in queue.ready (key_of needs key.1) ≡ true = subst (λ n. is_in queue.ready (n, key.1) ≡ true) its first.within in
        let rest : is_in queue.rest (key_of needs key.1) ≡ true = subst (λ n. is_in queue.rest (n, key.1) ≡ true) its known.0 in
        let found = standing key.1 one at rest in
        let here = stands (key.1, one) found in
        let least : (other : Key) → is_in queue.ready other ≡ true → is_gt (key_cmp (key_of needs key.1) other) ≡ false = subst (λ n. (other : Key) → is_in queue.ready other ≡ true → is_gt (key_cmp (n, key.1) other) ≡ false) its first.least in
        let all = remaining members needs queue in
        ap (λ chosen. option_or chosen (least_of all))
        (first_of_some (is_in queue.ready) (key.1, one) (filter (is_ready all) all) here (ascending_filter (is_ready all) all (ascending_filter (λ other. is_in queue.rest (key_of needs other.0)) (enumerate_from 0 members) (ascending 0 members)))
        (filter_member (is_ready all) all (key.1, one) found (waits_for_none (key.1, one) here ready))
        (λ other there. stands other (member_filter (is_ready all) all other there).0)
        (λ other there. let both = member_filter (is_ready all) all other there in least (key_of needs other.0) (ready_or_not other (stands other both.0) both.1)))
    next_is key one at (inr both) =
        let first = both.1 in
        let its : key.0 ≡ number_at needs key.1 = (waits.keeps.members key first.within).1 in
        let rest : is_in queue.rest (key_of needs key.1) ≡ true = subst (λ n. is_in queue.rest (n, key.1) ≡ true) its first.within in
        let found = standing key.1 one at rest in
        let here = stands (key.1, one) found in
        let least : (other : Key) → is_in queue.rest other ≡ true → is_gt (key_cmp (key_of needs key.1) other) ≡ false = subst (λ n. (other : Key) → is_in queue.rest other ≡ true → is_gt (key_cmp (n, key.1) other) ≡ false) its first.least in
        let all = remaining members needs queue in
        let idle : (other : Numbered) → is_in queue.ready (key_of needs other.0) ≡ false = λ other. ap (λ keys. has keys (key_of needs other.0)) both.0 in
        let none : filter (is_ready all) all ≡ [] = filter_none (is_ready all) all (λ other there. waits_for_one other (stands other there) (idle other)) in
        ap (λ ready. option_or (least_of ready) (least_of all)) none
        ∙ first_of_some (is_in queue.rest) (key.1, one) all here (ascending_filter (λ other. is_in queue.rest (key_of needs other.0)) (enumerate_from 0 members) (ascending 0 members)) found stands
        (λ other there. least (key_of needs other.0) (stands other there).rest)

-- ---- steps of the order

-- a package is taken
pub step : (members : List Placed) (needs : Needs) (queue now : Queue) (place : ℕ) (one : Placed) (count : ℕ) (before : List ℕ)
    → next_of (remaining members needs queue) ≡ Some (place, one)
    → ((key : Key) → is_in now.rest key ≡ (is_in queue.rest key && not (key.1 == place)))
    → (before ++ place ∷ []) ++ map (λ x. x.0) (taken_from count (remaining members needs now)) ≡ before ++ map (λ x. x.0) (taken_from (count + 1) (remaining members needs queue))
unfolding taken_from
step members needs queue now place one count before next removed =
    let same : remaining members needs now ≡ without place (remaining members needs queue) =
    filter_same (λ x. is_in now.rest (key_of needs x.0)) (λ x. is_in queue.rest (key_of needs x.0) && not (x.0 == place)) (λ x. removed (key_of needs x.0)) (enumerate_from 0 members)
    ∙ sym (filter_twice (λ x. not (x.0 == place)) (λ x. is_in queue.rest (key_of needs x.0)) (enumerate_from 0 members)) in
    append_assoc before (place ∷ []) (map (λ x. x.0) (taken_from count (remaining members needs now)))
    ∙ ap (λ list. before ++ place ∷ map (λ x. x.0) (taken_from count list)) same
    ∙ ap (λ list. before ++ map (λ x. x.0) list) (sym (ap (λ chosen. option_map_or (λ x. x ∷ taken_from count (without x.0 (remaining members needs queue))) chosen []) next))
    ∙ ap (λ n. before ++ map (λ x. x.0) (taken_from n (remaining members needs queue))) (sym (add-one count))

-- none remains
pub none_left : (members : List Placed) (needs : Needs) (queue : Queue) → queue.rest.keys ≡ [] → remaining members needs queue ≡ []
none_left members needs queue none = filter_none (λ x. is_in queue.rest (key_of needs x.0)) (enumerate_from 0 members) (λ x there. ap (λ keys. has keys (key_of needs x.0)) none)

pub none_taken : (count : ℕ) → taken_from count [] ≡ []
unfolding taken_from
none_taken zero = refl
none_taken (suc count) = refl

pub stays : (members : List Placed) (needs : Needs) (queue : Queue) (count : ℕ) (before : List ℕ) → queue.rest.keys ≡ []
    → before ++ map (λ x. x.0) (taken_from count (remaining members needs queue)) ≡ before ++ map (λ x. x.0) (taken_from (count + 1) (remaining members needs queue))
stays members needs queue count before none =
    let empty = none_left members needs queue none in
    ap (λ list. before ++ map (λ x. x.0) (taken_from count list)) empty ∙ ap (λ list. before ++ map (λ x. x.0) list) (none_taken count ∙ sym (none_taken (count + 1)))
    ∙ ap (λ list. before ++ map (λ x. x.0) (taken_from (count + 1) list)) (sym empty)

-- at first all remain
pub all_left : (members : List Placed) (needs : Needs) (queue : Queue) → ((place : ℕ) → place < length members → is_in queue.rest (key_of needs place) ≡ true) → remaining members needs queue ≡ enumerate_from 0 members
all_left members needs queue all = filter_all (λ x. is_in queue.rest (key_of needs x.0)) (enumerate_from 0 members) (λ x found. all x.0 (within_members members x.0 x.1 (all_member (IsAt members) (enumerate_from 0 members) x (numbered [] members) found)))

pub whole_order : (members : List Placed) → map (λ x. x.0) (taken_from (length members) (enumerate_from 0 members)) ≡ package_order_of members
unfolding ordered
whole_order members = refl

-- the order at its start and at its end
pub starts : (members : List Placed) (needs : Needs) (queue : Queue) (order : List ℕ) (count : ℕ) → ((place : ℕ) → place < length members → is_in queue.rest (key_of needs place) ≡ true) → order ≡ [] → 0 + count ≡ length members
    → order ++ map (λ x. x.0) (taken_from count (remaining members needs queue)) ≡ package_order_of members
starts members needs queue order count all none e =
    let long : count ≡ length members = omega (arith, e) in
    ap (λ list. list ++ map (λ x. x.0) (taken_from count (remaining members needs queue))) none
    ∙ ap (λ list. map (λ x. x.0) (taken_from count list)) (all_left members needs queue all)
    ∙ ap (λ n. map (λ x. x.0) (taken_from n (enumerate_from 0 members))) long
    ∙ whole_order members

pub ends : (members : List Placed) (some : List Numbered) (order : List ℕ) → order ++ map (λ x. x.0) (taken_from 0 some) ≡ package_order_of members → order ≡ package_order_of members
unfolding taken_from
ends members some order e = sym (append-nil order) ∙ e
