-- Openness is satisfaction by a point: a version, or a gap between versions.
use Rattle.std.proofs.Common.{◌≡◌, ℕ, Bool, true, false, List, [], ◌∷◌, ◌++◌, Option, Some, None, ◌⊎◌, inl, inr, refl, sym, ap, ◌∙◌}
use Rattle.std.specs.Prelude.{not, ◌&&◌, ◌||◌}
use Rattle.std.specs.List.{list_all, list_any}
use Rattle.std.specs.Ordering.{is_lt, is_le, is_gt, is_ge, is_eq, ordering_reverse}
use Rattle.std.specs.declared.cmp.Ordering.{Ordering}
use Rattle.std.specs.declared.cmp.Ordering.TheVariants.{Less, Equal, Greater}
use Rattle.std.proofs.lemmas.List.Folds.{list_all-append}
use Rattle.version_norm.specs.declared.version.Numbered.{Numbered}
use Rattle.version_norm.specs.declared.version.Version.{Version}
use Rattle.version_norm.specs.declared.version.Version.TheVariants as versions
use Rattle.version_norm.specs.VersionOrder.{numbered_cmp}
use Rattle.version_norm.proofs.OrderLaws.{numbered_cmp_total, numbered_cmp_exact}
use Rattle.constraint_set.specs.declared.constraint.Operator.{Operator}
use Rattle.constraint_set.specs.declared.constraint.Operator.TheVariants as operators
use Rattle.constraint_set.specs.declared.constraint.Comparison.{Comparison}
use Rattle.constraint_set.specs.declared.constraint.Constraint.{Constraint}
use Rattle.constraint_set.specs.declared.overlap.Side.{Side}
use Rattle.constraint_set.specs.declared.overlap.Side.TheVariants as sides
use Rattle.constraint_set.specs.Parts.{is_equal}
use Rattle.constraint_set.specs.Satisfaction.{admits, admits_unordered, is_admitted, holds_at, all_hold_at, satisfies}
use Rattle.constraint_set.specs.Overlap.{is_branch, is_lower, is_upper, is_ordering, is_exclusive, names_branch, orders_branch, excludes, room_by, room_between, leave_room, is_open, overlaps}
use Rattle.constraint_set.specs.Ends.{Limit, limit_in, tightest_of, room_at, first_branch}
use Rattle.constraint_set.specs.Points.{Point, on, behind, before_all, behind_order, admits_gap, holds_at_point, all_hold_at_point, satisfies_at}
use Rattle.constraint_set.proofs.Members.{both, IsIn, all_at, all_from, none_at, none_from}
use Rattle.constraint_set.proofs.Limits.{IsReached, reached_in, below_cases, all_leave_room}
use Rattle.constraint_set.proofs.Openness.{none_named, open_by_room, open_at_branch}
use Rattle.constraint_set.proofs.CommonVersions.{opened_by, any_from, turned}

-- ---- a gap that satisfies a list opens it

-- how a gap stands to versions
record IsGapOrder (order : Numbered → Ordering) : Type 0 where
  apart : (w : Numbered) → order w ≡ Equal → ⊥
  between : (l h : Numbered) → order l ≡ Greater → order h ≡ Less → numbered_cmp l h ≡ Less

behind_apart : (o : Ordering) → behind_order o ≡ Equal → ⊥
behind_apart Less e = cc
behind_apart Equal e = cc
behind_apart Greater e = cc

behind_less : (o : Ordering) → behind_order o ≡ Less → o ≡ Less
behind_less Less e = refl
behind_less Equal e = absurd cc
behind_less Greater e = absurd cc

behind_greater : (o : Ordering) → behind_order o ≡ Greater → (o ≡ Equal) ⊎ (o ≡ Greater)
behind_greater Less e = absurd cc
behind_greater Equal e = inl refl
behind_greater Greater e = inr refl

behind_gap : (v : Numbered) → IsGapOrder (λ w. behind_order (numbered_cmp v w))
behind_gap v = record {
  apart = λ w e. behind_apart (numbered_cmp v w) e;
  between = λ l h low high. by l h (behind_greater (numbered_cmp v l) low) (behind_less (numbered_cmp v h) high);
}
  where
    by : (l h : Numbered) → (numbered_cmp v l ≡ Equal) ⊎ (numbered_cmp v l ≡ Greater) → numbered_cmp v h ≡ Less → numbered_cmp l h ≡ Less
    by l h (inl same) less = sym (numbered_cmp_total.congr v l h same) ∙ less
    by l h (inr above) less = numbered_cmp_total.trans l v h (turned l v ∙ ap ordering_reverse above) less

before_gap : IsGapOrder (λ w. Less)
before_gap = record { apart = λ w e. cc; between = λ l h low high. absurd cc }

module _ (order : Numbered → Ordering) (gap : IsGapOrder order) where
  gap_unordered : (operator : Operator) (w : Version) → admits_gap operator order w ≡ true → (is_ordering operator && is_branch w) ≡ false
  gap_unordered operators.Less (versions.Numbered w) e = refl
  gap_unordered operators.LessOrEqual (versions.Numbered w) e = refl
  gap_unordered operators.Greater (versions.Numbered w) e = refl
  gap_unordered operators.GreaterOrEqual (versions.Numbered w) e = refl
  gap_unordered operators.Equal w e = refl
  gap_unordered operators.NotEqual w e = refl
  gap_unordered operators.Less (versions.Branch name) e = absurd cc
  gap_unordered operators.LessOrEqual (versions.Branch name) e = absurd cc
  gap_unordered operators.Greater (versions.Branch name) e = absurd cc
  gap_unordered operators.GreaterOrEqual (versions.Branch name) e = absurd cc

  gap_unnamed : (operator : Operator) (w : Version) → admits_gap operator order w ≡ true → (is_equal operator && is_branch w) ≡ false
  gap_unnamed operators.Less w e = refl
  gap_unnamed operators.LessOrEqual w e = refl
  gap_unnamed operators.Greater w e = refl
  gap_unnamed operators.GreaterOrEqual w e = refl
  gap_unnamed operators.Equal (versions.Numbered w) e = refl
  gap_unnamed operators.Equal (versions.Branch name) e = absurd cc
  gap_unnamed operators.NotEqual w e = refl

  above_low : (operator : Operator) (l : Numbered) → is_lower operator ≡ true → admits operator (order l) ≡ true → order l ≡ Greater
  above_low operator l low e = by operator (order l) refl low e
    where
      by : (op : Operator) (o : Ordering) → order l ≡ o → is_lower op ≡ true → admits op o ≡ true → o ≡ Greater
      by op Greater same low e = refl
      by op Equal same low e = absurd (gap.apart l same)
      by operators.Less Less same low e = absurd cc
      by operators.LessOrEqual Less same low e = absurd cc
      by operators.Greater Less same low e = absurd cc
      by operators.GreaterOrEqual Less same low e = absurd cc
      by operators.Equal Less same low e = absurd cc
      by operators.NotEqual Less same low e = absurd cc

  below_high : (operator : Operator) (h : Numbered) → is_upper operator ≡ true → admits operator (order h) ≡ true → order h ≡ Less
  below_high operator h high e = by operator (order h) refl high e
    where
      by : (op : Operator) (o : Ordering) → order h ≡ o → is_upper op ≡ true → admits op o ≡ true → o ≡ Less
      by op Less same high e = refl
      by op Equal same high e = absurd (gap.apart h same)
      by operators.Less Greater same high e = absurd cc
      by operators.LessOrEqual Greater same high e = absurd cc
      by operators.Greater Greater same high e = absurd cc
      by operators.GreaterOrEqual Greater same high e = absurd cc
      by operators.Equal Greater same high e = absurd cc
      by operators.NotEqual Greater same high e = absurd cc

  gap_room : (list : List Comparison) (op : Operator) (l : Version) (oq : Operator) (h : Version) → admits_gap op order l ≡ true → admits_gap oq order h ≡ true
      → (not (is_lower op && is_upper oq) || room_between l h (not (is_exclusive op) && not (is_exclusive oq) && not (list_any (excludes l) list))) ≡ true
  gap_room list op (versions.Branch name) oq h e f = elim (is_lower op && is_upper oq) as (λ t. (not t || true) ≡ true) [ true ↦ refl | false ↦ refl ]
  gap_room list op (versions.Numbered l) oq (versions.Branch other) e f = elim (is_lower op && is_upper oq) as (λ t. (not t || true) ≡ true) [ true ↦ refl | false ↦ refl ]
  gap_room list op (versions.Numbered l) oq (versions.Numbered h) e f =
      elim (is_lower op && is_upper oq) as (λ t. (is_lower op && is_upper oq) ≡ t → (not t || room_by (numbered_cmp l h) (not (is_exclusive op) && not (is_exclusive oq) && not (list_any (excludes (versions.Numbered l)) list))) ≡ true) [
        | true ↦ λ ends.
            let two = both (is_lower op) (is_upper oq) ends in
            let less : numbered_cmp l h ≡ Less = gap.between l h (above_low op l two.0 e) (below_high oq h two.1 f) in
            rw less refl
        | false ↦ λ ends. refl
      ] refl

  opened_by_gap : (list : List Comparison) → list_all (λ c. admits_gap c.operator order c.version) list ≡ true → is_open list ≡ true
  opened_by_gap list all =
      let each = λ (c : Comparison) (is : IsIn c list). all_at (λ (x : Comparison). admits_gap x.operator order x.version) list c all is in
      let ordered : list_any orders_branch list ≡ false = none_from orders_branch list (λ c is. gap_unordered c.operator c.version (each c is)) in
      let named : list_any names_branch list ≡ false = none_from names_branch list (λ c is. gap_unnamed c.operator c.version (each c is)) in
      let room : all_leave_room list ≡ true = all_from (λ low. list_all (leave_room list low) list) list (λ low is. all_from (leave_room list low) list (λ high also. gap_room list low.operator low.version high.operator high.version (each low is) (each high also))) in
      rw (ordered, named, room) refl

pub opened_by_point : (list : List Comparison) (point : Point) → all_hold_at_point point list ≡ true → is_open list ≡ true
opened_by_point list (on version) all = opened_by list version all
opened_by_point list (behind v) all = opened_by_gap (λ w. behind_order (numbered_cmp v w)) (behind_gap v) list all
opened_by_point list before_all all = opened_by_gap (λ w. Less) before_gap list all

-- ---- an open list is satisfied by a point

-- where the tightest limits stand on a side
abbrev Ends : List Comparison → Side → Option Limit → Type 0
Ends list side end = (c : Comparison) (x : Limit) → IsIn c list → limit_in side c ≡ Some x → IsReached side x end

tightest_ends : (list : List Comparison) (side : Side) → Ends list side (tightest_of side None list)
tightest_ends list side c x is e = reached_in side x c None list is e

-- a comparison with a branch, where none is named or ordered
branch_holds : (operator : Operator) → is_ordering operator ≡ false → is_equal operator ≡ false → admits_unordered operator false ≡ true
branch_holds operators.Less ordered named = absurd cc
branch_holds operators.LessOrEqual ordered named = absurd cc
branch_holds operators.Greater ordered named = absurd cc
branch_holds operators.GreaterOrEqual ordered named = absurd cc
branch_holds operators.Equal ordered named = absurd cc
branch_holds operators.NotEqual ordered named = refl

and_true : (b : Bool) → (b && true) ≡ b
and_true true = refl
and_true false = refl

abbrev limit : Numbered → Bool → Limit
limit v exclusive = record { version = v; exclusive = exclusive }

-- a list in which no branch is named or ordered, at a point: what it takes of comparisons with versions
abbrev Takes : List Comparison → (Operator → Numbered → Bool) → Type 0
Takes list test = (operator : Operator) (w : Numbered) → IsIn (record { operator = operator; version = versions.Numbered w }) list → test operator w ≡ true

module _ (list : List Comparison) (ordered : list_any orders_branch list ≡ false) (named : list_any names_branch list ≡ false) where
  unbranched : (operator : Operator) (name : List ℕ) → IsIn (record { operator = operator; version = versions.Branch name }) list → admits_unordered operator false ≡ true
  unbranched operator name is =
      branch_holds operator (sym (and_true (is_ordering operator)) ∙ none_at orders_branch list (record { operator = operator; version = versions.Branch name }) ordered is)
      (sym (and_true (is_equal operator)) ∙ none_at names_branch list (record { operator = operator; version = versions.Branch name }) named is)

  gap_takes : (order : Numbered → Ordering) → Takes list (λ operator w. admits operator (order w)) → list_all (λ c. admits_gap c.operator order c.version) list ≡ true
  gap_takes order takes = all_from (λ c. admits_gap c.operator order c.version) list (λ c is. by c.operator c.version is)
    where
      by : (operator : Operator) (w : Version) → IsIn (record { operator = operator; version = w }) list → admits_gap operator order w ≡ true
      by operator (versions.Numbered w) is = takes operator w is
      by operator (versions.Branch name) is = unbranched operator name is

  version_takes : (v : Numbered) → Takes list (λ operator w. admits operator (numbered_cmp v w)) → all_hold_at (versions.Numbered v) list ≡ true
  version_takes v takes = all_from (holds_at (versions.Numbered v)) list (λ c is. by c.operator c.version is)
    where
      by : (operator : Operator) (w : Version) → IsIn (record { operator = operator; version = w }) list → is_admitted operator (versions.Numbered v) w ≡ true
      by operator (versions.Numbered w) is = takes operator w is
      by operator (versions.Branch name) is = unbranched operator name is

  -- what a version's limit is to the tightest one
  low_at : (end : Option Limit) → Ends list sides.Lower end → (operator : Operator) (w : Numbered) → IsIn (record { operator = operator; version = versions.Numbered w }) list → is_lower operator ≡ true
      → IsReached sides.Lower (limit w (is_exclusive operator)) end
  low_at end ends operator w is low = ends (record { operator = operator; version = versions.Numbered w }) (limit w (is_exclusive operator)) is (rw low refl)

  high_at : (end : Option Limit) → Ends list sides.Upper end → (operator : Operator) (w : Numbered) → IsIn (record { operator = operator; version = versions.Numbered w }) list → is_upper operator ≡ true
      → IsReached sides.Upper (limit w (is_exclusive operator)) end
  high_at end ends operator w is high = ends (record { operator = operator; version = versions.Numbered w }) (limit w (is_exclusive operator)) is (rw high refl)

  -- no lower end: the point before all versions
  at_start : Ends list sides.Lower None → Takes list (λ operator w. admits operator Less)
  at_start ends operators.Less w is = refl
  at_start ends operators.LessOrEqual w is = refl
  at_start ends operators.Greater w is = absurd (low_at None ends operators.Greater w is refl)
  at_start ends operators.GreaterOrEqual w is = absurd (low_at None ends operators.GreaterOrEqual w is refl)
  at_start ends operators.Equal w is = absurd (low_at None ends operators.Equal w is refl)
  at_start ends operators.NotEqual w is = refl

  -- a lower end: the gap behind it, where each upper end is above it
  module _ (low : Limit) (ends : Ends list sides.Lower (Some low)) where
    not_less : (w : Numbered) (exclusive : Bool) → IsReached sides.Lower (limit w exclusive) (Some low) → behind_order (numbered_cmp low.version w) ≡ Greater
    not_less w exclusive is = by (below_cases (numbered_cmp w low.version) exclusive low.exclusive is)
      where
        by : (numbered_cmp w low.version ≡ Less) ⊎ ((numbered_cmp w low.version ≡ Equal) × (low.exclusive ≡ false → exclusive ≡ false)) → behind_order (numbered_cmp low.version w) ≡ Greater
        by (inl less) = let above : numbered_cmp low.version w ≡ Greater = turned low.version w ∙ ap ordering_reverse less in rw above refl
        by (inr same) = let alike : numbered_cmp low.version w ≡ Equal = turned low.version w ∙ ap ordering_reverse same.0 in rw alike refl

    behind_low : ((w : Numbered) (operator : Operator) → IsIn (record { operator = operator; version = versions.Numbered w }) list → is_upper operator ≡ true → numbered_cmp low.version w ≡ Less)
        → Takes list (λ operator w. admits operator (behind_order (numbered_cmp low.version w)))
    behind_low above operators.Less w is = rw (above w operators.Less is refl) refl
    behind_low above operators.LessOrEqual w is = rw (above w operators.LessOrEqual is refl) refl
    behind_low above operators.Greater w is = rw (not_less w true (low_at (Some low) ends operators.Greater w is refl)) refl
    behind_low above operators.GreaterOrEqual w is = rw (not_less w false (low_at (Some low) ends operators.GreaterOrEqual w is refl)) refl
    behind_low above operators.Equal w is =
        let less : behind_order (numbered_cmp low.version w) ≡ Less = ap behind_order (above w operators.Equal is refl) in
        let greater : behind_order (numbered_cmp low.version w) ≡ Greater = not_less w false (low_at (Some low) ends operators.Equal w is refl) in
        let apart : Less ≡ Greater = sym less ∙ greater in
        absurd cc
    behind_low above operators.NotEqual w is = by (numbered_cmp low.version w)
      where
        by : (o : Ordering) → admits operators.NotEqual (behind_order o) ≡ true
        by Less = refl
        by Equal = refl
        by Greater = refl

    -- no upper end
    unended : Ends list sides.Upper None → (w : Numbered) (operator : Operator) → IsIn (record { operator = operator; version = versions.Numbered w }) list → is_upper operator ≡ true → numbered_cmp low.version w ≡ Less
    unended highs w operator is high = absurd (high_at None highs operator w is high)

    module _ (high : Limit) (highs : Ends list sides.Upper (Some high)) where
      -- the upper end against a comparison's own
      at_most : (w : Numbered) (exclusive : Bool) → IsReached sides.Upper (limit w exclusive) (Some high) → (numbered_cmp high.version w ≡ Less) ⊎ ((numbered_cmp high.version w ≡ Equal) × (high.exclusive ≡ false → exclusive ≡ false))
      at_most w exclusive is = below_cases (numbered_cmp high.version w) exclusive high.exclusive is

      -- below an upper end that is above
      ended : numbered_cmp low.version high.version ≡ Less → (w : Numbered) (operator : Operator) → IsIn (record { operator = operator; version = versions.Numbered w }) list → is_upper operator ≡ true → numbered_cmp low.version w ≡ Less
      ended less w operator is upper = by (at_most w (is_exclusive operator) (high_at (Some high) highs operator w is upper))
        where
          by : (numbered_cmp high.version w ≡ Less) ⊎ ((numbered_cmp high.version w ≡ Equal) × (high.exclusive ≡ false → is_exclusive operator ≡ false)) → numbered_cmp low.version w ≡ Less
          by (inl more) = numbered_cmp_total.trans low.version high.version w less more
          by (inr same) = let alike : high.version ≡ w = numbered_cmp_exact high.version w same.0 in rw (← alike) less

      -- both ends are one version, which both take and no `!=` names
      module _ (same : low.version ≡ high.version) (low_in : low.exclusive ≡ false) (high_in : high.exclusive ≡ false) (kept : list_any (excludes (versions.Numbered low.version)) list ≡ false) where
        from_low : (w : Numbered) (exclusive : Bool) → IsReached sides.Lower (limit w exclusive) (Some low) → (numbered_cmp low.version w ≡ Greater) ⊎ ((numbered_cmp low.version w ≡ Equal) × (exclusive ≡ false))
        from_low w exclusive is = by (below_cases (numbered_cmp w low.version) exclusive low.exclusive is)
          where
            by : (numbered_cmp w low.version ≡ Less) ⊎ ((numbered_cmp w low.version ≡ Equal) × (low.exclusive ≡ false → exclusive ≡ false)) → (numbered_cmp low.version w ≡ Greater) ⊎ ((numbered_cmp low.version w ≡ Equal) × (exclusive ≡ false))
            by (inl less) = inl (turned low.version w ∙ ap ordering_reverse less)
            by (inr alike) = inr (turned low.version w ∙ ap ordering_reverse alike.0, alike.1 low_in)

        to_high : (w : Numbered) (exclusive : Bool) → IsReached sides.Upper (limit w exclusive) (Some high) → (numbered_cmp low.version w ≡ Less) ⊎ ((numbered_cmp low.version w ≡ Equal) × (exclusive ≡ false))
        to_high w exclusive is = by (at_most w exclusive is)
          where
            by : (numbered_cmp high.version w ≡ Less) ⊎ ((numbered_cmp high.version w ≡ Equal) × (high.exclusive ≡ false → exclusive ≡ false)) → (numbered_cmp low.version w ≡ Less) ⊎ ((numbered_cmp low.version w ≡ Equal) × (exclusive ≡ false))
            by (inl less) = inl (rw same less)
            by (inr alike) = inr (rw same alike.0, alike.1 high_in)

        at_both : Takes list (λ operator w. admits operator (numbered_cmp low.version w))
        at_both operators.Less w is = by (to_high w true (high_at (Some high) highs operators.Less w is refl))
          where
            by : (numbered_cmp low.version w ≡ Less) ⊎ ((numbered_cmp low.version w ≡ Equal) × (true ≡ false)) → is_lt (numbered_cmp low.version w) ≡ true
            by (inl less) = rw less refl
            by (inr alike) = absurd (let h = alike.1 in cc)
        at_both operators.LessOrEqual w is = by (to_high w false (high_at (Some high) highs operators.LessOrEqual w is refl))
          where
            by : (numbered_cmp low.version w ≡ Less) ⊎ ((numbered_cmp low.version w ≡ Equal) × (false ≡ false)) → is_le (numbered_cmp low.version w) ≡ true
            by (inl less) = rw less refl
            by (inr alike) = rw alike.0 refl
        at_both operators.Greater w is = by (from_low w true (low_at (Some low) ends operators.Greater w is refl))
          where
            by : (numbered_cmp low.version w ≡ Greater) ⊎ ((numbered_cmp low.version w ≡ Equal) × (true ≡ false)) → is_gt (numbered_cmp low.version w) ≡ true
            by (inl more) = rw more refl
            by (inr alike) = absurd (let h = alike.1 in cc)
        at_both operators.GreaterOrEqual w is = by (from_low w false (low_at (Some low) ends operators.GreaterOrEqual w is refl))
          where
            by : (numbered_cmp low.version w ≡ Greater) ⊎ ((numbered_cmp low.version w ≡ Equal) × (false ≡ false)) → is_ge (numbered_cmp low.version w) ≡ true
            by (inl more) = rw more refl
            by (inr alike) = rw alike.0 refl
        at_both operators.Equal w is = by (from_low w false (low_at (Some low) ends operators.Equal w is refl)) (to_high w false (high_at (Some high) highs operators.Equal w is refl))
          where
            by : (numbered_cmp low.version w ≡ Greater) ⊎ ((numbered_cmp low.version w ≡ Equal) × (false ≡ false)) → (numbered_cmp low.version w ≡ Less) ⊎ ((numbered_cmp low.version w ≡ Equal) × (false ≡ false)) → is_eq (numbered_cmp low.version w) ≡ true
            by (inr alike) second = rw alike.0 refl
            by (inl more) (inr alike) = rw alike.0 refl
            by (inl more) (inl less) = let apart : Greater ≡ Less = sym more ∙ less in absurd cc
        at_both operators.NotEqual w is = not_not (admits operators.NotEqual (numbered_cmp low.version w)) (none_at (excludes (versions.Numbered low.version)) list (record { operator = operators.NotEqual; version = versions.Numbered w }) kept is)
          where
            not_not : (b : Bool) → not b ≡ false → b ≡ true
            not_not true e = refl
            not_not false e = absurd cc

abbrev SomePoint : List Comparison → Type 0
SomePoint list = (point : Point) × (all_hold_at_point point list ≡ true)

not_of : (b : Bool) → not b ≡ true → b ≡ false
not_of true e = absurd cc
not_of false e = refl

point_of_room : (list : List Comparison) → list_any orders_branch list ≡ false → list_any names_branch list ≡ false → (low high : Option Limit) → Ends list sides.Lower low → Ends list sides.Upper high → room_at list low high ≡ true → SomePoint list
point_of_room list ordered named None high lows highs room = (before_all, gap_takes list ordered named (λ w. Less) (at_start list ordered named lows))
point_of_room list ordered named (Some low) None lows highs room =
    (behind low.version, gap_takes list ordered named (λ w. behind_order (numbered_cmp low.version w)) (behind_low list ordered named low lows (unended list ordered named low lows highs)))
point_of_room list ordered named (Some low) (Some high) lows highs room = by (numbered_cmp low.version high.version) refl room
  where
    by : (o : Ordering) → numbered_cmp low.version high.version ≡ o → room_by o (not low.exclusive && not high.exclusive && not (list_any (excludes (versions.Numbered low.version)) list)) ≡ true → SomePoint list
    by Less less r = (behind low.version, gap_takes list ordered named (λ w. behind_order (numbered_cmp low.version w)) (behind_low list ordered named low lows (ended list ordered named low lows high highs less)))
    by Equal same r =
        let outs = both (not low.exclusive && not high.exclusive) (not (list_any (excludes (versions.Numbered low.version)) list)) r in
        let two = both (not low.exclusive) (not high.exclusive) outs.0 in
        let alike = numbered_cmp_exact low.version high.version same in
        (on (versions.Numbered low.version), version_takes list ordered named low.version (at_both list ordered named low lows high highs alike (not_of low.exclusive two.0) (not_of high.exclusive two.1) (not_of (list_any (excludes (versions.Numbered low.version)) list) outs.1)))
    by Greater more r = absurd cc

pub point_of_open : (list : List Comparison) → is_open list ≡ true → SomePoint list
point_of_open list open_there = by (first_branch list) refl
  where
    ordered : list_any orders_branch list ≡ false
    ordered = not_of (list_any orders_branch list) (both (not (list_any orders_branch list)) _ open_there).0

    by : (first : Option Version) → first_branch list ≡ first → SomePoint list
    by (Some branch) found = (on branch, sym (open_at_branch list branch ordered found) ∙ open_there)
    by None found =
        point_of_room list ordered (none_named list found) (tightest_of sides.Lower None list) (tightest_of sides.Upper None list) (tightest_ends list sides.Lower) (tightest_ends list sides.Upper) (sym (open_by_room list ordered found) ∙ open_there)

-- ---- constraints that meet have a point in common

some_list : {X : Type 0} (p : X → Bool) (xs : List X) → list_any p xs ≡ true → (x : X) × IsIn x xs × (p x ≡ true)
some_list p [] e = absurd cc
some_list p (x ∷ xs) e =
    elim (p x) as (λ t. p x ≡ t → (t || list_any p xs) ≡ true → (y : _) × IsIn y (x ∷ xs) × (p y ≡ true)) [
      | true ↦ λ is h. (x, inl refl, is)
      | false ↦ λ is h. let found = some_list p xs h in (found.0, inr found.1, found.2)
    ] refl e

pub common_point : (c d : Constraint) → overlaps c d ≡ true → (point : Point) × (satisfies_at c point ≡ true) × (satisfies_at d point ≡ true)
unfolding overlaps satisfies_at
common_point c d e =
    let first = some_list (λ one. list_any (λ second. is_open (one ++ second)) d.alternatives) c.alternatives e in
    let second = some_list (λ other. is_open (first.0 ++ other)) d.alternatives first.2 in
    let point = point_of_open (first.0 ++ second.0) second.2 in
    let halves = both (all_hold_at_point point.0 first.0) (all_hold_at_point point.0 second.0) (sym (list_all-append (holds_at_point point.0) first.0 second.0) ∙ point.1) in
    (point.0, any_from (all_hold_at_point point.0) c.alternatives first.0 first.1 halves.0, any_from (all_hold_at_point point.0) d.alternatives second.0 second.1 halves.1)

pub meets_at : (c d : Constraint) (point : Point) → satisfies_at c point ≡ true → satisfies_at d point ≡ true → overlaps c d ≡ true
unfolding overlaps satisfies_at
meets_at c d point e f =
    let first = some_list (all_hold_at_point point) c.alternatives e in
    let second = some_list (all_hold_at_point point) d.alternatives f in
    any_from (λ one. list_any (λ other. is_open (one ++ other)) d.alternatives) c.alternatives first.0 first.1
    (any_from (λ other. is_open (first.0 ++ other)) d.alternatives second.0 second.1
    (opened_by_point (first.0 ++ second.0) point (list_all-append (holds_at_point point) first.0 second.0 ∙ rw (first.2, second.2) refl)))

pub at_version : (c : Constraint) (version : Version) → satisfies_at c (on version) ≡ satisfies c version
unfolding satisfies satisfies_at
at_version c version = refl
