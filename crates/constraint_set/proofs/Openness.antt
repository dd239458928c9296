-- A list is open by the room that its tightest limits leave, or by the branch that it names.
use Rattle.std.proofs.Common.{◌≡◌, ℕ, Bool, true, false, cond, List, [], ◌∷◌, ◌++◌, Option, Some, None, inl, inr, refl, sym, ap, ◌∙◌}
use Rattle.std.specs.Prelude.{not, ◌&&◌, ◌||◌}
use Rattle.std.specs.List.{list_all, list_any}
use Rattle.std.specs.Cmp.{both_ways}
use Rattle.std.proofs.lemmas.List.Folds.{list_any-append, list_all-append}
use Rattle.version_norm.specs.declared.version.Version.{Version}
use Rattle.version_norm.specs.declared.version.Version.TheVariants as versions
use Rattle.version_norm.proofs.Read.{same_bytes}
use Rattle.constraint_set.specs.declared.constraint.Operator.{Operator}
use Rattle.constraint_set.specs.declared.constraint.Operator.TheVariants as operators
use Rattle.constraint_set.specs.declared.constraint.Comparison.{Comparison}
use Rattle.constraint_set.specs.declared.overlap.Side.{Side}
use Rattle.constraint_set.specs.declared.overlap.Side.TheVariants as sides
use Rattle.constraint_set.specs.Parts.{is_equal}
use Rattle.constraint_set.specs.Satisfaction.{is_admitted, holds_at, all_hold_at}
use Rattle.constraint_set.specs.Overlap.{is_branch, is_ordering, names_branch, orders_branch, bounds_numbers, leave_room, agree, is_open_branch, is_open}
use Rattle.constraint_set.specs.Ends.{Limit, is_end, limit_at, limit_in, tightest_of, room_at, first_branch}
use Rattle.constraint_set.proofs.Members.{both, IsIn, all_at, all_from, none_at, none_from}
use Rattle.constraint_set.proofs.Limits.{room_is, all_leave_room, pairs_are_ends}

-- ---- the branch that is named

pub none_named : (list : List Comparison) → first_branch list ≡ None → list_any names_branch list ≡ false
none_named [] e = refl
none_named (next ∷ rest) e =
    elim (names_branch next) as (λ t. cond t (Some next.version) (first_branch rest) ≡ None → (t || list_any names_branch rest) ≡ false) [
      | true ↦ λ h. absurd cc
      | false ↦ λ h. none_named rest h
    ] e

record Names (list : List Comparison) (branch : Version) : Type 0 where
  at : Comparison
  is : IsIn at list
  names : names_branch at ≡ true
  version : at.version ≡ branch

named : (list : List Comparison) (branch : Version) → first_branch list ≡ Some branch → Names list branch
named [] branch e = absurd cc
named (next ∷ rest) branch e =
    elim (names_branch next) as (λ t. names_branch next ≡ t → cond t (Some next.version) (first_branch rest) ≡ Some branch → Names (next ∷ rest) branch) [
      | true ↦ λ is h. record { at = next; is = inl refl; names = is; version = cc }
      | false ↦ λ is h.
          let found = named rest branch h in
          record { at = found.at; is = inr found.is; names = found.names; version = found.version }
    ] refl e

pub any_named : (list : List Comparison) (c : Comparison) → IsIn c list → names_branch c ≡ true → list_any names_branch list ≡ true
any_named [] c is e = absurd is
any_named (next ∷ rest) c (inl same) e = let first : names_branch next ≡ true = ap names_branch (sym same) ∙ e in rw first refl
any_named (next ∷ rest) c (inr is) e = rw (any_named rest c is e) (elim (names_branch next) as (λ t. (t || true) ≡ true) [ true ↦ refl | false ↦ refl ])

-- ---- without a branch that is named

no_limit : (side : Side) (operator : Operator) (v : Version) (exclusive : Bool) → ((is_ordering operator || is_equal operator) && not (is_branch v)) ≡ false → limit_at (is_end side operator) v exclusive ≡ None
no_limit sides.Lower operators.Less v exclusive e = refl
no_limit sides.Lower operators.LessOrEqual v exclusive e = refl
no_limit sides.Lower operators.Greater (versions.Branch name) exclusive e = refl
no_limit sides.Lower operators.Greater (versions.Numbered v) exclusive e = absurd cc
no_limit sides.Lower operators.GreaterOrEqual (versions.Branch name) exclusive e = refl
no_limit sides.Lower operators.GreaterOrEqual (versions.Numbered v) exclusive e = absurd cc
no_limit sides.Lower operators.Equal (versions.Branch name) exclusive e = refl
no_limit sides.Lower operators.Equal (versions.Numbered v) exclusive e = absurd cc
no_limit sides.Lower operators.NotEqual v exclusive e = refl
no_limit sides.Upper operators.Less (versions.Branch name) exclusive e = refl
no_limit sides.Upper operators.Less (versions.Numbered v) exclusive e = absurd cc
no_limit sides.Upper operators.LessOrEqual (versions.Branch name) exclusive e = refl
no_limit sides.Upper operators.LessOrEqual (versions.Numbered v) exclusive e = absurd cc
no_limit sides.Upper operators.Greater v exclusive e = refl
no_limit sides.Upper operators.GreaterOrEqual v exclusive e = refl
no_limit sides.Upper operators.Equal (versions.Branch name) exclusive e = refl
no_limit sides.Upper operators.Equal (versions.Numbered v) exclusive e = absurd cc
no_limit sides.Upper operators.NotEqual v exclusive e = refl

-- a list that sets no limits leaves room
unbounded : (list : List Comparison) → list_any bounds_numbers list ≡ false → all_leave_room list ≡ true
unbounded list none = all_from (λ low. list_all (leave_room list low) list) list (λ low is. all_from (leave_room list low) list (λ high also.
    room_is list low high ∙ ap (λ (limit : Option Limit). room_at list limit (limit_in sides.Upper high)) (no_limit sides.Lower low.operator low.version _ (none_at bounds_numbers list low none is))))

pub open_by_room : (list : List Comparison) → list_any orders_branch list ≡ false → first_branch list ≡ None → is_open list ≡ room_at list (tightest_of sides.Lower None list) (tightest_of sides.Upper None list)
open_by_room list ordered unnamed = rw (ordered, none_named list unnamed) (by (list_any bounds_numbers list) refl ∙ pairs_are_ends list)
  where
    by : (t : Bool) → list_any bounds_numbers list ≡ t → (all_leave_room list || (not t && list_all (λ first. list_all (agree first) list) list)) ≡ all_leave_room list
    by true e = elim (all_leave_room list) as (λ a. (a || false) ≡ a) [ true ↦ refl | false ↦ refl ]
    by false e = rw (unbounded list e) refl

-- ---- with a branch that is named

pub is_named : (operator : Operator) (v : Version) → (is_equal operator && is_branch v) ≡ true → (operator ≡ operators.Equal) × (is_branch v ≡ true)
is_named operators.Less v e = absurd cc
is_named operators.LessOrEqual v e = absurd cc
is_named operators.Greater v e = absurd cc
is_named operators.GreaterOrEqual v e = absurd cc
is_named operators.Equal v e = (refl, e)
is_named operators.NotEqual v e = absurd cc

-- a branch that is compared as equal is the same
same_branch : (branch v : Version) → is_branch branch ≡ true → is_branch v ≡ true → is_admitted operators.Equal branch v ≡ true → v ≡ branch
same_branch (versions.Branch name) (versions.Branch other) is also e = ap (λ (n : List ℕ). versions.Branch n) (sym (same_bytes name other e))
same_branch (versions.Branch name) (versions.Numbered v) is also e = absurd cc
same_branch (versions.Numbered w) v is also e = absurd cc

-- what holds at a branch bounds no numbers
no_bound : (branch : Version) (operator : Operator) (v : Version) → is_branch branch ≡ true → is_admitted operator branch v ≡ true → ((is_ordering operator || is_equal operator) && not (is_branch v)) ≡ false
no_bound (versions.Numbered w) operator v is e = absurd cc
no_bound (versions.Branch name) operators.Less (versions.Branch other) is e = refl
no_bound (versions.Branch name) operators.LessOrEqual (versions.Branch other) is e = refl
no_bound (versions.Branch name) operators.Greater (versions.Branch other) is e = refl
no_bound (versions.Branch name) operators.GreaterOrEqual (versions.Branch other) is e = refl
no_bound (versions.Branch name) operators.Equal (versions.Branch other) is e = refl
no_bound (versions.Branch name) operators.NotEqual (versions.Branch other) is e = refl
no_bound (versions.Branch name) operators.Less (versions.Numbered v) is e = absurd cc
no_bound (versions.Branch name) operators.LessOrEqual (versions.Numbered v) is e = absurd cc
no_bound (versions.Branch name) operators.Greater (versions.Numbered v) is e = absurd cc
no_bound (versions.Branch name) operators.GreaterOrEqual (versions.Numbered v) is e = absurd cc
no_bound (versions.Branch name) operators.Equal (versions.Numbered v) is e = absurd cc
no_bound (versions.Branch name) operators.NotEqual (versions.Numbered v) is e = refl

-- a branch at which all comparisons hold opens the list
pub branch_opens : (list : List Comparison) (branch : Version) → is_branch branch ≡ true → all_hold_at branch list ≡ true → is_open_branch list ≡ true
branch_opens list branch is_one all =
    let none : list_any bounds_numbers list ≡ false = none_from bounds_numbers list (λ c is. no_bound branch c.operator c.version is_one (all_at (holds_at branch) list c all is)) in
    rw none (all_from (λ first. list_all (agree first) list) list (λ first is. all_from (agree first) list (λ second also. agreed first second is also)))
  where
    agreed : (first second : Comparison) → IsIn first list → IsIn second list → agree first second ≡ true
    agreed first second is also =
        elim (names_branch first) as (λ t. names_branch first ≡ t → (not t || holds_at first.version second) ≡ true) [
          | true ↦ λ names.
              let equal = is_named first.operator first.version names in
              let same : first.version ≡ branch = same_branch branch first.version is_one equal.1 (rw equal.0 at (all_at (holds_at branch) list first all is)) in
              rw same (all_at (holds_at branch) list second all also)
          | false ↦ λ names. refl
        ] refl

pub open_at_branch : (list : List Comparison) (branch : Version) → list_any orders_branch list ≡ false → first_branch list ≡ Some branch → is_open list ≡ all_hold_at branch list
open_at_branch list branch ordered found =
    rw (ordered, any_named list there.at there.is there.names) (both_ways (is_open_branch list) (all_hold_at branch list) forward backward)
  where
    there : Names list branch
    there = named list branch found

    is_one : is_branch branch ≡ true
    is_one = ap is_branch (sym there.version) ∙ (is_named there.at.operator there.at.version there.names).1

    forward : is_open_branch list ≡ true → all_hold_at branch list ≡ true
    forward open_there =
        let pairs = (both (not (list_any bounds_numbers list)) (list_all (λ first. list_all (agree first) list) list) open_there).1 in
        let each = all_at (λ first. list_all (agree first) list) list there.at pairs there.is in
        all_from (holds_at branch) list (λ second is. rw (there.names, there.version) at (all_at (agree there.at) list second each is))

    backward : all_hold_at branch list ≡ true → is_open_branch list ≡ true
    backward all = branch_opens list branch is_one all

-- ---- two lists, joined

unordered : (first second : List Comparison) → list_any orders_branch first ≡ false → list_any orders_branch second ≡ false → list_any orders_branch (first ++ second) ≡ false
unordered first second e f = list_any-append orders_branch first second ∙ (rw (e, f) refl)

pub joined_by_room : (first second : List Comparison) → list_any orders_branch first ≡ false → list_any orders_branch second ≡ false → first_branch (first ++ second) ≡ None
    → is_open (first ++ second) ≡ room_at (first ++ second) (tightest_of sides.Lower None (first ++ second)) (tightest_of sides.Upper None (first ++ second))
joined_by_room first second e f unnamed = open_by_room (first ++ second) (unordered first second e f) unnamed

pub joined_at_branch : (first second : List Comparison) (branch : Version) → list_any orders_branch first ≡ false → list_any orders_branch second ≡ false → first_branch (first ++ second) ≡ Some branch
    → is_open (first ++ second) ≡ (all_hold_at branch first && all_hold_at branch second)
joined_at_branch first second branch e f found = open_at_branch (first ++ second) branch (unordered first second e f) found ∙ list_all-append (holds_at branch) first second
