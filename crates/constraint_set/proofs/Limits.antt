-- The tightest limits of a list: no other is tighter, and they come from it. So all pairs leave room where these do.
use Rattle.std.proofs.Common.{◌≡◌, Bool, true, false, cond, List, [], ◌∷◌, Option, Some, None, ◌⊎◌, inl, inr, refl, sym, ap, ◌∙◌}
use Rattle.std.specs.Prelude.{not, ◌&&◌, ◌||◌}
use Rattle.std.specs.List.{list_all, list_any}
use Rattle.std.specs.Cmp.{IsTotalOrder, both_ways}
use Rattle.std.specs.Ordering.{is_gt, ordering_then, bool_cmp, ordering_reverse}
use Rattle.std.specs.declared.cmp.Ordering.{Ordering}
use Rattle.std.specs.declared.cmp.Ordering.TheVariants.{Less, Equal, Greater}
use Rattle.std.proofs.lemmas.Cmp.{upto, tied_itself, alike_right, on_total, then_total, back_total}
use Rattle.std.specs.Cmp.{bool_cmp_total}
use Rattle.version_norm.specs.declared.version.Numbered.{Numbered}
use Rattle.version_norm.specs.declared.version.Version.{Version}
use Rattle.version_norm.specs.declared.version.Version.TheVariants as versions
use Rattle.version_norm.specs.VersionOrder.{numbered_cmp}
use Rattle.version_norm.proofs.OrderLaws.{numbered_cmp_total, numbered_cmp_exact}
use Rattle.constraint_set.specs.declared.constraint.Comparison.{Comparison}
use Rattle.constraint_set.specs.declared.overlap.Side.{Side}
use Rattle.constraint_set.specs.declared.overlap.Side.TheVariants as sides
use Rattle.constraint_set.specs.Overlap.{is_lower, is_upper, is_exclusive, excludes, room_by, room_between, leave_room}
use Rattle.constraint_set.specs.Ends.{Limit, limit_at, limit_in, toward, limit_cmp, tighter_of, tightest_of, room_at}
use Rattle.constraint_set.proofs.Members.{both, IsIn, all_at, all_from}

side_total : (side : Side) → IsTotalOrder (toward side)
side_total sides.Lower = numbered_cmp_total
side_total sides.Upper = back_total numbered_cmp_total

abbrev version_in : Limit → Numbered
version_in limit = limit.version

abbrev leaves_out : Limit → Bool
leaves_out limit = limit.exclusive

limit_total : (side : Side) → IsTotalOrder (limit_cmp side)
limit_total side = then_total (on_total version_in (side_total side)) (on_total leaves_out bool_cmp_total)

-- ---- no limit is tighter than the tightest

abbrev pub IsReached : Side → Limit → Option Limit → Type 0
IsReached side x None = ⊥
IsReached side x (Some e) = is_gt (limit_cmp side x e) ≡ false

reached_itself : (side : Side) (x : Limit) → IsReached side x (Some x)
reached_itself side x = rw (tied_itself (limit_total side) x) refl

not_above : (o : Ordering) → is_gt o ≡ true → is_gt (ordering_reverse o) ≡ false
not_above Less e = absurd cc
not_above Equal e = absurd cc
not_above Greater e = refl

reached_last : (side : Side) (x : Limit) (so_far next : Option Limit) → IsReached side x so_far → IsReached side x (tighter_of side so_far next)
reached_last side x None next is = absurd is
reached_last side x (Some last) None is = is
reached_last side x (Some last) (Some next) is =
    elim (is_gt (limit_cmp side next last)) as (λ t. is_gt (limit_cmp side next last) ≡ t → IsReached side x (cond t (Some next) (Some last))) [
      | true ↦ λ e. upto (limit_total side) x last next is (rw ((limit_total side).antisymm last next) (not_above (limit_cmp side next last) e))
      | false ↦ λ e. is
    ] refl

reached_next : (side : Side) (x : Limit) (so_far : Option Limit) → IsReached side x (tighter_of side so_far (Some x))
reached_next side x None = reached_itself side x
reached_next side x (Some last) =
    elim (is_gt (limit_cmp side x last)) as (λ t. is_gt (limit_cmp side x last) ≡ t → IsReached side x (cond t (Some x) (Some last))) [
      | true ↦ λ e. reached_itself side x
      | false ↦ λ e. e
    ] refl

reached_all : (side : Side) (x : Limit) (so_far : Option Limit) (list : List Comparison) → IsReached side x so_far → IsReached side x (tightest_of side so_far list)
reached_all side x so_far [] is = is
reached_all side x so_far (next ∷ rest) is = reached_all side x (tighter_of side so_far (limit_in side next)) rest (reached_last side x so_far (limit_in side next) is)

pub reached_in : (side : Side) (x : Limit) (c : Comparison) (so_far : Option Limit) (list : List Comparison) → IsIn c list → limit_in side c ≡ Some x → IsReached side x (tightest_of side so_far list)
reached_in side x c so_far [] is e = absurd is
reached_in side x c so_far (next ∷ rest) (inl same) e =
    let limit : limit_in side next ≡ Some x = ap (limit_in side) (sym same) ∙ e in
    reached_all side x (tighter_of side so_far (limit_in side next)) rest (rw limit (reached_next side x so_far))
reached_in side x c so_far (next ∷ rest) (inr is) e = reached_in side x c (tighter_of side so_far (limit_in side next)) rest is e

-- ---- the tightest comes from the list

abbrev IsFrom : Side → List Comparison → Option Limit → Type 0
IsFrom side list None = Unit {0}
IsFrom side list (Some e) = (c : Comparison) × IsIn c list × (limit_in side c ≡ Some e)

from_limit : (side : Side) (list : List Comparison) (c : Comparison) → IsIn c list → IsFrom side list (limit_in side c)
from_limit side list c is = by (limit_in side c) refl
  where
    by : (o : Option Limit) → limit_in side c ≡ o → IsFrom side list o
    by None e = tt
    by (Some x) e = (c, is, e)

from_tighter : (side : Side) (list : List Comparison) (so_far next : Option Limit) → IsFrom side list so_far → IsFrom side list next → IsFrom side list (tighter_of side so_far next)
from_tighter side list None None first second = first
from_tighter side list (Some last) None first second = first
from_tighter side list None (Some next) first second = second
from_tighter side list (Some last) (Some next) first second =
    elim (is_gt (limit_cmp side next last)) as (λ t. IsFrom side list (cond t (Some next) (Some last))) [ true ↦ second | false ↦ first ]

from_all : (side : Side) (whole : List Comparison) (so_far : Option Limit) (list : List Comparison) → ((c : Comparison) → IsIn c list → IsIn c whole) → IsFrom side whole so_far → IsFrom side whole (tightest_of side so_far list)
from_all side whole so_far [] within from = from
from_all side whole so_far (next ∷ rest) within from =
    from_all side whole (tighter_of side so_far (limit_in side next)) rest (λ c is. within c (inr is)) (from_tighter side whole so_far (limit_in side next) from (from_limit side whole next (within next (inl refl))))

-- ---- room between two comparisons is room between their limits

pub room_is : (list : List Comparison) (low high : Comparison) → leave_room list low high ≡ room_at list (limit_in sides.Lower low) (limit_in sides.Upper high)
room_is list low high = by (is_lower low.operator) (is_upper high.operator) low.version high.version (is_exclusive low.operator) (is_exclusive high.operator)
  where
    by : (l u : Bool) (v w : Version) (a b : Bool) → (not (l && u) || room_between v w (not a && not b && not (list_any (excludes v) list))) ≡ room_at list (limit_at l v a) (limit_at u w b)
    by true true (versions.Numbered v) (versions.Numbered w) a b = refl
    by true true (versions.Numbered v) (versions.Branch other) a b = refl
    by true true (versions.Branch name) w a b = refl
    by true false (versions.Numbered v) w a b = refl
    by true false (versions.Branch name) w a b = refl
    by false u v w a b = refl

-- ---- tighter limits that leave room

pub below_cases : (o : Ordering) (a b : Bool) → is_gt (ordering_then o (bool_cmp a b)) ≡ false → (o ≡ Less) ⊎ ((o ≡ Equal) × (b ≡ false → a ≡ false))
below_cases Less a b e = inl refl
below_cases Equal true true e = inr (refl, λ h. h)
below_cases Equal true false e = absurd cc
below_cases Equal false b e = inr (refl, λ h. refl)
below_cases Greater a b e = absurd cc

not_true : (b : Bool) → not b ≡ true → b ≡ false
not_true true e = absurd cc
not_true false e = refl

abbrev total : IsTotalOrder numbered_cmp
total = numbered_cmp_total

-- a, l, h, b: a is at most l, and h at most b
between : (a l h b : Numbered) (x_out l_out h_out y_out : Bool) (excluded : Numbered → Bool)
    → is_gt (ordering_then (numbered_cmp a l) (bool_cmp x_out l_out)) ≡ false → is_gt (ordering_then (numbered_cmp h b) (bool_cmp y_out h_out)) ≡ false
    → room_by (numbered_cmp l h) (not l_out && not h_out && not (excluded l)) ≡ true → room_by (numbered_cmp a b) (not x_out && not y_out && not (excluded a)) ≡ true
between a l h b x_out l_out h_out y_out excluded first second room = by (numbered_cmp l h) refl room (below_cases (numbered_cmp a l) x_out l_out first) (below_cases (numbered_cmp h b) y_out h_out second)
  where
    -- a is below h, and h at most b
    apart : numbered_cmp a h ≡ Less → (numbered_cmp h b ≡ Less) ⊎ ((numbered_cmp h b ≡ Equal) × (h_out ≡ false → y_out ≡ false)) → room_by (numbered_cmp a b) (not x_out && not y_out && not (excluded a)) ≡ true
    apart less (inl more) = rw (total.trans a h b less more) refl
    apart less (inr same) = rw (sym (alike_right total h b a same.0) ∙ less) refl

    by : (o : Ordering) → numbered_cmp l h ≡ o → room_by o (not l_out && not h_out && not (excluded l)) ≡ true → (numbered_cmp a l ≡ Less) ⊎ ((numbered_cmp a l ≡ Equal) × (l_out ≡ false → x_out ≡ false))
        → (numbered_cmp h b ≡ Less) ⊎ ((numbered_cmp h b ≡ Equal) × (h_out ≡ false → y_out ≡ false)) → room_by (numbered_cmp a b) (not x_out && not y_out && not (excluded a)) ≡ true
    by Less e r (inl less) high = apart (total.trans a l h less e) high
    by Less e r (inr same) high = apart (total.congr a l h same.0 ∙ e) high
    by Equal e r (inl less) high = apart (sym (alike_right total l h a e) ∙ less) high
    by Equal e r (inr same) (inl more) = rw (total.congr a l b same.0 ∙ total.congr l h b e ∙ more) refl
    by Equal e r (inr same) (inr alike) =
        let outs = both (not l_out && not h_out) (not (excluded l)) r in
        let two = both (not l_out) (not h_out) outs.0 in
        let x_in : x_out ≡ false = same.1 (not_true l_out two.0) in
        let y_in : y_out ≡ false = alike.1 (not_true h_out two.1) in
        let version : a ≡ l = numbered_cmp_exact a l same.0 in
        let kept : excluded a ≡ false = ap excluded version ∙ not_true (excluded l) outs.1 in
        rw (total.congr a l b same.0 ∙ total.congr l h b e ∙ alike.0, x_in, y_in, kept) refl
    by Greater e r low high = absurd cc

reached_room : (list : List Comparison) (x y : Limit) (low high : Option Limit) → room_at list low high ≡ true → IsReached sides.Lower x low → IsReached sides.Upper y high → room_at list (Some x) (Some y) ≡ true
reached_room list x y None high room first second = absurd first
reached_room list x y (Some low) None room first second = absurd second
reached_room list x y (Some low) (Some high) room first second =
    between x.version low.version high.version y.version x.exclusive low.exclusive high.exclusive y.exclusive (λ v. list_any (excludes (versions.Numbered v)) list) first second room

-- ---- all pairs

abbrev pub all_leave_room : List Comparison → Bool
all_leave_room list = list_all (λ low. list_all (leave_room list low) list) list

pub pairs_are_ends : (list : List Comparison) → all_leave_room list ≡ room_at list (tightest_of sides.Lower None list) (tightest_of sides.Upper None list)
pairs_are_ends list = both_ways (all_leave_room list) (room_at list (tightest_of sides.Lower None list) (tightest_of sides.Upper None list)) forward backward
  where
    ends : (low high : Option Limit) → IsFrom sides.Lower list low → IsFrom sides.Upper list high → all_leave_room list ≡ true → room_at list low high ≡ true
    ends None high first second all = refl
    ends (Some low) None first second all = refl
    ends (Some low) (Some high) first second all =
        let pair = all_at (leave_room list first.0) list second.0 (all_at (λ c. list_all (leave_room list c) list) list first.0 all first.1) second.1 in
        rw (room_is list first.0 second.0, first.2, second.2) at pair

    forward : all_leave_room list ≡ true → room_at list (tightest_of sides.Lower None list) (tightest_of sides.Upper None list) ≡ true
    forward all = ends (tightest_of sides.Lower None list) (tightest_of sides.Upper None list) (from_all sides.Lower list None list (λ c is. is) tt) (from_all sides.Upper list None list (λ c is. is) tt) all

    pair : room_at list (tightest_of sides.Lower None list) (tightest_of sides.Upper None list) ≡ true → (low high : Comparison) → IsIn low list → IsIn high list → (first second : Option Limit)
        → limit_in sides.Lower low ≡ first → limit_in sides.Upper high ≡ second → room_at list first second ≡ true
    pair room low high is also None second e f = refl
    pair room low high is also (Some x) None e f = refl
    pair room low high is also (Some x) (Some y) e f =
        reached_room list x y (tightest_of sides.Lower None list) (tightest_of sides.Upper None list) room (reached_in sides.Lower x low None list is e) (reached_in sides.Upper y high None list also f)

    backward : room_at list (tightest_of sides.Lower None list) (tightest_of sides.Upper None list) ≡ true → all_leave_room list ≡ true
    backward room = all_from (λ low. list_all (leave_room list low) list) list (λ low is. all_from (leave_room list low) list (λ high also.
        room_is list low high ∙ pair room low high is also (limit_in sides.Lower low) (limit_in sides.Upper high) refl refl))
