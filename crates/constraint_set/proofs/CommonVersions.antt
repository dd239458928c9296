-- Openness and satisfaction: a version at which all comparisons hold opens their list, and one that stands under `==`
-- satisfies each list that it opens.
use Rattle.std.proofs.Common.{◌≡◌, Bool, true, false, List, [], ◌∷◌, ◌++◌, ◌⊎◌, inl, inr, refl, sym, ap, ◌∙◌}
use Rattle.std.specs.Prelude.{not, ◌&&◌, ◌||◌}
use Rattle.std.specs.List.{list_all, list_any}
use Rattle.std.specs.Cmp.{both_ways}
use Rattle.std.specs.Ordering.{is_lt, is_le, is_gt, is_ge, is_eq, ordering_reverse}
use Rattle.std.specs.declared.cmp.Ordering.{Ordering}
use Rattle.std.specs.declared.cmp.Ordering.TheVariants.{Less, Equal, Greater}
use Rattle.std.proofs.lemmas.Cmp.{tied_itself}
use Rattle.std.proofs.lemmas.List.Folds.{list_all-append}
use Rattle.path_name.specs.Orders.{byte_equality}
use Rattle.version_norm.specs.declared.version.Numbered.{Numbered}
use Rattle.version_norm.specs.declared.version.Version.{Version}
use Rattle.version_norm.specs.declared.version.Version.TheVariants as versions
use Rattle.version_norm.specs.VersionOrder.{numbered_cmp}
use Rattle.version_norm.proofs.OrderLaws.{numbered_cmp_total, numbered_cmp_exact}
use Rattle.constraint_set.specs.declared.constraint.Operator.{Operator}
use Rattle.constraint_set.specs.declared.constraint.Operator.TheVariants as operators
use Rattle.constraint_set.specs.declared.constraint.Comparison.{Comparison}
use Rattle.constraint_set.specs.declared.constraint.Constraint.{Constraint}
use Rattle.constraint_set.specs.Parts.{is_equal}
use Rattle.constraint_set.specs.Satisfaction.{is_admitted, holds_at, all_hold_at, satisfies}
use Rattle.constraint_set.specs.Overlap.{is_branch, is_ordering, is_lower, is_upper, is_exclusive, is_not_equal, names_branch, orders_branch, bounds_numbers, excludes, room_by, room_between, leave_room, agree, is_open_interval, is_open_branch, is_open, exactly, overlaps}
use Rattle.constraint_set.proofs.Members.{both, IsIn, all_at, all_from, none_from, none_at}
use Rattle.constraint_set.proofs.Openness.{branch_opens, any_named}
use Rattle.constraint_set.proofs.Limits.{all_leave_room}

pub turned : (v w : Numbered) → numbered_cmp v w ≡ ordering_reverse (numbered_cmp w v)
turned v w = numbered_cmp_total.antisymm v w

same_itself : (v : Numbered) → numbered_cmp v v ≡ Equal
same_itself v = tied_itself numbered_cmp_total v

-- ---- a version that satisfies a list opens it

-- what holds at a numbered version orders no branch, and names none
no_ordered : (v : Version) (operator : Operator) (w : Version) → is_admitted operator v w ≡ true → (is_ordering operator && is_branch w) ≡ false
no_ordered v operators.Less (versions.Numbered w) e = refl
no_ordered v operators.LessOrEqual (versions.Numbered w) e = refl
no_ordered v operators.Greater (versions.Numbered w) e = refl
no_ordered v operators.GreaterOrEqual (versions.Numbered w) e = refl
no_ordered v operators.Equal w e = refl
no_ordered v operators.NotEqual w e = refl
no_ordered (versions.Numbered v) operators.Less (versions.Branch other) e = absurd cc
no_ordered (versions.Numbered v) operators.LessOrEqual (versions.Branch other) e = absurd cc
no_ordered (versions.Numbered v) operators.Greater (versions.Branch other) e = absurd cc
no_ordered (versions.Numbered v) operators.GreaterOrEqual (versions.Branch other) e = absurd cc
no_ordered (versions.Branch name) operators.Less (versions.Branch other) e = absurd cc
no_ordered (versions.Branch name) operators.LessOrEqual (versions.Branch other) e = absurd cc
no_ordered (versions.Branch name) operators.Greater (versions.Branch other) e = absurd cc
no_ordered (versions.Branch name) operators.GreaterOrEqual (versions.Branch other) e = absurd cc

no_name : (v : Numbered) (operator : Operator) (w : Version) → is_admitted operator (versions.Numbered v) w ≡ true → (is_equal operator && is_branch w) ≡ false
no_name v operators.Less w e = refl
no_name v operators.LessOrEqual w e = refl
no_name v operators.Greater w e = refl
no_name v operators.GreaterOrEqual w e = refl
no_name v operators.Equal (versions.Numbered w) e = refl
no_name v operators.Equal (versions.Branch other) e = absurd cc
no_name v operators.NotEqual w e = refl

-- a lower end that admits a version: it stands below it, or it is the version and takes it
abbrev Below : Numbered → Numbered → Bool → Type 0
Below l v exclusive = (numbered_cmp l v ≡ Less) ⊎ ((l ≡ v) × (exclusive ≡ false))

low_below : (v l : Numbered) (operator : Operator) → is_lower operator ≡ true → is_admitted operator (versions.Numbered v) (versions.Numbered l) ≡ true → Below l v (is_exclusive operator)
low_below v l operators.Less low e = absurd cc
low_below v l operators.LessOrEqual low e = absurd cc
low_below v l operators.NotEqual low e = absurd cc
low_below v l operators.Greater low e = by (numbered_cmp v l) refl e
  where
    by : (o : Ordering) → numbered_cmp v l ≡ o → is_gt o ≡ true → Below l v true
    by Less o h = absurd cc
    by Equal o h = absurd cc
    by Greater o h = inl (turned l v ∙ ap ordering_reverse o)
low_below v l operators.GreaterOrEqual low e = by (numbered_cmp v l) refl e
  where
    by : (o : Ordering) → numbered_cmp v l ≡ o → is_ge o ≡ true → Below l v false
    by Less o h = absurd cc
    by Equal o h = inr (sym (numbered_cmp_exact v l o), refl)
    by Greater o h = inl (turned l v ∙ ap ordering_reverse o)
low_below v l operators.Equal low e = by (numbered_cmp v l) refl e
  where
    by : (o : Ordering) → numbered_cmp v l ≡ o → is_eq o ≡ true → Below l v false
    by Less o h = absurd cc
    by Equal o h = inr (sym (numbered_cmp_exact v l o), refl)
    by Greater o h = absurd cc

high_above : (v h : Numbered) (operator : Operator) → is_upper operator ≡ true → is_admitted operator (versions.Numbered v) (versions.Numbered h) ≡ true → (numbered_cmp v h ≡ Less) ⊎ ((h ≡ v) × (is_exclusive operator ≡ false))
high_above v h operators.Greater high e = absurd cc
high_above v h operators.GreaterOrEqual high e = absurd cc
high_above v h operators.NotEqual high e = absurd cc
high_above v h operators.Less high e = by (numbered_cmp v h) refl e
  where
    by : (o : Ordering) → numbered_cmp v h ≡ o → is_lt o ≡ true → (numbered_cmp v h ≡ Less) ⊎ ((h ≡ v) × (true ≡ false))
    by Less o g = inl o
    by Equal o g = absurd cc
    by Greater o g = absurd cc
high_above v h operators.LessOrEqual high e = by (numbered_cmp v h) refl e
  where
    by : (o : Ordering) → numbered_cmp v h ≡ o → is_le o ≡ true → (numbered_cmp v h ≡ Less) ⊎ ((h ≡ v) × (false ≡ false))
    by Less o g = inl o
    by Equal o g = inr (sym (numbered_cmp_exact v h o), refl)
    by Greater o g = absurd cc
high_above v h operators.Equal high e = by (numbered_cmp v h) refl e
  where
    by : (o : Ordering) → numbered_cmp v h ≡ o → is_eq o ≡ true → (numbered_cmp v h ≡ Less) ⊎ ((h ≡ v) × (false ≡ false))
    by Less o g = absurd cc
    by Equal o g = inr (sym (numbered_cmp_exact v h o), refl)
    by Greater o g = absurd cc

-- ends that both admit one version leave room, where none is excluded
room_around : (v l h : Numbered) (low_out high_out excluded : Bool) → Below l v low_out → (numbered_cmp v h ≡ Less) ⊎ ((h ≡ v) × (high_out ≡ false)) → (l ≡ v → excluded ≡ false)
    → room_by (numbered_cmp l h) (not low_out && not high_out && not excluded) ≡ true
room_around v l h low_out high_out excluded (inl less) (inl more) kept = rw (numbered_cmp_total.trans l v h less more) refl
room_around v l h low_out high_out excluded (inl less) (inr same) kept = let below : numbered_cmp l h ≡ Less = rw same.0 less in rw below refl
room_around v l h low_out high_out excluded (inr same) (inl more) kept = let below : numbered_cmp l h ≡ Less = rw same.0 more in rw below refl
room_around v l h low_out high_out excluded (inr same) (inr alike) kept =
    let equal : numbered_cmp l h ≡ Equal = rw (same.0, alike.0) (same_itself v) in
    rw (equal, same.1, alike.1, kept same.0) refl

-- no comparison that holds at a version excludes it
not_excluded : (list : List Comparison) (v : Version) → all_hold_at v list ≡ true → list_any (excludes v) list ≡ false
not_excluded list v all = none_from (excludes v) list (λ c is. rw (all_at (holds_at v) list c all is) (elim (is_not_equal c.operator) as (λ t. (t && false) ≡ false) [ true ↦ refl | false ↦ refl ]))

pair_room : (list : List Comparison) (v : Numbered) (low high : Comparison) → all_hold_at (versions.Numbered v) list ≡ true → IsIn low list → IsIn high list → leave_room list low high ≡ true
pair_room list v low high all is also =
    by low.operator low.version high.operator high.version (all_at (holds_at (versions.Numbered v)) list low all is) (all_at (holds_at (versions.Numbered v)) list high all also)
  where
    kept : (l : Numbered) → l ≡ v → list_any (excludes (versions.Numbered l)) list ≡ false
    kept l same = rw same (not_excluded list (versions.Numbered v) all)

    by : (op : Operator) (l : Version) (oq : Operator) (h : Version) → is_admitted op (versions.Numbered v) l ≡ true → is_admitted oq (versions.Numbered v) h ≡ true
        → (not (is_lower op && is_upper oq) || room_between l h (not (is_exclusive op) && not (is_exclusive oq) && not (list_any (excludes l) list))) ≡ true
    by op (versions.Branch name) oq h e f = elim (is_lower op && is_upper oq) as (λ t. (not t || true) ≡ true) [ true ↦ refl | false ↦ refl ]
    by op (versions.Numbered l) oq (versions.Branch other) e f = elim (is_lower op && is_upper oq) as (λ t. (not t || true) ≡ true) [ true ↦ refl | false ↦ refl ]
    by op (versions.Numbered l) oq (versions.Numbered h) e f =
        elim (is_lower op && is_upper oq) as (λ t. (is_lower op && is_upper oq) ≡ t → (not t || room_by (numbered_cmp l h) (not (is_exclusive op) && not (is_exclusive oq) && not (list_any (excludes (versions.Numbered l)) list))) ≡ true) [
          | true ↦ λ ends.
              let two = both (is_lower op) (is_upper oq) ends in
              room_around v l h (is_exclusive op) (is_exclusive oq) (list_any (excludes (versions.Numbered l)) list) (low_below v l op two.0 e) (high_above v h oq two.1 f) (kept l)
          | false ↦ λ ends. refl
        ] refl

or_true : (b : Bool) → (b || true) ≡ true
or_true true = refl
or_true false = refl

pub opened_by : (list : List Comparison) (v : Version) → all_hold_at v list ≡ true → is_open list ≡ true
opened_by list (versions.Branch name) all =
    let branch : Version = versions.Branch name in
    let ordered : list_any orders_branch list ≡ false = none_from orders_branch list (λ c is. no_ordered branch c.operator c.version (all_at (holds_at branch) list c all is)) in
    rw (ordered, branch_opens list branch refl all) (or_true (is_open_interval list))
opened_by list (versions.Numbered v) all =
    let version : Version = versions.Numbered v in
    let ordered : list_any orders_branch list ≡ false = none_from orders_branch list (λ c is. no_ordered version c.operator c.version (all_at (holds_at version) list c all is)) in
    let named : list_any names_branch list ≡ false = none_from names_branch list (λ c is. no_name v c.operator c.version (all_at (holds_at version) list c all is)) in
    let room : all_leave_room list ≡ true = all_from (λ low. list_all (leave_room list low) list) list (λ low is. all_from (leave_room list low) list (λ high also. pair_room list v low high all is also)) in
    rw (ordered, named, room) refl

-- ---- constraints that one version satisfies meet

some_satisfied : (lists : List (List Comparison)) (v : Version) → list_any (all_hold_at v) lists ≡ true → (list : List Comparison) × IsIn list lists × (all_hold_at v list ≡ true)
some_satisfied [] v e = absurd cc
some_satisfied (list ∷ lists) v e =
    elim (all_hold_at v list) as (λ t. all_hold_at v list ≡ t → (t || list_any (all_hold_at v) lists) ≡ true → (some : List Comparison) × IsIn some (list ∷ lists) × (all_hold_at v some ≡ true)) [
      | true ↦ λ is h. (list, inl refl, is)
      | false ↦ λ is h. let found = some_satisfied lists v h in (found.0, inr found.1, found.2)
    ] refl e

pub any_from : (p : List Comparison → Bool) (lists : List (List Comparison)) (list : List Comparison) → IsIn list lists → p list ≡ true → list_any p lists ≡ true
any_from p [] list is e = absurd is
any_from p (next ∷ rest) list (inl same) e = let first : p next ≡ true = ap p (sym same) ∙ e in rw first refl
any_from p (next ∷ rest) list (inr is) e = rw (any_from p rest list is e) (or_true (p next))

pub common_meets : (c d : Constraint) (v : Version) → satisfies c v ≡ true → satisfies d v ≡ true → overlaps c d ≡ true
unfolding satisfies overlaps
common_meets c d v e f =
    let first = some_satisfied c.alternatives v e in
    let second = some_satisfied d.alternatives v f in
    let holds : all_hold_at v (first.0 ++ second.0) ≡ true = list_all-append (holds_at v) first.0 second.0 ∙ (rw (first.2, second.2) refl) in
    any_from (λ one. list_any (λ other. is_open (one ++ other)) d.alternatives) c.alternatives first.0 first.1
    (any_from (λ other. is_open (first.0 ++ other)) d.alternatives second.0 second.1 (opened_by (first.0 ++ second.0) v holds))

-- ---- a list with `==` of a version that is open is satisfied by that version

not_false : (b : Bool) → not b ≡ true → b ≡ false
not_false true e = absurd cc
not_false false e = refl

not_not : (b : Bool) → not b ≡ false → b ≡ true
not_not true e = refl
not_not false e = absurd cc

-- what a comparison says of a numbered version that leaves room with it on both sides
admitted : (v : Numbered) (operator : Operator) (w : Version) (x y : Bool) → (is_ordering operator && is_branch w) ≡ false → (is_equal operator && is_branch w) ≡ false
    → (not (is_upper operator) || room_between (versions.Numbered v) w (not (is_exclusive operator) && x)) ≡ true → (not (is_lower operator && true) || room_between w (versions.Numbered v) (not (is_exclusive operator) && true && y)) ≡ true
    → (is_not_equal operator && not (is_admitted operator (versions.Numbered v) w)) ≡ false → is_admitted operator (versions.Numbered v) w ≡ true
admitted v operators.Less (versions.Branch other) x y ordered named up down kept = absurd cc
admitted v operators.LessOrEqual (versions.Branch other) x y ordered named up down kept = absurd cc
admitted v operators.Greater (versions.Branch other) x y ordered named up down kept = absurd cc
admitted v operators.GreaterOrEqual (versions.Branch other) x y ordered named up down kept = absurd cc
admitted v operators.Equal (versions.Branch other) x y ordered named up down kept = absurd cc
admitted v operators.NotEqual w x y ordered named up down kept = not_not (is_admitted operators.NotEqual (versions.Numbered v) w) kept
admitted v operators.Less (versions.Numbered w) x y ordered named up down kept = by (numbered_cmp v w) up
  where
    by : (o : Ordering) → room_by o false ≡ true → is_lt o ≡ true
    by Less e = refl
    by Equal e = absurd cc
    by Greater e = absurd cc
admitted v operators.LessOrEqual (versions.Numbered w) x y ordered named up down kept = by (numbered_cmp v w) up
  where
    by : (o : Ordering) → room_by o x ≡ true → is_le o ≡ true
    by Less e = refl
    by Equal e = refl
    by Greater e = absurd cc
admitted v operators.Greater (versions.Numbered w) x y ordered named up down kept = rw (turned v w) (by (numbered_cmp w v) down)
  where
    by : (o : Ordering) → room_by o false ≡ true → is_gt (ordering_reverse o) ≡ true
    by Less e = refl
    by Equal e = absurd cc
    by Greater e = absurd cc
admitted v operators.GreaterOrEqual (versions.Numbered w) x y ordered named up down kept = rw (turned v w) (by (numbered_cmp w v) down)
  where
    by : (o : Ordering) → room_by o y ≡ true → is_ge (ordering_reverse o) ≡ true
    by Less e = refl
    by Equal e = refl
    by Greater e = absurd cc
admitted v operators.Equal (versions.Numbered w) x y ordered named up down kept = rw (turned v w) (by (numbered_cmp w v) down (rw (turned v w) at up))
  where
    by : (o : Ordering) → room_by o y ≡ true → room_by (ordering_reverse o) x ≡ true → is_eq (ordering_reverse o) ≡ true
    by Less e f = absurd cc
    by Equal e f = refl
    by Greater e f = absurd cc

-- `==` of the version
abbrev exact_of : Version → Comparison
exact_of version = record { operator = operators.Equal; version = version }

bounded : (list : List Comparison) (v : Numbered) → IsIn (exact_of (versions.Numbered v)) list → list_any bounds_numbers list ≡ true
bounded [] v is = absurd is
bounded (next ∷ rest) v (inl same) = let first : bounds_numbers next ≡ true = ap bounds_numbers (sym same) in rw first refl
bounded (next ∷ rest) v (inr is) = rw (bounded rest v is) (or_true (bounds_numbers next))

satisfied_by_opened : (list : List Comparison) (v : Version) (c : Comparison) → IsIn (exact_of v) list → IsIn c list → is_open list ≡ true → holds_at v c ≡ true
satisfied_by_opened list (versions.Branch name) c is also e =
    let branch : Version = versions.Branch name in
    let named : list_any names_branch list ≡ true = any_named list (exact_of branch) is refl in
    let two = both (not (list_any orders_branch list)) (is_open_interval list || is_open_branch list) e in
    let pairs = (both (not (list_any bounds_numbers list)) (list_all (λ first. list_all (agree first) list) list) (rw named at two.1)).1 in
    all_at (agree (exact_of branch)) list c (all_at (λ first. list_all (agree first) list) list (exact_of branch) pairs is) also
satisfied_by_opened list (versions.Numbered v) c is also e =
    let version : Version = versions.Numbered v in
    let two = both (not (list_any orders_branch list)) (is_open_interval list || is_open_branch list) e in
    let ordered = none_at orders_branch list c (not_false (list_any orders_branch list) two.0) also in
    let interval = by (is_open_interval list) (rw (bounded list v is) at two.1) in
    let halves = both (not (list_any names_branch list)) (all_leave_room list) interval in
    let named = none_at names_branch list c (not_false (list_any names_branch list) halves.0) also in
    let room = λ (low high : Comparison) (first : IsIn low list) (second : IsIn high list). all_at (leave_room list low) list high (all_at (λ one. list_all (leave_room list one) list) list low halves.1 first) second in
    let up = room (exact_of version) c is also in
    let down = room c (exact_of version) also is in
    let own : room_by (numbered_cmp v v) (not (list_any (excludes version) list)) ≡ true = room (exact_of version) (exact_of version) is is in
    let kept = none_at (excludes version) list c (not_false (list_any (excludes version) list) (rw (same_itself v) at own)) also in
    admitted v c.operator c.version (not (list_any (excludes version) list)) (not (list_any (excludes c.version) list)) ordered named up down kept
  where
    by : (b : Bool) → (b || (false && list_all (λ first. list_all (agree first) list) list)) ≡ true → b ≡ true
    by true h = refl
    by false h = absurd cc

within : (list : List Comparison) (last c : Comparison) → IsIn c list → IsIn c (list ++ last ∷ [])
within [] last c is = absurd is
within (next ∷ rest) last c (inl same) = inl same
within (next ∷ rest) last c (inr is) = inr (within rest last c is)

at_end : (list : List Comparison) (last : Comparison) → IsIn last (list ++ last ∷ [])
at_end [] last = inl refl
at_end (next ∷ rest) last = inr (at_end rest last)

holds_itself : (v : Version) → holds_at v (exact_of v) ≡ true
holds_itself (versions.Numbered v) = rw (same_itself v) refl
holds_itself (versions.Branch name) = byte_equality.refl name

one_list : (list : List Comparison) (v : Version) → is_open (list ++ exact_of v ∷ []) ≡ all_hold_at v list
one_list list v = both_ways (is_open (list ++ exact_of v ∷ [])) (all_hold_at v list)
    (λ e. all_from (holds_at v) list (λ c is. satisfied_by_opened (list ++ exact_of v ∷ []) v c (at_end list (exact_of v)) (within list (exact_of v) c is) e))
    (λ all. opened_by (list ++ exact_of v ∷ []) v (list_all-append (holds_at v) list (exact_of v ∷ []) ∙ (rw (all, holds_itself v) refl)))

or_false : (b : Bool) → (b || false) ≡ b
or_false true = refl
or_false false = refl

same_any : (p q : List Comparison → Bool) (lists : List (List Comparison)) → ((list : List Comparison) → p list ≡ q list) → list_any p lists ≡ list_any q lists
same_any p q [] each = refl
same_any p q (list ∷ lists) each = rw (each list, same_any p q lists each) refl

pub exactly_meets : (c : Constraint) (v : Version) → overlaps c (exactly v) ≡ satisfies c v
unfolding satisfies overlaps
exactly_meets c v = same_any (λ first. list_any (λ second. is_open (first ++ second)) ((exact_of v ∷ []) ∷ [])) (all_hold_at v) c.alternatives (λ list. or_false (is_open (list ++ exact_of v ∷ [])) ∙ one_list list v)
