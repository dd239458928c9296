-- Paths between a path and one that begins with it begin with it too, so two look-ups tell whether a path is apart
-- from those of a set.
use Rattle.std.proofs.Common.{◌≡◌, ℕ, Bool, true, false, List, [], ◌∷◌, ◌++◌, refl, sym, ap, ◌∙◌, subst, inl, inr}
use Rattle.std.specs.Prelude.{◌↔◌, IsTrue, not}
use Rattle.std.specs.BTreeMap.Range.{IsLeBy}
use Rattle.std.specs.BTreeSet.{BTreeSet, contains}
use Rattle.std.specs.Ordering.{is_lt, is_gt, ordering_reverse, ordering_then}
use Rattle.std.specs.declared.cmp.Ordering.{Ordering}
use Rattle.std.specs.declared.cmp.Ordering.TheVariants.{Less, Equal, Greater}
use Rattle.path_name.specs.Orders.{byte_cmp, byte_cmp_exact, byte_cmp_total, path_cmp, path_cmp_total}
use Rattle.path_name.specs.Paths.{BeginsWith}
use Rattle.install_world.specs.Targets.{AreApart}
use Rattle.install_world.specs.Reading.{Has, AreAllApart}

byte_same : (a : List ℕ) → (order : Ordering) → byte_cmp a a ≡ order → order ≡ Equal
byte_same a Equal e = refl
byte_same a Less e = let other = sym (byte_cmp_total.antisymm a a ∙ ap ordering_reverse e) ∙ e in absurd (cc other)
byte_same a Greater e = let other = sym (byte_cmp_total.antisymm a a ∙ ap ordering_reverse e) ∙ e in absurd (cc other)

byte_equal : (a : List ℕ) → byte_cmp a a ≡ Equal
byte_equal a = byte_same a (byte_cmp a a) refl

-- a prefix stands first
pub prefix_first : (front rest : List (List ℕ)) → IsLeBy path_cmp front (front ++ rest)
prefix_first [] [] = refl
prefix_first [] (x ∷ xs) = refl
prefix_first (a ∷ front) rest = ap (λ order. is_gt (ordering_then order (path_cmp front (front ++ rest)))) (byte_equal a) ∙ prefix_first front rest

begins_by : (a b : List ℕ) (front path rest : List (List ℕ)) (order : Ordering) → byte_cmp a b ≡ order
    → is_gt (ordering_then order (path_cmp front path)) ≡ false
    → is_gt (ordering_then (ordering_reverse order) (path_cmp path (front ++ rest))) ≡ false
    → (IsLeBy path_cmp front path → IsLeBy path_cmp path (front ++ rest) → BeginsWith path front) → BeginsWith (b ∷ path) (a ∷ front)
begins_by a b front path rest Less e low high more = absurd (cc high)
begins_by a b front path rest Equal e low high more =
    let begins = more low high in
    (begins.0, ap (λ first. first ∷ path) (sym (byte_cmp_exact a b e)) ∙ ap (λ tail. a ∷ tail) begins.1)
begins_by a b front path rest Greater e low high more = absurd (cc low)

-- what stands between a path and one that begins with it begins with it
pub begins_between : (front path rest : List (List ℕ)) → IsLeBy path_cmp front path → IsLeBy path_cmp path (front ++ rest) → BeginsWith path front
begins_between [] path rest low high = (path, refl)
begins_between (a ∷ front) [] rest low high = absurd (cc low)
begins_between (a ∷ front) (b ∷ path) rest low high =
    begins_by a b front path rest (byte_cmp a b) refl low
    (subst (λ order. is_gt (ordering_then order (path_cmp path (front ++ rest))) ≡ false) (byte_cmp_total.antisymm b a) high)
    (begins_between front path rest)

not_greater : (order : Ordering) → is_lt order ≡ false → is_gt (ordering_reverse order) ≡ false
not_greater Less e = absurd (cc e)
not_greater Equal e = refl
not_greater Greater e = refl

-- where the first does not stand before the second, the second does not stand behind the first
pub up_to : (first second : List (List ℕ)) → is_lt (path_cmp first second) ≡ false → IsLeBy path_cmp second first
up_to first second e = subst (λ order. is_gt order ≡ false) (sym (path_cmp_total.antisymm second first)) (not_greater (path_cmp first second) e)

not_both : (b : Bool) → b ≡ false → b ≡ true → ⊥
not_both true e f = cc e
not_both false e f = cc f

is_not : (b : Bool) → (b ≡ true → ⊥) → not b ≡ true
is_not true h = absurd (h refl)
is_not false h = refl

was_not : (b : Bool) → not b ≡ true → b ≡ true → ⊥
was_not true e f = cc e
was_not false e f = cc f

-- ---- paths that a path begins with

abbrev pub BelowNone : BTreeSet (List (List ℕ)) → List (List ℕ) → Type 0
BelowNone paths path = (other : List (List ℕ)) → Has paths other → BeginsWith path other → ⊥

pub below_none : (paths : BTreeSet (List (List ℕ))) (path : List (List ℕ))
    → ((other : List (List ℕ)) → IsLeBy path_cmp other path → contains path_cmp paths other ≡ false) → BelowNone paths path
below_none paths path none other has begins =
    not_both (contains path_cmp paths other) (none other (subst (IsLeBy path_cmp other) (sym begins.1) (prefix_first other begins.0))) has

below_none_else : (paths : BTreeSet (List (List ℕ))) (path last : List (List ℕ)) → AreAllApart paths → Has paths last → IsLeBy path_cmp last path
    → ((other : List (List ℕ)) → IsLeBy path_cmp other path → Has paths other → is_lt (path_cmp last other) ≡ false)
    → (BeginsWith path last → ⊥) → BelowNone paths path
below_none_else paths path last apart has low greatest not_last other is_there begins =
    let before = subst (IsLeBy path_cmp other) (sym begins.1) (prefix_first other begins.0) in
    elim (apart other last is_there has) [
      | inl same ↦ not_last (subst (BeginsWith path) same begins)
      | inr two ↦ two.not_above (begins_between other last begins.0 (up_to last other (greatest other before is_there)) (subst (IsLeBy path_cmp last) begins.1 low))
    ]

pub below_none_by_last : (paths : BTreeSet (List (List ℕ))) (path last : List (List ℕ)) (starts : Bool) → AreAllApart paths → Has paths last
    → IsLeBy path_cmp last path
    → ((other : List (List ℕ)) → IsLeBy path_cmp other path → Has paths other → is_lt (path_cmp last other) ≡ false)
    → (IsTrue starts ↔ BeginsWith path last) → (IsTrue (not starts) ↔ BelowNone paths path)
below_none_by_last paths path last starts apart has low greatest is = (
  λ e. below_none_else paths path last apart has low greatest (λ begins. was_not starts e (is.1 begins)),
  λ none. is_not starts (λ e. none last has (is.0 e)),
)

-- ---- paths that begin with a path

abbrev pub AboveNone : BTreeSet (List (List ℕ)) → List (List ℕ) → Type 0
AboveNone paths path = (other : List (List ℕ)) → Has paths other → BeginsWith other path → ⊥

pub above_none : (paths : BTreeSet (List (List ℕ))) (path : List (List ℕ))
    → ((other : List (List ℕ)) → IsLeBy path_cmp path other → contains path_cmp paths other ≡ false) → AboveNone paths path
above_none paths path none other has begins =
    not_both (contains path_cmp paths other) (none other (subst (IsLeBy path_cmp path) (sym begins.1) (prefix_first path begins.0))) has

above_none_else : (paths : BTreeSet (List (List ℕ))) (path first : List (List ℕ)) → Has paths first → IsLeBy path_cmp path first
    → ((other : List (List ℕ)) → IsLeBy path_cmp path other → Has paths other → IsLeBy path_cmp first other)
    → (BeginsWith first path → ⊥) → AboveNone paths path
above_none_else paths path first has high least not_first other is_there begins =
    let behind = subst (IsLeBy path_cmp path) (sym begins.1) (prefix_first path begins.0) in
    not_first (begins_between path first begins.0 high (subst (IsLeBy path_cmp first) begins.1 (least other behind is_there)))

pub above_none_by_first : (paths : BTreeSet (List (List ℕ))) (path first : List (List ℕ)) (starts : Bool) → Has paths first
    → IsLeBy path_cmp path first
    → ((other : List (List ℕ)) → IsLeBy path_cmp path other → Has paths other → IsLeBy path_cmp first other)
    → (IsTrue starts ↔ BeginsWith first path) → (IsTrue (not starts) ↔ AboveNone paths path)
above_none_by_first paths path first starts has high least is = (
  λ e. above_none_else paths path first has high least (λ begins. was_not starts e (is.1 begins)),
  λ none. is_not starts (λ e. none first has (is.0 e)),
)

-- ---- both

pub apart_from_all : (paths : BTreeSet (List (List ℕ))) (path : List (List ℕ)) → BelowNone paths path → AboveNone paths path
    → (other : List (List ℕ)) → Has paths other → AreApart other path
apart_from_all paths path below above other has = record { not_below = above other has; not_above = below other has }
