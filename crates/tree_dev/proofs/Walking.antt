-- All entries at and below a path, one after another.
use Rattle.std.proofs.Common.{◌≡◌, ℕ, ◌<◌, ◌≤◌, Bool, true, false, ◌||◌, not, cond, List, [], ◌∷◌, ◌++◌, length, refl, sym, ap, ◌∙◌, inl, inr, ◌⊎◌, arith, append-nil, subst}
use Rattle.std.specs.List.{filter, list_all, list_any}
use Rattle.std.proofs.lemmas.List.Folds.{list_any-append}
use Rattle.std.specs.Cmp.{tied_itself, upto}
use Rattle.std.specs.Ordering.{is_eq, is_gt, is_lt, ordering_then}
use Rattle.std.specs.FinMap.{contains_key, contains_key-keys, keys}
use Rattle.std.specs.declared.cmp.Ordering.{Ordering}
use Rattle.std.specs.declared.cmp.Ordering.TheVariants.{Less, Equal, Greater}
use Rattle.path_name.specs.Orders.{byte_cmp, path_cmp, path_cmp_total}
use Rattle.path_name.specs.Paths.{BeginsWith, is_segment}
use Rattle.tree_dev.specs.Told.{both, one_of}
use Rattle.tree_dev.specs.Trees.{FileTree, IsTree}
use Rattle.tree_dev.specs.Listing.{IsFirstFrom}
use Rattle.tree_dev.specs.Moves.{AddsEntry, AreAll, Carries, is_among}
use Rattle.tree_dev.specs.declared.moves.Placed.{Placed}
use Rattle.tree_dev.proofs.Carried.{carries-snoc}
use Rattle.tree_dev.proofs.NameOrder.{after_bound, between, same_head}
use Rattle.tree_dev.proofs.NextNames.{parts_of_segment}
use Rattle.tree_dev.proofs.SamePaths.{is_same, same_path, is_same_path}

abbrev pub least_child : List (List ℕ) → List (List ℕ)
least_child path = path ++ (1 ∷ []) ∷ []

nonempty : (y : List ℕ) → is_segment y ≡ true → is_lt (byte_cmp [] y) ≡ true
nonempty [] e = absurd (let h = (parts_of_segment [] e).here in cc)
nonempty (b ∷ bs) e = refl

nothing_first : (ys : List (List ℕ)) → is_gt (path_cmp [] ys) ≡ false
nothing_first [] = refl
nothing_first (y ∷ ys) = refl

not_false : (b : Bool) → not b ≡ true → b ≡ false
not_false true e = absurd cc
not_false false e = refl

-- the least path below a path stands before exactly what stands behind the path
pub child_bound : (p q : List (List ℕ)) → list_all is_segment q ≡ true → is_gt (path_cmp (least_child p) q) ≡ not (is_lt (path_cmp p q))
child_bound [] [] e = refl
child_bound [] (y ∷ ys) e =
    let parts = both (is_segment y) (list_all is_segment ys) e in
    let nul = (parts_of_segment y parts.0).nul in
    let le : is_gt (byte_cmp (1 ∷ []) y) ≡ false = not_false _ (after_bound [] y nul ∙ nonempty y parts.0) in
    step (byte_cmp (1 ∷ []) y) le
  where
    step : (o : Ordering) → is_gt o ≡ false → is_gt (ordering_then o (path_cmp [] ys)) ≡ false
    step Less h = refl
    step Equal h = nothing_first ys
    step Greater h = absurd cc
child_bound (x ∷ xs) [] e = refl
child_bound (x ∷ xs) (y ∷ ys) e = step (byte_cmp x y) (child_bound xs ys (both (is_segment y) (list_all is_segment ys) e).1)
  where
    step : (o : Ordering) → is_gt (path_cmp (least_child xs) ys) ≡ not (is_lt (path_cmp xs ys)) → is_gt (ordering_then o (path_cmp (least_child xs) ys)) ≡ not (is_lt (ordering_then o (path_cmp xs ys)))
    step Less more = refl
    step Equal more = more
    step Greater more = refl

before_child : (p : List (List ℕ)) → is_gt (path_cmp p (least_child p)) ≡ false
before_child p = ap (λ q. is_gt (path_cmp q (least_child p))) (sym (append-nil p)) ∙ ap is_gt (same_head p [] ((1 ∷ []) ∷ []))

same_order : (o : Ordering) → not (is_lt o) ≡ true → is_gt o ≡ false → is_eq o ≡ true
same_order Less e h = absurd cc
same_order Equal e h = refl
same_order Greater e h = absurd cc

-- fewer pass a test that is stronger and that one of them fails
fewer : (p stronger : List (List ℕ) → Bool) (paths : List (List (List ℕ))) → ((q : List (List ℕ)) → stronger q ≡ true → p q ≡ true) → length (filter stronger paths) ≤ length (filter p paths)
fewer p stronger [] weaker = omega arith
fewer p stronger (q ∷ paths) weaker = step (stronger q) (p q) refl refl (fewer p stronger paths weaker)
  where
    step : (a b : Bool) → stronger q ≡ a → p q ≡ b → length (filter stronger paths) ≤ length (filter p paths) → length (cond a (q ∷ filter stronger paths) (filter stronger paths)) ≤ length (cond b (q ∷ filter p paths) (filter p paths))
    step true true e h more = omega (arith, more)
    step true false e h more = absurd (let w = weaker q e in cc)
    step false true e h more = omega (arith, more)
    step false false e h more = more

one_fewer : (p stronger : List (List ℕ) → Bool) (paths : List (List (List ℕ))) (x : List (List ℕ)) → ((q : List (List ℕ)) → stronger q ≡ true → p q ≡ true) → list_any (is_same x) paths ≡ true
    → p x ≡ true → stronger x ≡ false → length (filter stronger paths) < length (filter p paths)
one_fewer p stronger [] x weaker among passes fails = absurd cc
one_fewer p stronger (q ∷ paths) x weaker among passes fails =
    step (stronger q) (p q) refl refl (one_of (is_same x q) (list_any (is_same x) paths) among) (λ rest. one_fewer p stronger paths x weaker rest passes fails) (fewer p stronger paths weaker)
  where
    step : (a b : Bool) → stronger q ≡ a → p q ≡ b → (is_same x q ≡ true) ⊎ (list_any (is_same x) paths ≡ true) → (list_any (is_same x) paths ≡ true → length (filter stronger paths) < length (filter p paths))
        → length (filter stronger paths) ≤ length (filter p paths)
        → length (cond a (q ∷ filter stronger paths) (filter stronger paths)) < length (cond b (q ∷ filter p paths) (filter p paths))
    step true b e h (inl same) more le = absurd (let f = ap stronger (same_path x q same) in cc)
    step false true e h (inl same) more le = omega (arith, le)
    step false false e h (inl same) more le = absurd (let f = ap p (same_path x q same) in cc)
    step true true e h (inr rest) more le = let lt = more rest in omega (arith, lt)
    step true false e h (inr rest) more le = absurd (let w = weaker q e in cc)
    step false true e h (inr rest) more le = omega (arith, le)
    step false false e h (inr rest) more le = more rest

-- how many entries are left from a path on
abbrev pub left_from : FileTree → List (List ℕ) → ℕ
left_from t at = length (filter (λ q. not (is_gt (path_cmp at q))) (keys t))

not_gt : (b : Bool) → b ≡ false → not b ≡ true
not_gt true e = absurd cc
not_gt false e = refl

-- all that stands at and below from and before a path
abbrev pub AreBefore : FileTree → List (List ℕ) → List (List ℕ) → List (List (List ℕ)) → Type 0
AreBefore t from at paths = (rest : List (List ℕ)) → contains_key t (from ++ rest) ≡ true → is_gt (path_cmp at (from ++ rest)) ≡ true → is_among (from ++ rest) paths ≡ true

module _ (t : FileTree) (tree : IsTree t) (from to : List (List ℕ)) where
  pub fewer_left : (at first : List (List ℕ)) → IsFirstFrom t at first → left_from t (least_child first) < left_from t at
  fewer_left at first is =
      one_fewer (λ q. not (is_gt (path_cmp at q))) (λ q. not (is_gt (path_cmp (least_child first) q))) (keys t) first
      (λ q passes. not_gt _ (upto path_cmp_total at (least_child first) q (upto path_cmp_total at first (least_child first) is.after (before_child first)) (not_false _ passes)))
      (sym (contains_key-keys t first) ∙ is.has)
      (not_gt _ is.after)
      (ap not (child_bound first first (tree.paths first is.has) ∙ ap (λ o. not (is_lt o)) (tied_itself path_cmp_total first)))

  case_of : (at : List (List ℕ)) (paths : List (List (List ℕ))) (rest : List (List ℕ)) (b : Bool) → is_gt (path_cmp at (from ++ rest)) ≡ b → AreBefore t from at paths → contains_key t (from ++ rest) ≡ true
      → (is_gt (path_cmp at (from ++ rest)) ≡ false → is_among (from ++ rest) paths ≡ true) → is_among (from ++ rest) paths ≡ true
  case_of at paths rest true e before has behind_at = before rest has e
  case_of at paths rest false e before has behind_at = behind_at e

  any_true : (b : Bool) → (b || true) ≡ true
  any_true true = refl
  any_true false = refl

  among_more : (q p : List (List ℕ)) (paths : List (List (List ℕ))) → is_among q paths ≡ true → is_among q (paths ++ p ∷ []) ≡ true
  among_more q p paths e = list_any-append (is_same q) paths (p ∷ []) ∙ rw e refl

  among_last : (q p : List (List ℕ)) (paths : List (List (List ℕ))) → is_same q p ≡ true → is_among q (paths ++ p ∷ []) ≡ true
  among_last q p paths e = list_any-append (is_same q) paths (p ∷ []) ∙ rw e (any_true (is_among q paths))

  pub before_next : (at first : List (List ℕ)) (paths : List (List (List ℕ))) → IsFirstFrom t at first → AreBefore t from at paths → AreBefore t from (least_child first) (paths ++ first ∷ [])
  before_next at first paths is before rest has less = step (is_gt (path_cmp at (from ++ rest))) refl
    where
      step : (b : Bool) → is_gt (path_cmp at (from ++ rest)) ≡ b → is_among (from ++ rest) (paths ++ first ∷ []) ≡ true
      step true e = among_more (from ++ rest) first paths (before rest has e)
      step false e =
          let not_less = sym (child_bound first (from ++ rest) (tree.paths (from ++ rest) has)) ∙ less in
          let same = same_order (path_cmp first (from ++ rest)) not_less (is.least (from ++ rest) e has) in
          among_last (from ++ rest) first paths (is_same_path (from ++ rest) first (sym (same_path first (from ++ rest) same)))

  pub low_next : (at first : List (List ℕ)) → IsFirstFrom t at first → is_gt (path_cmp from at) ≡ false → is_gt (path_cmp from (least_child first)) ≡ false
  low_next at first is low = upto path_cmp_total from first (least_child first) (upto path_cmp_total from at first low is.after) (before_child first)

  pub all_passed : (at first : List (List ℕ)) (paths : List (List (List ℕ))) → IsFirstFrom t at first → is_gt (path_cmp from at) ≡ false → (BeginsWith first from → ⊥) → AreBefore t from at paths → AreAll t from paths
  all_passed at first paths is low apart before rest has =
      case_of at paths rest (is_gt (path_cmp at (from ++ rest))) refl before has (λ le.
      let high = is.least (from ++ rest) le has in
      let start = ap (λ p. is_gt (path_cmp p first)) (append-nil from) ∙ upto path_cmp_total from at first low is.after in
      absurd (apart (between from [] rest first start high)))

  pub none_before : AreBefore t from from []
  none_before rest has less =
      absurd (let h = ap (λ p. is_gt (path_cmp p (from ++ rest))) (append-nil from) ∙ less in
      let g = ap is_gt (same_head from [] rest) ∙ nothing_first rest in let e : true ≡ false = sym h ∙ g in cc)

  pub carries_next : (old : List (List (List ℕ))) (new arrived : List Placed) (first target : List (List ℕ)) (rest : List (List ℕ)) → Carries t from to old new
      → first ≡ from ++ rest → target ≡ to ++ rest → AddsEntry t first target new arrived → Carries t from to (old ++ first ∷ []) arrived
  carries_next old new arrived first target rest all here there adds =
      subst (Carries t from to (old ++ first ∷ [])) (sym adds.items) (carries-snoc t from to old new first adds.placed all (rest, here, adds.at ∙ there, adds.entry, tt))
