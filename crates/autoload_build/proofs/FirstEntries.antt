-- The first item of each key, in the order of keys.
use Rattle.std.proofs.Common.{◌≡◌, ℕ, Bool, true, false, ◌&&◌, cond, List, [], ◌∷◌, map, Option, Some, refl, sym, ap, subst, ◌∙◌}
use Rattle.std.specs.Prelude.{filter, T}
use Rattle.std.specs.Cmp.{IsTotalOrder}
use Rattle.std.specs.FinMap.{entries, from_entries, from_sorted, same_map, get-from_entries, get-from_sorted, entries-from_sorted}
use Rattle.std.specs.FinMap.Entries.{find, is_sorted, below_all}
use Rattle.std.specs.List.{AllByRecursion, dedup, dedup_from}
use Rattle.std.specs.List.Sorted.{IsSorted, IsStable, IsStrictlySortedBy}
use Rattle.std.specs.Ordering.{is_lt, eq_by_cmp}
use Rattle.std.specs.declared.cmp.Ordering.{Ordering}
use Rattle.std.specs.declared.cmp.Ordering.TheVariants.{Less}
use Rattle.std.proofs.lemmas.List.Kept.{IsStrictlySortedBy-dedup}
use Rattle.path_name.specs.Orders.{byte_cmp, byte_cmp_total, byte_cmp_exact, byte_ties, byte_equality, bytes_are_equal}
use Rattle.autoload_build.specs.Jobs.{each_once}
use Rattle.autoload_build.proofs.KeyGroups.{in_groups, each_ascends, groups_have, all_keys, sorted_in_groups, equal_bytes}

tied : (one other : List ℕ) → eq_by_cmp byte_cmp one other ≡ bytes_are_equal one other
tied one other = sym (byte_ties one other)

both : (a b : Bool) → T a → T b → T (a && b)
both true b p q = q
both false b p q = p

module _ {X V : Type 0} (key : X → List ℕ) (value : X → V) where
  abbrev pub entry_of : X → List ℕ × V
  entry_of x = (key x, value x)

  abbrev pub same_key : X → X → Bool
  same_key one other = bytes_are_equal (key one) (key other)

  abbrev pub by_key : X → X → Ordering
  by_key one other = byte_cmp (key one) (key other)

  by_key_total : IsTotalOrder by_key
  by_key_total = record {
    antisymm = λ x y. byte_cmp_total.antisymm (key x) (key y);
    trans = λ x y z p q. byte_cmp_total.trans (key x) (key y) (key z) p q;
    congr = λ x y z p. byte_cmp_total.congr (key x) (key y) (key z) p;
  }

  all_above : (x : X) (xs : List X) → AllByRecursion (λ y. by_key x y ≡ Less) xs → T (below_all byte_cmp (key x) (map entry_of xs))
  all_above x [] h = tt
  all_above x (y ∷ xs) h = both _ _ (subst (λ r. T (is_lt r)) (sym h.0) tt) (all_above x xs h.1)

  entries_rise : (xs : List X) → IsStrictlySortedBy by_key xs → T (is_sorted byte_cmp (map entry_of xs))
  unfolding IsStrictlySortedBy
  entries_rise [] h = tt
  entries_rise (x ∷ xs) h = both _ _ (all_above x xs h.0) (entries_rise xs h.1)

  found : List ℕ → List X → Option V
  found name xs = find byte_cmp name (map entry_of xs)

  found_kept : (name : List ℕ) (xs : List X) → found name (filter (λ x. bytes_are_equal (key x) name) xs) ≡ found name xs
  unfolding found
  found_kept name [] = refl
  found_kept name (x ∷ xs) = by (bytes_are_equal (key x) name) refl (found_kept name xs)
    where
      rest : List X
      rest = filter (λ x. bytes_are_equal (key x) name) xs

      by : (b : Bool) → bytes_are_equal (key x) name ≡ b → find byte_cmp name (map entry_of rest) ≡ find byte_cmp name (map entry_of xs)
          → find byte_cmp name (map entry_of (cond b (x ∷ rest) rest)) ≡ cond (eq_by_cmp byte_cmp name (key x)) (Some (value x)) (find byte_cmp name (map entry_of xs))
      by true e f =
          let yes : eq_by_cmp byte_cmp name (key x) ≡ true = tied name (key x) ∙ byte_equality.symm name (key x) ∙ e in
          rw yes refl
      by false e f =
          let no' : eq_by_cmp byte_cmp name (key x) ≡ false = tied name (key x) ∙ byte_equality.symm name (key x) ∙ e in
          rw no' f

  found_from : (name : List ℕ) (kept : X) (xs : List X) → found name (dedup_from same_key kept xs) ≡ found name (kept ∷ xs)
  unfolding found
  found_from name kept [] = refl
  found_from name kept (x ∷ xs) = by (same_key x kept) refl (found_from name kept xs) (found_from name x xs)
    where
      search : List X → Option V
      search list = find byte_cmp name (map entry_of list)

      by : (b : Bool) → same_key x kept ≡ b → search (dedup_from same_key kept xs) ≡ search (kept ∷ xs) → search (dedup_from same_key x xs) ≡ search (x ∷ xs)
          → search (cond b (dedup_from same_key kept xs) (kept ∷ dedup_from same_key x xs)) ≡ search (kept ∷ x ∷ xs)
      by true e f g = f ∙ past (eq_by_cmp byte_cmp name (key kept)) (eq_by_cmp byte_cmp name (key x)) (ap (eq_by_cmp byte_cmp name) (sym (equal_bytes (key x) (key kept) e)))
        where
          past : (a b : Bool) → a ≡ b → cond a (Some (value kept)) (find byte_cmp name (map entry_of xs)) ≡ cond a (Some (value kept)) (cond b (Some (value x)) (find byte_cmp name (map entry_of xs)))
          past true b h = refl
          past false true h = absurd cc
          past false false h = refl
      by false e f g = ap (cond (eq_by_cmp byte_cmp name (key kept)) (Some (value kept))) g

  found_left : (name : List ℕ) (xs : List X) → found name (dedup same_key xs) ≡ found name xs
  unfolding found
  found_left name [] = refl
  found_left name (x ∷ xs) = found_from name x xs

  -- A stable sort by keys, of which the first of each key is kept, gives the entries of the map that has the first of each.
  pub first_entries : (xs ys : List X) → IsSorted by_key ys → IsStable by_key xs ys → map entry_of (dedup same_key ys) ≡ entries (from_entries {R = byte_cmp} (map entry_of xs))
  unfolding found
  first_entries xs ys sorted stable =
      let some = map entry_of (dedup same_key ys) in
      let rise : T (is_sorted byte_cmp some) = entries_rise (dedup same_key ys) (IsStrictlySortedBy-dedup by_key_total (λ x y. byte_ties (key x) (key y)) ys sorted) in
      let groups : ys ≡ in_groups byte_cmp byte_cmp_total tied key (each_once byte_cmp (map key xs)) xs = sorted_in_groups byte_cmp byte_cmp_total tied key xs ys sorted stable in
      let kept = λ (name : List ℕ). ap (filter (λ x. bytes_are_equal (key x) name)) groups
      ∙ groups_have byte_cmp byte_cmp_total tied key name (each_once byte_cmp (map key xs)) xs (each_ascends byte_cmp byte_cmp_total tied (map key xs)) (all_keys byte_cmp byte_cmp_total tied key xs) in
      sym (entries-from_sorted byte_cmp some rise) ∙ ap entries (same_map byte_cmp_total byte_cmp_exact (from_sorted some) (from_entries (map entry_of xs)) (λ name.
      get-from_sorted byte_cmp some name rise ∙ found_left name ys ∙ sym (found_kept name ys) ∙ ap (λ list. find byte_cmp name (map entry_of list)) (kept name) ∙ found_kept name xs ∙ sym (get-from_entries byte_cmp_total (map entry_of xs) name)))
