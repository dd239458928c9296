-- What stands at a path after a rename.
use Rattle.std.proofs.Common.{◌≡◌, false, List, [], ◌∷◌, ◌++◌, ℕ, Option, Some, None, refl, sym, ap, ◌∙◌}
use Rattle.std.specs.List.{filter_map}
use Rattle.std.specs.FinMap.{entries, find, get, get-entries, get-from_entries}
use Rattle.path_name.specs.Orders.{path_cmp, path_cmp_total}
use Rattle.tree_dev.specs.Trees.{FileTree, behind}
use Rattle.tree_dev.specs.Changes.{moved, renamed, entry_after_rename}
use Rattle.tree_dev.specs.declared.entry.Entry.{Entry}
use Rattle.tree_dev.proofs.Behind.{behind_head, head_behind}
use Rattle.tree_dev.proofs.SamePaths.{is_same, apart, alike}

-- what begins with a head is not what does not
pub parted : (head a b rest : List (List ℕ)) → behind head a ≡ Some rest → behind head b ≡ None → is_same a b ≡ false
parted head a b rest here there = apart a b (λ same. let back : behind head a ≡ behind head b = ap (behind head) same in absurd cc)

pub parted_back : (head a b rest : List (List ℕ)) → behind head a ≡ None → behind head b ≡ Some rest → is_same a b ≡ false
parted_back head a b rest here there = apart a b (λ same. let back : behind head a ≡ behind head b = ap (behind head) same in absurd cc)

same_rest : (head a b : List (List ℕ)) → head ++ a ≡ head ++ b → a ≡ b
same_rest head a b e = let p = behind_head head a in let q = behind_head head b in let r = ap (behind head) e in cc

-- one entry of the tree before, at each of the three kinds of path
module _ (from to : List (List ℕ)) where
  abbrev after_moves : List (List (List ℕ) × Entry) → List (List ℕ) → Option Entry
  after_moves es q = find path_cmp q (filter_map (moved from to) es)

  below_to : (es : List (List (List ℕ) × Entry)) (q rest : List (List ℕ)) → behind to q ≡ Some rest → after_moves es q ≡ find path_cmp (from ++ rest) es
  below_to [] q rest e = refl
  below_to (entry ∷ es) q rest e = step (behind from entry.0) (behind to entry.0) refl refl (below_to es q rest e)
    where
      step : (b c : Option (List (List ℕ))) → behind from entry.0 ≡ b → behind to entry.0 ≡ c → after_moves es q ≡ find path_cmp (from ++ rest) es
          → after_moves (entry ∷ es) q ≡ find path_cmp (from ++ rest) (entry ∷ es)
      step (Some r) c was there more =
          let is_q = head_behind to q rest e in
          let is_entry = head_behind from entry.0 r was in
          let same : is_same q (to ++ r) ≡ is_same (from ++ rest) entry.0 =
          alike q (to ++ r) (from ++ rest) entry.0
          (λ p. let s = same_rest to rest r (sym is_q ∙ p) in cc)
          (λ p. let s = same_rest from rest r (p ∙ is_entry) in cc) in
          rw (was, same, more) refl
      step None (Some r) was there more = rw (was, there, parted from (from ++ rest) entry.0 rest (behind_head from rest) was) more
      step None None was there more =
          rw (was, there, parted to q entry.0 rest e there, parted from (from ++ rest) entry.0 rest (behind_head from rest) was) more

  below_from : (es : List (List (List ℕ) × Entry)) (q rest : List (List ℕ)) → behind to q ≡ None → behind from q ≡ Some rest → after_moves es q ≡ None
  below_from [] q rest e h = refl
  below_from (entry ∷ es) q rest e h = step (behind from entry.0) (behind to entry.0) refl refl (below_from es q rest e h)
    where
      step : (b c : Option (List (List ℕ))) → behind from entry.0 ≡ b → behind to entry.0 ≡ c → after_moves es q ≡ None → after_moves (entry ∷ es) q ≡ None
      step (Some r) c was there more = rw (was, parted_back to q (to ++ r) r e (behind_head to r)) more
      step None (Some r) was there more = rw (was, there) more
      step None None was there more = rw (was, there, parted from q entry.0 rest h was) more

  elsewhere : (es : List (List (List ℕ) × Entry)) (q : List (List ℕ)) → behind to q ≡ None → behind from q ≡ None → after_moves es q ≡ find path_cmp q es
  elsewhere [] q e h = refl
  elsewhere (entry ∷ es) q e h = step (behind from entry.0) (behind to entry.0) refl refl (elsewhere es q e h)
    where
      step : (b c : Option (List (List ℕ))) → behind from entry.0 ≡ b → behind to entry.0 ≡ c → after_moves es q ≡ find path_cmp q es
          → after_moves (entry ∷ es) q ≡ find path_cmp q (entry ∷ es)
      step (Some r) c was there more = rw (was, parted_back to q (to ++ r) r e (behind_head to r), parted_back from q entry.0 r h was) more
      step None (Some r) was there more = rw (was, there, parted_back to q entry.0 r e there) more
      step None None was there more = rw (was, there, more) refl

  at_path : (es : List (List (List ℕ) × Entry)) (t : FileTree) (q : List (List ℕ)) (b c : Option (List (List ℕ))) → behind to q ≡ b → behind from q ≡ c
      → ((p : List (List ℕ)) → find path_cmp p es ≡ get t p) → after_moves es q ≡ entry_after_rename t from b c q
  at_path es t q (Some rest) c e h finds = below_to es q rest e ∙ finds (from ++ rest)
  at_path es t q None (Some rest) e h finds = below_from es q rest e h
  at_path es t q None None e h finds = elsewhere es q e h ∙ finds q

  pub get-renamed : (t : FileTree) (q : List (List ℕ)) → get (renamed t from to) q ≡ entry_after_rename t from (behind to q) (behind from q) q
  unfolding renamed
  get-renamed t q =
      get-from_entries path_cmp_total (filter_map (moved from to) (entries t)) q
      ∙ at_path (entries t) t q (behind to q) (behind from q) refl refl (λ p. sym (get-entries t p))
