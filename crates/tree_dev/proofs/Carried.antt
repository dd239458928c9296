-- A rename in memory: entries are copied to their new paths, and the old ones are taken away.
use Rattle.std.proofs.Common.{◌≡◌, ℕ, zero, suc, ◌≤◌, Bool, true, false, ◌||◌, cond, List, [], ◌∷◌, ◌++◌, length, Option, Some, None, is_some, refl, sym, ap, ◌∙◌, arith, append_assoc, append-nil, length-append, inl, inr, ◌⊎◌}
use Rattle.std.specs.FinMap.{get, insert, contains_key, get-insert, same_map}
use Rattle.path_name.specs.Orders.{path_cmp_total, path_cmp_exact}
use Rattle.path_name.specs.Paths.{without_last}
use Rattle.tree_dev.specs.Trees.{FileTree, IsTree, behind, entry_at, is_folder, has_folder}
use Rattle.tree_dev.specs.Changes.{entry_after_rename, is_root, renamed}
use Rattle.tree_dev.specs.Moves.{with_all, without_all, paths_of, is_among, Carries, AreAll}
use Rattle.tree_dev.specs.Stored.{entry_of}
use Rattle.tree_dev.specs.declared.moves.Placed.{Placed}
use Rattle.tree_dev.specs.declared.entry.Entry.{Entry}
use Rattle.path_name.specs.Orders.{bytes_are_equal}
use Rattle.tree_dev.specs.Told.{one_of}
use Rattle.tree_dev.proofs.Behind.{behind_head, head_behind, bytes_same}
use Rattle.tree_dev.proofs.ManyEntries.{get-without_all, get-with_all_other}
use Rattle.tree_dev.proofs.SamePaths.{is_same, same_path, is_same_path}
use Rattle.tree_dev.proofs.Renames.{get-renamed}
use Rattle.tree_dev.proofs.Snoc.{snoc_of, without_last-snoc, not_root-append}

true_after : (b : Bool) → (b || true) ≡ true
true_after true = refl
true_after false = refl

-- nothing stands below what is no folder
module _ (t : FileTree) (tree : IsTree t) (at : List (List ℕ)) (below_root : is_root at ≡ false) (no_folder : is_folder (get t at) ≡ false) where
  no_entry_folder : is_folder (entry_at t at) ≡ false
  no_entry_folder = at_case at below_root no_folder
    where
      at_case : (p : List (List ℕ)) → is_root p ≡ false → is_folder (get t p) ≡ false → is_folder (entry_at t p) ≡ false
      at_case [] e h = absurd cc
      at_case (x ∷ xs) e h = h

  some_folder : (p : List (List ℕ)) → is_root p ≡ false → is_folder (entry_at t p) ≡ true → contains_key t p ≡ true
  some_folder [] root e = absurd cc
  some_folder (x ∷ xs) root e = present (get t (x ∷ xs)) e
    where
      present : (entry : Option Entry) → is_folder entry ≡ true → is_some entry ≡ true
      present None e = absurd cc
      present (Some x) e = refl

  none_below : (fuel : ℕ) (front : List (List ℕ)) (last : List ℕ) → length front ≤ fuel → contains_key t (at ++ (front ++ last ∷ [])) ≡ true → ⊥
  none_below fuel [] last le has =
      let path : at ++ last ∷ [] ≡ at ++ last ∷ [] = refl in
      let up : is_folder (entry_at t at) ≡ true = ap (has_folder t) (sym (without_last-snoc at last)) ∙ tree.below_folders (at ++ last ∷ []) has in
      let no_one = no_entry_folder in
      absurd cc
  none_below zero (y ∷ ys) last le has = absurd (omega arith)
  none_below (suc fuel) (y ∷ ys) last le has =
      let path : at ++ ((y ∷ ys) ++ last ∷ []) ≡ (at ++ y ∷ ys) ++ last ∷ [] = sym (append_assoc at (y ∷ ys) (last ∷ [])) in
      let up : is_folder (entry_at t (at ++ y ∷ ys)) ≡ true =
      ap (has_folder t) (sym (without_last-snoc (at ++ y ∷ ys) last) ∙ ap without_last (sym path)) ∙ tree.below_folders (at ++ ((y ∷ ys) ++ last ∷ [])) has in
      let there = some_folder (at ++ y ∷ ys) (not_root-append at (y ∷ ys) below_root) up in
      let s = snoc_of (y ∷ ys) refl in
      let n = simp length-append at (ap length s.is) in
      none_below fuel s.front s.last (omega (arith, n)) (ap (λ r. contains_key t (at ++ r)) (sym s.is) ∙ there)

  absent : (p : List (List ℕ)) (present : Option Entry) → get t p ≡ present → (contains_key t p ≡ true → ⊥) → present ≡ None
  absent p None e no_one = refl
  absent p (Some x) e no_one = absurd (no_one (ap is_some e))

  pub nothing_below : (rest : List (List ℕ)) → is_root rest ≡ false → get t (at ++ rest) ≡ None
  nothing_below rest root =
      let s = snoc_of rest root in
      absent (at ++ rest) (get t (at ++ rest)) refl (λ has. none_below (length s.front) s.front s.last (omega arith) (ap (λ r. contains_key t (at ++ r)) (sym s.is) ∙ has))

-- two heads of one path are heads of each other
bytes_apart : (x y : List ℕ) → x ≡ y → bytes_are_equal x y ≡ true
bytes_apart x y e = ap (bytes_are_equal x) (sym e) ∙ bytes_same x

pub comparable : (f g r s : List (List ℕ)) → f ++ r ≡ g ++ s → behind f g ≡ None → behind g f ≡ None → ⊥
comparable [] g r s e a b = absurd cc
comparable (x ∷ f) [] r s e a b = absurd cc
comparable (x ∷ f) (y ∷ g) r s e a b =
    let heads : x ≡ y = cc in
    let tails : f ++ r ≡ g ++ s = cc in
    let one = bytes_apart x y heads in
    let two = bytes_apart y x (sym heads) in
    comparable f g r s tails (sym (rw one refl) ∙ a) (sym (rw two refl) ∙ b)

disjoint_case : (from to q rest : List (List ℕ)) (b : Option (List (List ℕ))) → behind from to ≡ None → behind to from ≡ None → behind to q ≡ Some rest → behind from q ≡ b → b ≡ None
disjoint_case from to q rest None a c e h = refl
disjoint_case from to q rest (Some r) a c e h = absurd (comparable from to r rest (sym (head_behind from q r h) ∙ head_behind to q rest e) a c)

pub disjoint : (from to q rest : List (List ℕ)) → behind from to ≡ None → behind to from ≡ None → behind to q ≡ Some rest → behind from q ≡ None
disjoint from to q rest a c e = disjoint_case from to q rest (behind from q) a c e refl

same_rest : (head a b : List (List ℕ)) → head ++ a ≡ head ++ b → a ≡ b
same_rest head a b e = let p = behind_head head a in let q = behind_head head b in let r = ap (behind head) e in cc

module _ (t : FileTree) (from to : List (List ℕ)) where
  pub carries-snoc : (old : List (List (List ℕ))) (new : List Placed) (p : List (List ℕ)) (n : Placed) → Carries t from to old new → Carries t from to (p ∷ []) (n ∷ []) → Carries t from to (old ++ p ∷ []) (new ++ n ∷ [])
  carries-snoc [] [] p n all one = one
  carries-snoc [] (x ∷ new) p n all one = absurd all
  carries-snoc (q ∷ old) [] p n all one = absurd all
  carries-snoc (q ∷ old) (x ∷ new) p n all one = (all.0, all.1, all.2, all.3, carries-snoc old new p n all.4 one)

  in_old : (old : List (List (List ℕ))) (new : List Placed) (q : List (List ℕ)) → Carries t from to old new → is_among q old ≡ true → (rest : List (List ℕ)) × (q ≡ from ++ rest)
  in_old [] new q all e = absurd cc
  in_old (p ∷ old) [] q all e = absurd all
  in_old (p ∷ old) (n ∷ new) q all e =
      elim (one_of (is_same q p) (is_among q old) e) [ inl same ↦ (all.0, same_path q p same ∙ all.1) | inr rest ↦ in_old old new q all.4 rest ]

  in_new : (old : List (List (List ℕ))) (new : List Placed) (q : List (List ℕ)) → Carries t from to old new → is_among q (paths_of new) ≡ true → (rest : List (List ℕ)) × (q ≡ to ++ rest)
  in_new [] [] q all e = absurd cc
  in_new [] (n ∷ new) q all e = absurd all
  in_new (p ∷ old) [] q all e = absurd all
  in_new (p ∷ old) (n ∷ new) q all e =
      elim (one_of (is_same q n.at) (is_among q (paths_of new)) e) [ inl same ↦ (all.0, same_path q n.at same ∙ all.2) | inr rest ↦ in_new old new q all.4 rest ]

  old_new : (old : List (List (List ℕ))) (new : List Placed) (rest : List (List ℕ)) → Carries t from to old new → is_among (from ++ rest) old ≡ true → is_among (to ++ rest) (paths_of new) ≡ true
  old_new [] new rest all e = absurd cc
  old_new (p ∷ old) [] rest all e = absurd all
  old_new (p ∷ old) (n ∷ new) rest all e =
      elim (one_of (is_same (from ++ rest) p) (is_among (from ++ rest) old) e) [
        | inl same ↦
            let r : rest ≡ all.0 = same_rest from rest all.0 (same_path (from ++ rest) p same ∙ all.1) in
            let one : is_same (to ++ rest) n.at ≡ true = is_same_path (to ++ rest) n.at (ap (λ x. to ++ x) r ∙ sym all.2) in
            rw one refl
        | inr more ↦ rw (old_new old new rest all.4 more) (true_after (is_same (to ++ rest) n.at))
      ]

  value_there : (old : List (List (List ℕ))) (new : List Placed) (s : FileTree) (rest : List (List ℕ)) → Carries t from to old new → is_among (to ++ rest) (paths_of new) ≡ true
      → get (with_all s new) (to ++ rest) ≡ get t (from ++ rest)
  unfolding with_all
  value_there [] [] s rest all e = absurd cc
  value_there [] (n ∷ new) s rest all e = absurd all
  value_there (p ∷ old) [] s rest all e = absurd all
  value_there (p ∷ old) (n ∷ new) s rest all e = step (is_among (to ++ rest) (paths_of new)) refl (one_of (is_same (to ++ rest) n.at) (is_among (to ++ rest) (paths_of new)) e) (value_there old new (insert s n.at (entry_of n.entry)) rest all.4)
    where
      step : (b : Bool) → is_among (to ++ rest) (paths_of new) ≡ b → (is_same (to ++ rest) n.at ≡ true) ⊎ (is_among (to ++ rest) (paths_of new) ≡ true)
          → (is_among (to ++ rest) (paths_of new) ≡ true → get (with_all (insert s n.at (entry_of n.entry)) new) (to ++ rest) ≡ get t (from ++ rest))
          → get (with_all (insert s n.at (entry_of n.entry)) new) (to ++ rest) ≡ get t (from ++ rest)
      step true among which more = more among
      step false among (inl same) more =
          let r : rest ≡ all.0 = same_rest to rest all.0 (same_path (to ++ rest) n.at same ∙ all.2) in
          get-with_all_other new (insert s n.at (entry_of n.entry)) (to ++ rest) among
          ∙ get-insert path_cmp_total s n.at (entry_of n.entry) (to ++ rest) ∙ rw same refl ∙ sym all.3 ∙ ap (get t) all.1 ∙ ap (λ x. get t (from ++ x)) (sym r)
      step false among (inr rest_among) more = more rest_among

  absent_of : (p : List (List ℕ)) (present : Option Entry) → get t p ≡ present → (contains_key t p ≡ true → ⊥) → present ≡ None
  absent_of p None e no_one = refl
  absent_of p (Some x) e no_one = absurd (no_one (ap is_some e))

  module _ (old : List (List (List ℕ))) (new : List Placed) (carries : Carries t from to old new) (all : AreAll t from old)
      (apart_paths : behind from to ≡ None) (apart_back : behind to from ≡ None) (free : (rest : List (List ℕ)) → get t (to ++ rest) ≡ None) where
    abbrev after : List (List ℕ) → Option Entry
    after q = cond (is_among q old) None (get (with_all t new) q)

    not_old : (q : List (List ℕ)) (b : Bool) → is_among q old ≡ b → behind from q ≡ None → b ≡ false
    not_old q true e none = let r = in_old old new q carries e in absurd (let h : behind from q ≡ Some r.0 = ap (behind from) r.1 ∙ behind_head from r.0 in cc)
    not_old q false e none = refl

    not_new : (q : List (List ℕ)) (b : Bool) → is_among q (paths_of new) ≡ b → behind to q ≡ None → b ≡ false
    not_new q true e none = let r = in_new old new q carries e in absurd (let h : behind to q ≡ Some r.0 = ap (behind to) r.1 ∙ behind_head to r.0 in cc)
    not_new q false e none = refl

    at_target : (q rest : List (List ℕ)) (b : Bool) → q ≡ to ++ rest → is_among (to ++ rest) (paths_of new) ≡ b → get (with_all t new) q ≡ get t (from ++ rest)
    at_target q rest true is e = ap (get (with_all t new)) is ∙ value_there old new t rest carries e
    at_target q rest false is e =
        ap (get (with_all t new)) is ∙ get-with_all_other new t (to ++ rest) e ∙ free rest
        ∙ sym (absent_of (from ++ rest) (get t (from ++ rest)) refl (λ has. let there = old_new old new rest carries (all rest has) in absurd cc))

    at_source : (q rest : List (List ℕ)) (b : Bool) → q ≡ from ++ rest → behind to q ≡ None → is_among q old ≡ b → cond b None (get (with_all t new) q) ≡ None
    at_source q rest true is none e = refl
    at_source q rest false is none e =
        get-with_all_other new t q (not_new q (is_among q (paths_of new)) refl none)
        ∙ absent_of q (get t q) refl (λ has. let there = ap (λ p. is_among p old) is ∙ all rest (ap (contains_key t) (sym is) ∙ has) in absurd cc)

    same_after : (q : List (List ℕ)) (b c : Option (List (List ℕ))) → behind to q ≡ b → behind from q ≡ c → after q ≡ entry_after_rename t from b c q
    same_after q (Some rest) c e h =
        rw (not_old q (is_among q old) refl (disjoint from to q rest apart_paths apart_back e)) (at_target q rest (is_among (to ++ rest) (paths_of new)) (head_behind to q rest e) refl)
    same_after q None (Some rest) e h = at_source q rest (is_among q old) (head_behind from q rest h) e refl
    same_after q None None e h =
        rw (not_old q (is_among q old) refl h) (get-with_all_other new t q (not_new q (is_among q (paths_of new)) refl e))

    pub renamed_all : without_all (with_all t new) old ≡ renamed t from to
    renamed_all = same_map path_cmp_total path_cmp_exact _ _ (λ q.
        get-without_all old (with_all t new) q ∙ same_after q (behind to q) (behind from q) refl refl ∙ sym (get-renamed from to t q))

    pub none_at_new : (q : List (List ℕ)) → is_among q (paths_of new) ≡ true → get t q ≡ None
    none_at_new q e = let r = in_new old new q carries e in ap (get t) r.1 ∙ free r.0

-- where nothing stands at a path of a tree, nothing stands below it
pub free_below : (t : FileTree) (to : List (List ℕ)) → IsTree t → is_root to ≡ false → get t to ≡ None → (rest : List (List ℕ)) → get t (to ++ rest) ≡ None
free_below t to tree root none [] = ap (get t) (append-nil to) ∙ none
free_below t to tree root none (x ∷ rest) = nothing_below t tree to root (ap is_folder none) (x ∷ rest) refl
