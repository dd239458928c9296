-- A rename of a file alone.
use Rattle.std.proofs.Common.{◌≡◌, ℕ, Bool, true, false, cond, List, [], ◌∷◌, ◌++◌, Option, Some, None, refl, sym, ap, ◌∙◌, append-nil}
use Rattle.std.specs.FinMap.{get, insert, remove, get-insert, get-remove, same_map}
use Rattle.path_name.specs.Orders.{path_cmp_total, path_cmp_exact}
use Rattle.tree_dev.specs.Trees.{FileTree, IsTree, behind, is_folder}
use Rattle.tree_dev.specs.Changes.{entry_after_rename, is_root, renamed}
use Rattle.tree_dev.specs.declared.entry.Entry.{Entry}
use Rattle.tree_dev.proofs.Behind.{behind_head, head_behind}
use Rattle.tree_dev.proofs.SamePaths.{is_same, is_same_path, apart}
use Rattle.tree_dev.proofs.Renames.{get-renamed, parted_back}
use Rattle.tree_dev.proofs.Carried.{nothing_below, disjoint}

module _ (t : FileTree) (from to : List (List ℕ)) (entry : Entry) (tree : IsTree t) (from_root : is_root from ≡ false) (to_root : is_root to ≡ false)
    (from_leaf : is_folder (get t from) ≡ false) (to_leaf : is_folder (get t to) ≡ false) (there : get t from ≡ Some entry)
    (apart_paths : behind from to ≡ None) (apart_back : behind to from ≡ None) where
  itself_behind : (p : List (List ℕ)) → behind p p ≡ Some []
  itself_behind p = ap (behind p) (sym (append-nil p)) ∙ behind_head p []

  at_to : (q rest : List (List ℕ)) → q ≡ to ++ rest → behind to q ≡ Some rest → behind from q ≡ None
      → cond (is_same q from) None (cond (is_same q to) (Some entry) (get t q)) ≡ get t (from ++ rest)
  at_to q [] is e none =
      let whole : q ≡ to = is ∙ append-nil to in
      rw (parted_back from q from [] none (itself_behind from), is_same_path q to whole) (sym there ∙ ap (get t) (sym (append-nil from)))
  at_to q (x ∷ rest) is e none =
      let other : is_same q to ≡ false = apart q to (λ same. let h : behind to q ≡ Some [] = ap (behind to) same ∙ itself_behind to in absurd cc) in
      rw (parted_back from q from [] none (itself_behind from), other)
      (ap (get t) is ∙ nothing_below t tree to to_root to_leaf (x ∷ rest) refl ∙ sym (nothing_below t tree from from_root from_leaf (x ∷ rest) refl))

  at_from : (q rest : List (List ℕ)) → q ≡ from ++ rest → behind to q ≡ None → cond (is_same q from) None (cond (is_same q to) (Some entry) (get t q)) ≡ None
  at_from q [] is none = rw (is_same_path q from (is ∙ append-nil from)) refl
  at_from q (x ∷ rest) is none =
      rw (parted_back to q to [] none (itself_behind to)) (none_either (is_same q from) (get t q) (ap (get t) is ∙ nothing_below t tree from from_root from_leaf (x ∷ rest) refl))
    where
      none_either : (b : Bool) (present : Option Entry) → present ≡ None → cond b None present ≡ None
      none_either true present e = refl
      none_either false present e = e

  same_after : (q : List (List ℕ)) (b c : Option (List (List ℕ))) → behind to q ≡ b → behind from q ≡ c
      → cond (is_same q from) None (cond (is_same q to) (Some entry) (get t q)) ≡ entry_after_rename t from b c q
  same_after q (Some rest) c e h = at_to q rest (head_behind to q rest e) e (disjoint from to q rest apart_paths apart_back e)
  same_after q None (Some rest) e h = at_from q rest (head_behind from q rest h) e
  same_after q None None e h = rw (parted_back from q from [] h (itself_behind from), parted_back to q to [] e (itself_behind to)) refl

  pub renamed_file : remove (insert t to entry) from ≡ renamed t from to
  renamed_file = same_map path_cmp_total path_cmp_exact _ _ (λ q.
      get-remove path_cmp_total (insert t to entry) from q ∙ ap (cond (is_same q from) None) (get-insert path_cmp_total t to entry q)
      ∙ same_after q (behind to q) (behind from q) refl refl ∙ sym (get-renamed from to t q))
