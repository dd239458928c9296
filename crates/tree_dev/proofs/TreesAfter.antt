-- A change that has a place in a tree leaves a tree.
use Rattle.std.proofs.Common.{◌≡◌, ℕ, ◌<◌, ◌^◌, List, [], ◌∷◌, ◌++◌, Option, Some, None, Bool, true, false, ◌&&◌, ◌||◌, cond, is_some, is_none, not, refl, sym, ap, ◌∙◌, subst, append_assoc, append-nil}
use Rattle.std.specs.List.{list_all, list_any, filter_map}
use Rattle.std.proofs.lemmas.List.Folds.{list_all-append}
use Rattle.std.specs.FinMap.{get, contains_key, contains_key-keys, keys, len}
use Rattle.path_name.specs.Paths.{IsPath, is_segment, without_last}
use Rattle.tree_dev.specs.Told.{both}
use Rattle.tree_dev.specs.Trees.{FileTree, IsTree, entry_at, is_folder, has_folder, behind, names_in, one_segment}
use Rattle.tree_dev.specs.Changes.{changed, entry_after_rename, has_place, is_file, is_free, is_free_for_file, is_leaf, is_root, has_no_names, target}
use Rattle.tree_dev.specs.declared.change.Change.{Change}
use Rattle.tree_dev.specs.declared.change.Change.TheVariants as changes
use Rattle.tree_dev.specs.declared.entry.Entry.{Entry}
use Rattle.tree_dev.specs.declared.entry.Entry.TheVariants as entries
use Rattle.tree_dev.proofs.Behind.{behind_head, head_behind}
use Rattle.tree_dev.proofs.SamePaths.{is_same, same_path, apart}
use Rattle.tree_dev.proofs.Changed.{get-changed}
use Rattle.tree_dev.proofs.Snoc.{snoc_of, parent_of, without_last-snoc, not_behind_front, not_behind_itself, not_root-append, not_root_behind}

-- an entry can stand at this path of a tree
abbrev IsPlaced : FileTree → List (List ℕ) → Type 0
IsPlaced t q = (list_all is_segment q ≡ true) × (has_folder t (without_last q) ≡ true)

-- a folder stays one where its entry stays
folder_stays : (t after : FileTree) (p : List (List ℕ)) → (is_root p ≡ false → get after p ≡ get t p) → is_folder (entry_at t p) ≡ true → is_folder (entry_at after p) ≡ true
folder_stays t after [] stays e = refl
folder_stays t after (x ∷ xs) stays e = ap is_folder (stays refl) ∙ e

has_folder_stays : (t after : FileTree) (up : Option (List (List ℕ))) → ((p : List (List ℕ)) → up ≡ Some p → is_root p ≡ false → is_folder (entry_at t p) ≡ true → get after p ≡ get t p)
    → has_folder t up ≡ true → has_folder after up ≡ true
has_folder_stays t after None stays e = absurd cc
has_folder_stays t after (Some p) stays e = folder_stays t after p (λ h. stays p refl h e) e

-- an entry that is put where no folder is
module _ (t after : FileTree) (at : List (List ℕ)) (new : Entry) (gets : (q : List (List ℕ)) → get after q ≡ cond (is_same q at) (Some new) (get t q)) where
  untouched : (p : List (List ℕ)) → is_folder (get t at) ≡ false → is_root p ≡ false → is_folder (entry_at t p) ≡ true → get after p ≡ get t p
  untouched [] seen root e = absurd cc
  untouched (x ∷ xs) seen root e =
      let other : is_same (x ∷ xs) at ≡ false = apart (x ∷ xs) at (λ same. let f : is_folder (get t (x ∷ xs)) ≡ is_folder (get t at) = ap (λ p. is_folder (get t p)) same in absurd cc) in
      gets (x ∷ xs) ∙ rw other refl

  parent_stays : (up : Option (List (List ℕ))) → is_folder (get t at) ≡ false → has_folder t up ≡ true → has_folder after up ≡ true
  parent_stays up seen e = has_folder_stays t after up (λ p is root folder. untouched p seen root folder) e

  placed_after_put : IsTree t → list_all is_segment at ≡ true → has_folder t (without_last at) ≡ true → is_folder (get t at) ≡ false
      → (q : List (List ℕ)) (same : Bool) → is_same q at ≡ same → contains_key after q ≡ true → IsPlaced after q
  placed_after_put tree is_path above seen q true e has = subst (IsPlaced after) (sym (same_path q at e)) (is_path, parent_stays (without_last at) seen above)
  placed_after_put tree is_path above seen q false e has =
      let stays : get after q ≡ get t q = gets q ∙ rw e refl in
      let had : contains_key t q ≡ true = ap is_some (sym stays) ∙ has in
      (tree.paths q had, parent_stays (without_last q) seen (tree.below_folders q had))

-- an entry that is taken away and has none below it
module _ (t after : FileTree) (at : List (List ℕ)) (gets : (q : List (List ℕ)) → get after q ≡ cond (is_same q at) None (get t q)) where
  placed_after_removal : IsTree t → ((q : List (List ℕ)) → contains_key t q ≡ true → without_last q ≡ Some at → ⊥)
      → (q : List (List ℕ)) (same : Bool) → is_same q at ≡ same → contains_key after q ≡ true → IsPlaced after q
  placed_after_removal tree childless q true e has = let gone : get after q ≡ None = gets q ∙ rw e refl in absurd cc
  placed_after_removal tree childless q false e has =
      let stays : get after q ≡ get t q = gets q ∙ rw e refl in
      let had : contains_key t q ≡ true = ap is_some (sym stays) ∙ has in (
        tree.paths q had,
        has_folder_stays t after (without_last q)
            (λ p is root folder. gets p ∙ rw (apart p at (λ same. childless q had (is ∙ ap Some same))) refl)
            (tree.below_folders q had),
      )

-- no folder lists no name while an entry stands in it
lists_one : (at q : List (List ℕ)) (name : List ℕ) (paths : List (List (List ℕ))) → one_segment (behind at q) ≡ Some name → list_any (is_same q) paths ≡ true
    → has_no_names (filter_map (λ path. one_segment (behind at path)) paths) ≡ true → ⊥
lists_one at q name [] is among none = absurd cc
lists_one at q name (path ∷ paths) is among none = step (one_segment (behind at path)) (is_same q path) refl refl (lists_one at q name paths is)
  where
    step : (first : Option (List ℕ)) (same : Bool) → one_segment (behind at path) ≡ first → is_same q path ≡ same
        → (list_any (is_same q) paths ≡ true → has_no_names (filter_map (λ path. one_segment (behind at path)) paths) ≡ true → ⊥) → ⊥
    step (Some x) same e h more = let n : has_no_names (x ∷ filter_map (λ path. one_segment (behind at path)) paths) ≡ true = rw e at none in absurd cc
    step None true e h more = let same_name = ap (λ p. one_segment (behind at p)) (same_path q path h) in absurd cc
    step None false e h more = more (rw h at among) (rw e at none)

pub childless : (t : FileTree) (at : List (List ℕ)) → has_no_names (names_in t at) ≡ true → (q : List (List ℕ)) → contains_key t q ≡ true → without_last q ≡ Some at → ⊥
unfolding names_in
childless t at none q has up =
    let last = parent_of q at up in
    let is : one_segment (behind at q) ≡ Some last.0 = ap (λ p. one_segment (behind at p)) last.1 ∙ ap one_segment (behind_head at (last.0 ∷ [])) in
    lists_one at q last.0 (keys t) is (sym (contains_key-keys t q) ∙ has) none

entry_below : (t : FileTree) (p : List (List ℕ)) → is_root p ≡ false → entry_at t p ≡ get t p
entry_below t [] e = absurd cc
entry_below t (x ∷ xs) e = refl

-- what stands at and below one path stands at and below another
module _ (t after : FileTree) (from to : List (List ℕ)) (gets : (q : List (List ℕ)) → get after q ≡ entry_after_rename t from (behind to q) (behind from q) q)
    (tree : IsTree t) (is_path : list_all is_segment to ≡ true) (apart_paths : behind from to ≡ None) (above : has_folder t (without_last to) ≡ true) where
  unmoved : (p : List (List ℕ)) → behind to p ≡ None → behind from p ≡ None → get after p ≡ get t p
  unmoved p e h = gets p ∙ rw (e, h) refl

  not_root_to : (p : List (List ℕ)) → has_folder t (without_last p) ≡ true → is_root p ≡ false
  not_root_to [] e = absurd cc
  not_root_to (x ∷ xs) e = refl

  above_to : has_folder after (without_last to) ≡ true
  above_to = has_folder_stays t after (without_last to) (λ p is root folder.
      let last = parent_of to p is in
      let back : behind to p ≡ None = ap (λ q. behind q p) last.1 ∙ not_behind_itself p last.0 in
      let longer : behind from (p ++ last.0 ∷ []) ≡ None = ap (behind from) (sym last.1) ∙ apart_paths in
      unmoved p back (not_behind_front from p (last.0 ∷ []) longer)) above

  above_moved : (rest : List (List ℕ)) → contains_key t (from ++ rest) ≡ true → has_folder after (without_last (to ++ rest)) ≡ true
  above_moved [] has = rw append-nil above_to
  above_moved (x ∷ xs) has =
      let snoc = snoc_of (x ∷ xs) refl in
      let was : from ++ x ∷ xs ≡ (from ++ snoc.front) ++ snoc.last ∷ [] = ap (λ p. from ++ p) snoc.is ∙ sym (append_assoc from snoc.front (snoc.last ∷ [])) in
      let is : to ++ x ∷ xs ≡ (to ++ snoc.front) ++ snoc.last ∷ [] = ap (λ p. to ++ p) snoc.is ∙ sym (append_assoc to snoc.front (snoc.last ∷ [])) in
      let old : has_folder t (without_last (from ++ x ∷ xs)) ≡ true = tree.below_folders (from ++ x ∷ xs) has in
      let old_folder : is_folder (entry_at t (from ++ snoc.front)) ≡ true =
      ap (has_folder t) (sym (without_last-snoc (from ++ snoc.front) snoc.last) ∙ ap without_last (sym was)) ∙ old in
      let moved_here : get after (to ++ snoc.front) ≡ get t (from ++ snoc.front) = gets (to ++ snoc.front) ∙ rw (behind_head to snoc.front) refl in
      let new_folder : is_folder (entry_at after (to ++ snoc.front)) ≡ true =
      ap is_folder (entry_below after (to ++ snoc.front) (not_root-append to snoc.front (not_root_to to above)) ∙ moved_here
      ∙ sym (entry_below t (from ++ snoc.front) (not_root-append from snoc.front (not_root_behind from to apart_paths)))) ∙ old_folder in
      ap (has_folder after) (ap without_last is ∙ without_last-snoc (to ++ snoc.front) snoc.last) ∙ new_folder

  placed_after_rename : (q : List (List ℕ)) (b c : Option (List (List ℕ))) → behind to q ≡ b → behind from q ≡ c → contains_key after q ≡ true → IsPlaced after q
  placed_after_rename q (Some rest) c e h has =
      let is = head_behind to q rest e in
      let was : get after q ≡ get t (from ++ rest) = gets q ∙ rw e refl in
      let had : contains_key t (from ++ rest) ≡ true = ap is_some (sym was) ∙ has in
      let parts = both (list_all is_segment from) (list_all is_segment rest) (sym (list_all-append is_segment from rest) ∙ tree.paths (from ++ rest) had) in
      subst (IsPlaced after) (sym is) (list_all-append is_segment to rest ∙ rw (is_path, parts.1) refl, above_moved rest had)
  placed_after_rename q None (Some rest) e h has = let gone : get after q ≡ None = gets q ∙ rw (e, h) refl in absurd cc
  placed_after_rename q None None e h has =
      let stays : get after q ≡ get t q = unmoved q e h in
      let had : contains_key t q ≡ true = ap is_some (sym stays) ∙ has in (
        tree.paths q had,
        has_folder_stays t after (without_last q) (λ p is root folder.
            let last = parent_of q p is in
            unmoved p (not_behind_front to p (last.0 ∷ []) (ap (behind to) (sym last.1) ∙ e)) (not_behind_front from p (last.0 ∷ []) (ap (behind from) (sym last.1) ∙ h)))
            (tree.below_folders q had),
      )

tree_of : (t : FileTree) → ((q : List (List ℕ)) → contains_key t q ≡ true → IsPlaced t q) → len t < 2 ^ 32 → IsTree t
tree_of t each few = record { paths = λ q has. (each q has).0; below_folders = λ q has. (each q has).1; few = few }

not_folder_there : (present : Option Entry) → (is_none present || is_file present) ≡ true → is_folder present ≡ false
not_folder_there None e = refl
not_folder_there (Some (entries.File bytes)) e = refl
not_folder_there (Some entries.Folder) e = absurd cc
not_folder_there (Some entries.Other) e = absurd cc

nothing_there : (present : Option Entry) → is_none present ≡ true → is_folder present ≡ false
nothing_there None e = refl
nothing_there (Some x) e = absurd cc

no_folder_at : (t : FileTree) (at : List (List ℕ)) → is_folder (entry_at t at) ≡ false → is_folder (get t at) ≡ false
no_folder_at t [] e = absurd cc
no_folder_at t (x ∷ xs) e = e

free_above : (b : Bool) (t : FileTree) (to : List (List ℕ)) → cond b (is_free_for_file t to) (is_free t to) ≡ true → has_folder t (without_last to) ≡ true
free_above true t to e = (both (has_folder t (without_last to)) (is_none (entry_at t to) || is_file (entry_at t to)) e).0
free_above false t to e = (both (has_folder t (without_last to)) (is_none (entry_at t to)) e).0

none_is : {X : Type 0} (x : Option X) → is_none x ≡ true → x ≡ None
none_is None e = refl
none_is (Some x) e = absurd cc

leaf_is_no_folder : (present : Option Entry) → is_leaf present ≡ true → is_folder present ≡ false
leaf_is_no_folder None e = absurd cc
leaf_is_no_folder (Some (entries.File bytes)) e = refl
leaf_is_no_folder (Some entries.Folder) e = absurd cc
leaf_is_no_folder (Some entries.Other) e = refl

leaf_childless : (t : FileTree) (at : List (List ℕ)) → IsTree t → is_leaf (entry_at t at) ≡ true → (q : List (List ℕ)) → contains_key t q ≡ true → without_last q ≡ Some at → ⊥
leaf_childless t at tree leaf q has up =
    let folder : is_folder (entry_at t at) ≡ true = ap (has_folder t) (sym up) ∙ tree.below_folders q has in
    let not_one = leaf_is_no_folder (entry_at t at) leaf in
    absurd cc

-- A change with a place in a tree leaves a tree, where it leaves few enough entries.
pub change_keeps : (t : FileTree) (change : Change) → IsTree t → IsPath (target change) → has_place t change ≡ true → len (changed t change) < 2 ^ 32 → IsTree (changed t change)
unfolding has_place
change_keeps t (changes.Written at bytes) tree is_path place few =
    let parts = both (has_folder t (without_last at)) (is_none (entry_at t at) || is_file (entry_at t at)) place in
    let after = changed t (changes.Written at bytes) in
    tree_of after (λ q has. placed_after_put t after at (entries.File bytes) (get-changed t (changes.Written at bytes)) tree is_path parts.0
    (no_folder_at t at (not_folder_there (entry_at t at) parts.1)) q (is_same q at) refl has) few
change_keeps t (changes.FolderMade at) tree is_path place few =
    let parts = both (has_folder t (without_last at)) (is_none (entry_at t at)) place in
    let after = changed t (changes.FolderMade at) in
    tree_of after (λ q has. placed_after_put t after at entries.Folder (get-changed t (changes.FolderMade at)) tree is_path parts.0
    (no_folder_at t at (nothing_there (entry_at t at) parts.1)) q (is_same q at) refl has) few
change_keeps t (changes.Renamed from to) tree is_path place few =
    let fit = cond (is_file (entry_at t from)) (is_free_for_file t to) (is_free t to) in
    let parts = both (is_some (entry_at t from) && is_none (behind from to)) fit place in
    let apart_paths = none_is (behind from to) (both (is_some (entry_at t from)) (is_none (behind from to)) parts.0).1 in
    let after = changed t (changes.Renamed from to) in
    tree_of after (λ q has. placed_after_rename t after from to (get-changed t (changes.Renamed from to)) tree is_path apart_paths
    (free_above (is_file (entry_at t from)) t to parts.1) q (behind to q) (behind from q) refl refl has) few
change_keeps t (changes.FileRemoved at) tree is_path place few =
    let after = changed t (changes.FileRemoved at) in
    tree_of after (λ q has. placed_after_removal t after at (get-changed t (changes.FileRemoved at)) tree (leaf_childless t at tree place) q (is_same q at) refl has) few
change_keeps t (changes.FolderRemoved at) tree is_path place few =
    let parts = both (is_folder (entry_at t at) && not (is_root at)) (has_no_names (names_in t at)) place in
    let after = changed t (changes.FolderRemoved at) in
    tree_of after (λ q has. placed_after_removal t after at (get-changed t (changes.FolderRemoved at)) tree (childless t at parts.1) q (is_same q at) refl has) few
