-- Torn bytes change the kind of no entry, so what a crash leaves of a tree is a tree.
use Rattle.std.proofs.Common.{◌≡◌, ℕ, ◌<◌, ◌^◌, Bool, true, false, cond, List, [], ◌∷◌, ◌++◌, Option, Some, None, is_some, map, length, drop, refl, sym, ap, ap₂, subst, ◌∙◌}
use Rattle.std.specs.Prelude.{◌&&◌, T}
use Rattle.std.specs.Option.{option_map}
use Rattle.std.specs.Ordering.{eq_by_cmp, is_lt}
use Rattle.std.specs.FinMap.{FinMap, contains_key, entries, entries_sorted, entries-from_sorted, find, from_sorted, get, get-entries, get-from_sorted, is_sorted, keys, len, len-entries, same_map}
use Rattle.std.specs.FinMap.Entries.{below_all}
use Rattle.std.proofs.lemmas.List.{length-map}
use Rattle.path_name.specs.Orders.{path_cmp, path_cmp_exact, path_cmp_total}
use Rattle.path_name.specs.Paths.{without_last}
use Rattle.tree_dev.specs.Trees.{FileTree, IsTree, behind, entry_at, has_folder, is_folder, kind_of}
use Rattle.tree_dev.specs.Changes.{IsTorn, entry_after}
use Rattle.tree_dev.specs.Disk.{Disk, IsImage, IsLeftByAll, IsOnDisk, made}
use Rattle.tree_dev.specs.declared.change.Change.{Change}
use Rattle.tree_dev.specs.declared.change.Change.TheVariants as changes
use Rattle.tree_dev.specs.declared.entry.Entry.{Entry}
use Rattle.tree_dev.specs.declared.entry.Entry.TheVariants as entries_of
use Rattle.tree_dev.specs.declared.entry.Kind.{Kind}
use Rattle.tree_dev.specs.declared.entry.Kind.TheVariants as kinds
use Rattle.tree_dev.proofs.Changed.{get-changed}
use Rattle.tree_dev.proofs.SamePaths.{is_same}

-- ---- maps with the same keys

abbrev Marks : Type 0
Marks = List (List (List ℕ) × Unit {0})

-- the path of an entry alone
abbrev mark : List (List ℕ) × Entry → List (List ℕ) × Unit {0}
mark e = (e.0, tt)

abbrev seen : Entry → Unit {0}
seen entry = tt

find-marks : (es : List (List (List ℕ) × Entry)) (q : List (List ℕ)) → find path_cmp q (map mark es) ≡ option_map seen (find path_cmp q es)
find-marks [] q = refl
find-marks (e ∷ es) q = by_same (eq_by_cmp path_cmp q e.0) (find-marks es q)
  where
    by_same : (b : Bool) → find path_cmp q (map mark es) ≡ option_map seen (find path_cmp q es)
        → cond b (Some tt) (find path_cmp q (map mark es)) ≡ option_map seen (cond b (Some e.1) (find path_cmp q es))
    by_same true more = refl
    by_same false more = more

below_marks : (path : List (List ℕ)) (es : List (List (List ℕ) × Entry)) → below_all path_cmp path (map mark es) ≡ below_all path_cmp path es
below_marks path [] = refl
below_marks path (e ∷ es) = ap (λ b. is_lt (path_cmp path e.0) && b) (below_marks path es)

sorted_marks : (es : List (List (List ℕ) × Entry)) → is_sorted path_cmp (map mark es) ≡ is_sorted path_cmp es
sorted_marks [] = refl
sorted_marks (e ∷ es) = ap₂ (λ a b. a && b) (below_marks e.0 es) (sorted_marks es)

same_mark : (a b : Option Entry) → is_some a ≡ is_some b → option_map seen a ≡ option_map seen b
same_mark None None e = refl
same_mark None (Some y) e = absurd cc
same_mark (Some x) None e = absurd cc
same_mark (Some x) (Some y) e = refl

same_marks : (t u : FileTree) → ((q : List (List ℕ)) → contains_key t q ≡ contains_key u q) → ◌≡◌ {A = Marks} (map mark (entries t)) (map mark (entries u))
same_marks t u same = sym (entries-from_sorted path_cmp (map mark (entries t)) (is_marked t)) ∙ ap entries maps ∙ entries-from_sorted path_cmp (map mark (entries u)) (is_marked u)
  where
    is_marked : (m : FileTree) → T (is_sorted path_cmp (map mark (entries m)))
    is_marked m = subst T (sym (sorted_marks (entries m))) (entries_sorted m)

    gets : (m : FileTree) (q : List (List ℕ)) → get (from_sorted {R = path_cmp} (map mark (entries m))) q ≡ option_map seen (get m q)
    gets m q = get-from_sorted path_cmp (map mark (entries m)) q (is_marked m) ∙ find-marks (entries m) q ∙ ap (option_map seen) (sym (get-entries m q))

    maps : ◌≡◌ {A = FinMap path_cmp (Unit {0})} (from_sorted (map mark (entries t))) (from_sorted (map mark (entries u)))
    maps = same_map path_cmp_total path_cmp_exact _ _ (λ q. gets t q ∙ same_mark (get t q) (get u q) (same q) ∙ sym (gets u q))

pub same_len : (t u : FileTree) → ((q : List (List ℕ)) → contains_key t q ≡ contains_key u q) → len t ≡ len u
same_len t u same = len-entries t ∙ sym (length-map (entries t) mark) ∙ ap length (same_marks t u same) ∙ length-map (entries u) mark ∙ sym (len-entries u)

-- the paths of marks
marked_paths : Marks → List (List (List ℕ))
marked_paths marks = map (λ m. m.0) marks

paths_of_marks : (es : List (List (List ℕ) × Entry)) → marked_paths (map mark es) ≡ map (λ e. e.0) es
unfolding marked_paths
paths_of_marks [] = refl
paths_of_marks (e ∷ es) = ap (λ l. e.0 ∷ l) (paths_of_marks es)

pub same_paths : (t u : FileTree) → ((q : List (List ℕ)) → contains_key t q ≡ contains_key u q) → keys t ≡ keys u
same_paths t u same = sym (paths_of_marks (entries t)) ∙ ap marked_paths (same_marks t u same) ∙ paths_of_marks (entries u)

-- ---- trees of the same kinds of entries

abbrev pub HasSameKinds : FileTree → FileTree → Type 0
HasSameKinds t u = (q : List (List ℕ)) → kind_of (get t q) ≡ kind_of (get u q)

is_there : Kind → Bool
is_there kinds.Absent = false
is_there kinds.File = true
is_there kinds.Folder = true
is_there kinds.Other = true

is_folder_kind : Kind → Bool
is_folder_kind kinds.Absent = false
is_folder_kind kinds.File = false
is_folder_kind kinds.Folder = true
is_folder_kind kinds.Other = false

there : (o : Option Entry) → is_there (kind_of o) ≡ is_some o
unfolding is_there
there None = refl
there (Some (entries_of.File bytes)) = refl
there (Some entries_of.Folder) = refl
there (Some entries_of.Other) = refl

folder : (o : Option Entry) → is_folder_kind (kind_of o) ≡ is_folder o
unfolding is_folder_kind
folder None = refl
folder (Some (entries_of.File bytes)) = refl
folder (Some entries_of.Folder) = refl
folder (Some entries_of.Other) = refl

module _ (t u : FileTree) (same : HasSameKinds t u) where
  pub same_keys : (q : List (List ℕ)) → contains_key t q ≡ contains_key u q
  same_keys q = sym (there (get t q)) ∙ ap is_there (same q) ∙ there (get u q)

  same_folder : (p : List (List ℕ)) → is_folder (entry_at t p) ≡ is_folder (entry_at u p)
  same_folder [] = refl
  same_folder (segment ∷ rest) = sym (folder (get t (segment ∷ rest))) ∙ ap is_folder_kind (same (segment ∷ rest)) ∙ folder (get u (segment ∷ rest))

  same_above : (up : Option (List (List ℕ))) → has_folder t up ≡ has_folder u up
  same_above None = refl
  same_above (Some p) = same_folder p

  pub same_tree : IsTree t → IsTree u
  same_tree tree = record {
    paths = λ q has. tree.paths q (same_keys q ∙ has);
    below_folders = λ q has. sym (same_above (without_last q)) ∙ tree.below_folders q (same_keys q ∙ has);
    few = subst (λ n. n < 2 ^ 32) (same_len t u same_keys) tree.few;
  }

-- ---- torn changes

module _ (t u : FileTree) (same : HasSameKinds t u) where
  at_one : (at q : List (List ℕ)) (a b : Option Entry) → kind_of a ≡ kind_of b → kind_of (cond (is_same q at) a (get t q)) ≡ kind_of (cond (is_same q at) b (get u q))
  at_one at q a b new = by_same (is_same q at)
    where
      by_same : (s : Bool) → kind_of (cond s a (get t q)) ≡ kind_of (cond s b (get u q))
      by_same true = new
      by_same false = same q

  renamed_kinds : (from to q : List (List ℕ)) (above left : Option (List (List ℕ))) → behind to q ≡ above → behind from q ≡ left
      → kind_of (entry_after t (changes.Renamed from to) q) ≡ kind_of (entry_after u (changes.Renamed from to) q)
  renamed_kinds from to q (Some rest) left e f = rw e (same (from ++ rest))
  renamed_kinds from to q None (Some rest) e f = rw (e, f) refl
  renamed_kinds from to q None None e f = rw (e, f) (same q)

  after_same : (change : Change) (q : List (List ℕ)) → kind_of (entry_after t change q) ≡ kind_of (entry_after u change q)
  after_same (changes.Written at bytes) q = at_one at q (Some (entries_of.File bytes)) (Some (entries_of.File bytes)) refl
  after_same (changes.FolderMade at) q = at_one at q (Some entries_of.Folder) (Some entries_of.Folder) refl
  after_same (changes.Renamed from to) q = renamed_kinds from to q (behind to q) (behind from q) refl refl
  after_same (changes.FileRemoved at) q = at_one at q None None refl
  after_same (changes.FolderRemoved at) q = at_one at q None None refl

  after_torn : (change torn : Change) → IsTorn change torn → (q : List (List ℕ)) → kind_of (entry_after t change q) ≡ kind_of (entry_after u torn q)
  after_torn (changes.Written at bytes) torn is q =
      at_one at q (Some (entries_of.File bytes)) (Some (entries_of.File is.0)) refl ∙ ap (λ (c : Change). kind_of (entry_after u c q)) (sym is.1)
  after_torn (changes.FolderMade at) torn is q = after_same (changes.FolderMade at) q ∙ ap (λ (c : Change). kind_of (entry_after u c q)) (sym is)
  after_torn (changes.Renamed from to) torn is q = after_same (changes.Renamed from to) q ∙ ap (λ (c : Change). kind_of (entry_after u c q)) (sym is)
  after_torn (changes.FileRemoved at) torn is q = after_same (changes.FileRemoved at) q ∙ ap (λ (c : Change). kind_of (entry_after u c q)) (sym is)
  after_torn (changes.FolderRemoved at) torn is q = after_same (changes.FolderRemoved at) q ∙ ap (λ (c : Change). kind_of (entry_after u c q)) (sym is)

pub left_same_kinds : (base left : FileTree) (pending : List Change) → IsLeftByAll base pending left → HasSameKinds (made base pending) left
unfolding made IsLeftByAll
left_same_kinds base left [] applied q = ap (λ (t : FileTree). kind_of (get t q)) (sym applied)
left_same_kinds base left (latest ∷ earlier) applied q =
    let leaves = applied.2 in
    ap kind_of (get-changed (made base earlier) latest q)
    ∙ after_torn (made base earlier) applied.0 (left_same_kinds base applied.0 earlier applied.1) latest leaves.torn leaves.is_torn q
    ∙ ap kind_of (sym (get-changed applied.0 leaves.torn q)) ∙ ap (λ (t : FileTree). kind_of (get t q)) (sym leaves.after)

pub image_is_tree : (d : Disk) (t left : FileTree) → IsOnDisk d t → IsImage d left → IsTree left
image_is_tree d t left on image =
    same_tree (made d.base (drop image.lost d.pending)) left (left_same_kinds d.base left (drop image.lost d.pending) image.applied) (on.trees image.lost)
