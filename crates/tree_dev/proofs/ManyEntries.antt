-- Many entries that are put or taken away.
use Rattle.std.proofs.Common.{◌≡◌, ℕ, zero, suc, Bool, true, false, cond, ◌||◌, List, [], ◌∷◌, ◌++◌, take, Option, Some, None, refl, sym, ap, ◌∙◌, drop, get_or, length, ◌+◌, ◌<◌, ◌≤◌}
use Rattle.std.proofs.lemmas.List.{at_drop_more, at_drop_all, take_more}
use Rattle.std.specs.FinMap.{get, insert, remove, get-insert, get-remove, same_map}
use Rattle.path_name.specs.Orders.{path_cmp_total, path_cmp_exact}
use Rattle.tree_dev.specs.Trees.{FileTree}
use Rattle.tree_dev.specs.Moves.{with_all, without_all, paths_of, is_among}
use Rattle.tree_dev.specs.Placing.{AreFolders}
use Rattle.tree_dev.specs.Stored.{entry_of}
use Rattle.tree_dev.specs.declared.moves.Placed.{Placed}
use Rattle.tree_dev.specs.declared.entry.Entry.{Entry}
use Rattle.tree_dev.specs.declared.entry.Entry.TheVariants as entries
use Rattle.tree_dev.proofs.SamePaths.{is_same}

-- one more at the end
pub with_all-snoc : (ps : List Placed) (t : FileTree) (p : Placed) → with_all t (ps ++ p ∷ []) ≡ insert (with_all t ps) p.at (entry_of p.entry)
unfolding with_all
with_all-snoc [] t p = refl
with_all-snoc (q ∷ ps) t p = with_all-snoc ps (insert t q.at (entry_of q.entry)) p

paths_of-snoc : (ps : List Placed) (p : Placed) → paths_of (ps ++ p ∷ []) ≡ paths_of ps ++ p.at ∷ []
paths_of-snoc [] p = refl
paths_of-snoc (q ∷ ps) p = ap (λ r. q.at ∷ r) (paths_of-snoc ps p)

any_one : (b : Bool) → (b || false) ≡ b
any_one true = refl
any_one false = refl

or_assoc : (a b c : Bool) → (a || b || c) ≡ (a || (b || c))
or_assoc true b c = refl
or_assoc false b c = refl

pub among-snoc : (ps : List Placed) (p : Placed) (q : List (List ℕ)) → is_among q (paths_of (ps ++ p ∷ [])) ≡ (is_among q (paths_of ps) || is_same q p.at)
among-snoc [] p q = any_one (is_same q p.at)
among-snoc (x ∷ ps) p q = ap (λ b. is_same q x.at || b) (among-snoc ps p q) ∙ sym (or_assoc (is_same q x.at) (is_among q (paths_of ps)) (is_same q p.at))

pub are_folders-snoc : (ps : List Placed) (p : Placed) → AreFolders ps → AreFolders (p ∷ []) → AreFolders (ps ++ p ∷ [])
are_folders-snoc [] p all one = one
are_folders-snoc (x ∷ ps) p all one = (all.0, are_folders-snoc ps p all.1 one)

-- what stands at a path where many paths were emptied
gone : (a b : Bool) (x : Option Entry) → cond b None (cond a None x) ≡ cond (a || b) None x
gone true true x = refl
gone true false x = refl
gone false b x = refl

pub get-without_all : (paths : List (List (List ℕ))) (t : FileTree) (q : List (List ℕ)) → get (without_all t paths) q ≡ cond (is_among q paths) None (get t q)
unfolding without_all
get-without_all [] t q = refl
get-without_all (p ∷ paths) t q =
    get-without_all paths (remove t p) q ∙ ap (cond (is_among q paths) None) (get-remove path_cmp_total t p q) ∙ gone (is_same q p) (is_among q paths) (get t q)

-- where nothing was put, what was there stays
pub get-with_all_other : (ps : List Placed) (t : FileTree) (q : List (List ℕ)) → is_among q (paths_of ps) ≡ false → get (with_all t ps) q ≡ get t q
unfolding with_all
get-with_all_other [] t q e = refl
get-with_all_other (p ∷ ps) t q e = step (is_same q p.at) refl e (get-with_all_other ps (insert t p.at (entry_of p.entry)) q)
  where
    step : (b : Bool) → is_same q p.at ≡ b → (b || is_among q (paths_of ps)) ≡ false
        → (is_among q (paths_of ps) ≡ false → get (with_all (insert t p.at (entry_of p.entry)) ps) q ≡ get (insert t p.at (entry_of p.entry)) q)
        → get (with_all (insert t p.at (entry_of p.entry)) ps) q ≡ get t q
    step true same e more = absurd cc
    step false same e more = more e ∙ get-insert path_cmp_total t p.at (entry_of p.entry) q ∙ rw same refl

-- folders that were put
pub get-with_folders_all : (ps : List Placed) (t : FileTree) (q : List (List ℕ)) → AreFolders ps → is_among q (paths_of ps) ≡ true → get (with_all t ps) q ≡ Some entries.Folder
unfolding with_all
get-with_folders_all [] t q all e = absurd cc
get-with_folders_all (p ∷ ps) t q all e = step (is_among q (paths_of ps)) (is_same q p.at) refl refl (get-with_folders_all ps (insert t p.at (entry_of p.entry)) q all.1)
  where
    step : (a b : Bool) → is_among q (paths_of ps) ≡ a → is_same q p.at ≡ b
        → (is_among q (paths_of ps) ≡ true → get (with_all (insert t p.at (entry_of p.entry)) ps) q ≡ Some entries.Folder)
        → get (with_all (insert t p.at (entry_of p.entry)) ps) q ≡ Some entries.Folder
    step true b among same more = more among
    step false true among same more =
        get-with_all_other ps (insert t p.at (entry_of p.entry)) q among ∙ get-insert path_cmp_total t p.at (entry_of p.entry) q ∙ rw same (ap (λ x. Some (entry_of x)) all.0)
    step false false among same more = absurd (let n : (is_same q p.at || is_among q (paths_of ps)) ≡ false = rw (same, among) refl in cc)

-- among the first ones, among all
among_take : (n : ℕ) (ps : List Placed) (q : List (List ℕ)) → is_among q (paths_of (take n ps)) ≡ true → is_among q (paths_of ps) ≡ true
among_take zero ps q e = absurd cc
among_take (suc n) [] q e = absurd cc
among_take (suc n) (p ∷ ps) q e = step (is_same q p.at) refl e (among_take n ps q)
  where
    step : (b : Bool) → is_same q p.at ≡ b → (b || is_among q (paths_of (take n ps))) ≡ true → (is_among q (paths_of (take n ps)) ≡ true → is_among q (paths_of ps) ≡ true) → (is_same q p.at || is_among q (paths_of ps)) ≡ true
    step true same e more = rw same refl
    step false same e more = rw (same, more e) refl

undone_at : (ps : List Placed) (t : FileTree) (q : List (List ℕ)) (b : Bool) → is_among q (paths_of ps) ≡ b → (is_among q (paths_of ps) ≡ true → get t q ≡ None)
    → cond b None (get (with_all t ps) q) ≡ get t q
undone_at ps t q true e absent = sym (absent e)
undone_at ps t q false e absent = get-with_all_other ps t q e

-- what was put where nothing was, and taken away again, leaves the tree
pub undone : (ps : List Placed) (t : FileTree) → ((q : List (List ℕ)) → is_among q (paths_of ps) ≡ true → get t q ≡ None) → without_all (with_all t ps) (paths_of ps) ≡ t
undone ps t absent = same_map path_cmp_total path_cmp_exact _ _ (λ q.
    get-without_all (paths_of ps) (with_all t ps) q ∙ undone_at ps t q (is_among q (paths_of ps)) refl (absent q))

pub undone_part : (n : ℕ) (ps : List Placed) (t : FileTree) → ((q : List (List ℕ)) → is_among q (paths_of ps) ≡ true → get t q ≡ None)
    → without_all (with_all t (take n ps)) (paths_of (take n ps)) ≡ t
undone_part n ps t absent = undone (take n ps) t (λ q e. absent q (among_take n ps q e))

-- steps of the loops
pub removed_step : (es : List Placed) (i : ℕ) (d : Placed) (t : FileTree) → d ≡ get_or es i d → i < length es
    → without_all (remove t d.at) (paths_of (drop (i + 1) es)) ≡ without_all t (paths_of (drop i es))
unfolding without_all
removed_step es i d t is lt =
    ap (λ p. without_all (remove t p.at) (paths_of (drop (i + 1) es))) is ∙ sym (at_drop_more (λ xs. without_all t (paths_of xs)) es i d lt)

pub removed_end : (es : List Placed) (i : ℕ) (t : FileTree) → length es ≤ i → t ≡ without_all t (paths_of (drop i es))
unfolding without_all
removed_end es i t le = sym (at_drop_all (λ xs. without_all t (paths_of xs)) es i le)

pub put_start : (t : FileTree) → t ≡ with_all t []
unfolding with_all
put_start t = refl

pub put_step : (es : List Placed) (i : ℕ) (d : Placed) (t now : FileTree) → d ≡ get_or es i d → i < length es → now ≡ with_all t (take i es)
    → insert now d.at (entry_of d.entry) ≡ with_all t (take (i + 1) es)
put_step es i d t now is lt same =
    ap (λ m. insert m d.at (entry_of d.entry)) same ∙ sym (with_all-snoc (take i es) t d)
    ∙ ap (λ p. with_all t (take i es ++ p ∷ [])) is ∙ ap (with_all t) (sym (take_more es i d lt))

pub path_step : (paths : List (List (List ℕ))) (i : ℕ) (d : List (List ℕ)) (t : FileTree) → d ≡ get_or paths i d → i < length paths
    → without_all (remove t d) (drop (i + 1) paths) ≡ without_all t (drop i paths)
unfolding without_all
path_step paths i d t is lt = ap (λ p. without_all (remove t p) (drop (i + 1) paths)) is ∙ sym (at_drop_more (λ xs. without_all t xs) paths i d lt)

pub path_end : (paths : List (List (List ℕ))) (i : ℕ) (t : FileTree) → length paths ≤ i → t ≡ without_all t (drop i paths)
unfolding without_all
path_end paths i t le = sym (at_drop_all (λ xs. without_all t xs) paths i le)
