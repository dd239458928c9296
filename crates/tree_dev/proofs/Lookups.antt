-- What a tree has after a put.
use Rattle.std.proofs.Common.{◌≡◌, ℕ, List, [], ◌∷◌, Option, Some, None, Bool, true, false, ◌||◌, cond, refl, ap, ◌∙◌}
use Rattle.std.specs.List.{list_any}
use Rattle.std.specs.Ordering.{is_eq, eq_by_cmp}
use Rattle.std.specs.FinMap.{get, get-insert, get_tied}
use Rattle.path_name.specs.Orders.{path_cmp, path_cmp_total}
use Rattle.tree_dev.specs.Trees.{FileTree}
use Rattle.tree_dev.specs.Memory.{above, or_folder, with_folders, put_in, filled}
use Rattle.tree_dev.specs.declared.entry.Entry.{Entry}
use Rattle.tree_dev.specs.declared.entry.Entry.TheVariants as entries
use Rattle.tree_dev.specs.Told.{equal_of}

pub filled_false : (present : Option Entry) → present ≡ filled present false
filled_false None = refl
filled_false (Some x) = refl

filled_twice : (present : Option Entry) (a b : Bool) → filled (filled present a) b ≡ filled present (a || b)
filled_twice (Some x) a b = refl
filled_twice None true b = refl
filled_twice None false b = refl

-- where two paths tie, the map has the same
tied : (t : FileTree) (q path : List (List ℕ)) → is_eq (path_cmp q path) ≡ true → get t path ≡ get t q
tied t q path e = get_tied path_cmp_total t q path (equal_of (path_cmp q path) e)

inserted : (t : FileTree) (path q : List (List ℕ)) (b : Bool) → is_eq (path_cmp q path) ≡ b → get t path ≡ None
    → cond b (Some entries.Folder) (get t q) ≡ filled (get t q) b
inserted t path q true e none = let same = tied t q path e in rw (← same, none) refl
inserted t path q false e none = filled_false (get t q)

present : (t : FileTree) (path q : List (List ℕ)) (x : Entry) (b : Bool) → is_eq (path_cmp q path) ≡ b → get t path ≡ Some x → get t q ≡ filled (get t q) b
present t path q x true e some = let same = tied t q path e in rw (← same, some) refl
present t path q x false e some = filled_false (get t q)

one_folder : (t : FileTree) (path q : List (List ℕ)) (here : Option Entry) → get t path ≡ here
    → get (or_folder t path here) q ≡ filled (get t q) (is_eq (path_cmp q path))
one_folder t path q None e = get-insert path_cmp_total t path entries.Folder q ∙ inserted t path q (is_eq (path_cmp q path)) refl e
one_folder t path q (Some x) e = present t path q x (is_eq (path_cmp q path)) refl e

pub get-with_folders : (paths : List (List (List ℕ))) (t : FileTree) (q : List (List ℕ))
    → get (with_folders t paths) q ≡ filled (get t q) (list_any (eq_by_cmp path_cmp q) paths)
get-with_folders [] t q = filled_false (get t q)
get-with_folders (path ∷ paths) t q =
    get-with_folders paths (or_folder t path (get t path)) q
    ∙ ap (λ o. filled o (list_any (eq_by_cmp path_cmp q) paths)) (one_folder t path q (get t path) refl)
    ∙ filled_twice (get t q) (is_eq (path_cmp q path)) (list_any (eq_by_cmp path_cmp q) paths)

pub get-put_in : (t : FileTree) (path : List (List ℕ)) (new : Entry) (q : List (List ℕ))
    → get (put_in t path new) q ≡ cond (is_eq (path_cmp q path)) (Some new) (filled (get t q) (list_any (eq_by_cmp path_cmp q) (above path)))
unfolding put_in
get-put_in t path new q =
    get-insert path_cmp_total (with_folders t (above path)) path new q
    ∙ ap (cond (is_eq (path_cmp q path)) (Some new)) (get-with_folders (above path) t q)
