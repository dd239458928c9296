-- What a `BTreeMap` of paths says of the finite map that it is seen as.
use Rattle.std.proofs.Common.{◌≡◌, Bool, true, false, cond, List, [], ◌∷◌, ◌++◌, ℕ, Option, Some, None, length, ◌+◌, ◌≤◌, refl, sym, ap, ◌∙◌, arith}
use Rattle.std.specs.Map.{lookup}
use Rattle.std.specs.BTreeMap.{is_at}
use Rattle.std.specs.Cmp.{eq_by_cmp_equiv}
use Rattle.std.specs.Option.{option_map}
use Rattle.std.specs.FinMap.{get, insert, remove, get-empty, get-insert, get-remove, same_map, len, len-empty, len-insert, contains_key}
use Rattle.path_name.specs.Orders.{path_cmp, path_cmp_total, path_cmp_exact}
use Rattle.path_name.specs.Paths.{EndsWith}
use Rattle.tree_dev.specs.Trees.{FileTree, entry_at, kind_of, kind_at, read_of, read_at}
use Rattle.tree_dev.specs.Stored.{entry_of, tree_of}
use Rattle.tree_dev.specs.declared.stored.Stored.{Stored}
use Rattle.tree_dev.specs.declared.entry.Entry.{Entry}
use Rattle.tree_dev.specs.declared.entry.Kind.TheVariants as kinds
use Rattle.tree_dev.specs.declared.entry.ReadAnswer.TheVariants as answers

-- what a list of entries has at a path
abbrev pub found : List (List (List ℕ) × Stored) → List (List ℕ) → Option Stored
found entries path = lookup (is_at (path_cmp path)) entries

chosen : (b : Bool) (x : Stored) (rest : Option Stored) → cond b (Some (entry_of x)) (option_map entry_of rest) ≡ option_map entry_of (cond b (Some x) rest)
chosen true x rest = refl
chosen false x rest = refl

dropped : (b : Bool) (rest : Option Stored) → cond b None (option_map entry_of rest) ≡ option_map entry_of (cond b None rest)
dropped true rest = refl
dropped false rest = refl

-- what the map that the entries make has at a path
pub get_path : (entries : List (List (List ℕ) × Stored)) (path : List (List ℕ)) → get (tree_of entries) path ≡ option_map entry_of (found entries path)
get_path [] path = get-empty path_cmp path
get_path (e ∷ rest) path =
    get-insert path_cmp_total (tree_of rest) e.0 (entry_of e.1) path ∙ ap (cond (is_at (path_cmp path) e.0) (Some (entry_of e.1))) (get_path rest path)
    ∙ chosen (is_at (path_cmp path) e.0) e.1 (found rest path)

-- entries that differ at one path make maps that differ there
pub one_put : (old new : List (List (List ℕ) × Stored)) (path : List (List ℕ)) (entry : Stored)
    → ((q : List (List ℕ)) → found new q ≡ cond (is_at (path_cmp path) q) (Some entry) (found old q))
    → tree_of new ≡ insert (tree_of old) path (entry_of entry)
one_put old new path entry h = same_map path_cmp_total path_cmp_exact _ _ (λ q.
    get_path new q ∙ ap (option_map entry_of) (h q) ∙ sym (chosen (is_at (path_cmp path) q) entry (found old q))
    ∙ ap (λ b. cond b (Some (entry_of entry)) (option_map entry_of (found old q))) ((eq_by_cmp_equiv path_cmp_total).symm path q)
    ∙ sym (get-insert path_cmp_total (tree_of old) path (entry_of entry) q ∙ ap (cond (is_at (path_cmp q) path) (Some (entry_of entry))) (get_path old q)))

pub one_removed : (old new : List (List (List ℕ) × Stored)) (path : List (List ℕ))
    → ((q : List (List ℕ)) → found new q ≡ cond (is_at (path_cmp path) q) None (found old q))
    → tree_of new ≡ remove (tree_of old) path
one_removed old new path h = same_map path_cmp_total path_cmp_exact _ _ (λ q.
    get_path new q ∙ ap (option_map entry_of) (h q) ∙ sym (dropped (is_at (path_cmp path) q) (found old q))
    ∙ ap (λ b. cond b None (option_map entry_of (found old q))) ((eq_by_cmp_equiv path_cmp_total).symm path q)
    ∙ sym (get-remove path_cmp_total (tree_of old) path q ∙ ap (cond (is_at (path_cmp q) path) None) (get_path old q)))

no_end : (front : List (List ℕ)) (segment : List ℕ) → ◌≡◌ {A = List (List ℕ)} [] (front ++ segment ∷ []) → ⊥
no_end [] segment e = cc
no_end (x ∷ xs) segment e = cc

-- below the root, what stands at a path is what the map has
pub below_root : (t : FileTree) (path : List (List ℕ)) (segment : List ℕ) → EndsWith path segment → entry_at t path ≡ get t path
below_root t [] segment ends = absurd (no_end ends.0 segment ends.1)
below_root t (first ∷ rest) segment ends = refl

pub kind_below : (t : FileTree) (path : List (List ℕ)) (segment : List ℕ) → EndsWith path segment → kind_at t path ≡ kind_of (get t path)
unfolding kind_at
kind_below t path segment ends = ap kind_of (below_root t path segment ends)

pub kind_root : (t : FileTree) (path : List (List ℕ)) → path ≡ [] → kind_at t path ≡ kinds.Folder
unfolding kind_at
kind_root t path root = ap (λ p. kind_of (entry_at t p)) root

pub read_below : (t : FileTree) (path : List (List ℕ)) (segment : List ℕ) (most : ℕ) → EndsWith path segment → read_at t path most ≡ read_of most (get t path)
unfolding read_at
read_below t path segment most ends = ap (read_of most) (below_root t path segment ends)

pub read_root : (t : FileTree) (path : List (List ℕ)) (most : ℕ) → path ≡ [] → read_at t path most ≡ answers.NotFile
unfolding read_at
read_root t path most root = ap (λ p. read_of most (entry_at t p)) root

grown : (b : Bool) (n most : ℕ) → n ≤ most → cond b n (n + 1) ≤ most + 1
grown true n most le = omega arith
grown false n most le = omega arith

-- a map has no more entries than the list that makes it
pub len-tree_of : (entries : List (List (List ℕ) × Stored)) → len (tree_of entries) ≤ length entries
len-tree_of [] = rw (len-empty path_cmp Entry) (omega arith)
len-tree_of (e ∷ rest) =
    rw (len-insert path_cmp_total (tree_of rest) e.0 (entry_of e.1)) (
    let le = grown (contains_key (tree_of rest) e.0) (len (tree_of rest)) (length rest) (len-tree_of rest) in
    omega (arith, le))
