-- A tree that has the entries of one tree at some paths, and those of another at all others.
use Rattle.std.proofs.Common.{◌≡◌, ℕ, Bool, true, false, cond, List, [], ◌∷◌, ◌++◌, Option, Some, None, refl, sym, ap, ◌∙◌}
use Rattle.std.specs.Prelude.{not}
use Rattle.std.specs.FinMap.{entries, from_entries, get, get-entries, get-from_entries, get-retain_keys, retain_keys}
use Rattle.std.specs.FinMap.Entries as maps
use Rattle.std.specs.Option.{option_or}
use Rattle.std.specs.Ordering.{eq_by_cmp, is_eq}
use Rattle.path_name.specs.Orders.{path_cmp, path_cmp_total}
use Rattle.tree_dev.specs.Trees.{FileTree}
use Rattle.tree_dev.specs.declared.entry.Entry.{Entry}
use Rattle.tree_dev.proofs.SamePaths.{same_path}

find_either : (q : List (List ℕ)) (xs ys : List (List (List ℕ) × Entry)) → maps.find path_cmp q (xs ++ ys) ≡ option_or (maps.find path_cmp q xs) (maps.find path_cmp q ys)
find_either q [] ys = refl
find_either q (x ∷ xs) ys = by (eq_by_cmp path_cmp q x.0) (find_either q xs ys)
  where
    by : (b : Bool) → maps.find path_cmp q (xs ++ ys) ≡ option_or (maps.find path_cmp q xs) (maps.find path_cmp q ys)
        → cond b (Some x.1) (maps.find path_cmp q (xs ++ ys)) ≡ option_or (cond b (Some x.1) (maps.find path_cmp q xs)) (maps.find path_cmp q ys)
    by true rest = refl
    by false rest = rest

kept : (t : FileTree) (test : List (List ℕ) → Bool) (q : List (List ℕ)) → maps.find path_cmp q (entries (retain_keys t test)) ≡ cond (test q) (get t q) None
kept t test q = sym (get-entries (retain_keys t test) q) ∙ get-retain_keys t test q (λ x tied. ap test (sym (same_path q x (ap is_eq tied))))

module _ (inside : List (List ℕ) → Bool) (first second : FileTree) where
  abbrev pub merged : FileTree
  merged = from_entries (entries (retain_keys first inside) ++ entries (retain_keys second (λ path. not (inside path))))

  one_of : (b : Bool) (x y : Option Entry) → option_or (cond b x None) (cond (not b) y None) ≡ cond b x y
  one_of true None y = refl
  one_of true (Some x) y = refl
  one_of false x y = refl

  pub get_merged : (q : List (List ℕ)) → get merged q ≡ cond (inside q) (get first q) (get second q)
  get_merged q =
      let front = entries (retain_keys first inside) in
      let rest = entries (retain_keys second (λ path. not (inside path))) in
      get-from_entries path_cmp_total (front ++ rest) q ∙ find_either q front rest ∙ ap (λ (x : Option Entry). option_or x (maps.find path_cmp q rest)) (kept first inside q)
      ∙ ap (λ (y : Option Entry). option_or (cond (inside q) (get first q) None) y) (kept second (λ path. not (inside path)) q) ∙ one_of (inside q) (get first q) (get second q)
