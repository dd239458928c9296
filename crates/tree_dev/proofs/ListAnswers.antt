-- What a listing answers.
use Rattle.std.proofs.Common.{◌≡◌, ℕ, suc, ◌-◌, ◌<◌, ◌≤◌, ◌^◌, Bool, true, false, List, [], ◌∷◌, length, map, Option, Some, None, is_some, refl, ap, arith}
use Rattle.std.proofs.lemmas.Bool.{lt-ltb, ltb-true}
use Rattle.std.specs.List.{filter_map, cons_option}
use Rattle.std.specs.FinMap.{entries, keys, len-entries}
use Rattle.std.specs.Prelude.{nat_lt}
use Rattle.tree_dev.specs.Trees.{FileTree, IsTree, ListsNames, behind, entry_at, is_folder, list_at, list_of, names_in, one_segment}
use Rattle.tree_dev.specs.declared.entry.Entry.{Entry}
use Rattle.tree_dev.specs.declared.entry.Entry.TheVariants as kinds
use Rattle.tree_dev.specs.declared.entry.ListAnswer.TheVariants as listings
use Rattle.tree_dev.proofs.NamesIn.{names_are_listing}

module _ (t : FileTree) (at : List (List ℕ)) (most : ℕ) where
  none_case : (present : Option Entry) → is_some present ≡ false → listings.Absent ≡ list_of t at most present
  none_case None e = refl
  none_case (Some x) e = absurd cc

  leaf_case : (present : Option Entry) → is_some present ≡ true → is_folder present ≡ false → listings.NotFolder ≡ list_of t at most present
  leaf_case None e h = absurd cc
  leaf_case (Some (kinds.File bytes)) e h = refl
  leaf_case (Some kinds.Folder) e h = absurd cc
  leaf_case (Some kinds.Other) e h = refl

  many_case : (present : Option Entry) → is_folder present ≡ true → nat_lt most (length (names_in t at)) ≡ true → listings.TooMany ≡ list_of t at most present
  many_case None e h = absurd cc
  many_case (Some (kinds.File bytes)) e h = absurd cc
  many_case (Some kinds.Folder) e h = rw h refl
  many_case (Some kinds.Other) e h = absurd cc

  names_case : (present : Option Entry) → is_folder present ≡ true → nat_lt most (length (names_in t at)) ≡ false → listings.Names (names_in t at) ≡ list_of t at most present
  names_case None e h = absurd cc
  names_case (Some (kinds.File bytes)) e h = absurd cc
  names_case (Some kinds.Folder) e h = rw h refl
  names_case (Some kinds.Other) e h = absurd cc

  pub absent_listed : is_some (entry_at t at) ≡ false → listings.Absent ≡ list_at t at most
  unfolding list_at
  absent_listed e = none_case (entry_at t at) e

  pub leaf_listed : is_some (entry_at t at) ≡ true → is_folder (entry_at t at) ≡ false → listings.NotFolder ≡ list_at t at most
  unfolding list_at
  leaf_listed e h = leaf_case (entry_at t at) e h

  pub many_listed : is_folder (entry_at t at) ≡ true → most < length (names_in t at) → listings.TooMany ≡ list_at t at most
  unfolding list_at
  many_listed e lt = many_case (entry_at t at) e (lt-ltb most (length (names_in t at)) lt)

  not_less : (b : Bool) → nat_lt most (length (names_in t at)) ≡ b → length (names_in t at) ≤ most → b ≡ false
  not_less true e le = absurd (let lt = ltb-true most (length (names_in t at)) e in omega (arith, lt, le))
  not_less false e le = refl

  pub names_listed : is_folder (entry_at t at) ≡ true → length (names_in t at) ≤ most → listings.Names (names_in t at) ≡ list_at t at most
  unfolding list_at
  names_listed e le = names_case (entry_at t at) e (not_less (nat_lt most (length (names_in t at))) refl le)

  -- what is known of every answer
  of_case : IsTree t → (present : Option Entry) (b : Bool) → nat_lt most (length (names_in t at)) ≡ b → ListsNames (list_of t at most present)
  of_case tree None b e = tt
  of_case tree (Some (kinds.File bytes)) b e = tt
  of_case tree (Some kinds.Folder) true e = rw e tt
  of_case tree (Some kinds.Folder) false e = rw e (names_are_listing t at tree)
  of_case tree (Some kinds.Other) b e = tt

  pub lists_names : IsTree t → ListsNames (list_at t at most)
  unfolding list_at
  lists_names tree = of_case tree (entry_at t at) (nat_lt most (length (names_in t at))) refl

one_more : {B : Type 0} (o : Option B) (ys : List B) (n : ℕ) → length ys ≤ n → length (cons_option o ys) ≤ suc n
one_more None ys n le = omega (arith, le)
one_more (Some b) ys n le = omega (arith, le)

shorter_map : {A B : Type 0} (h : A → Option B) (xs : List A) → length (filter_map h xs) ≤ length xs
shorter_map h [] = omega arith
shorter_map h (x ∷ xs) = one_more (h x) (filter_map h xs) (length xs) (shorter_map h xs)

length_keys : (es : List (List (List ℕ) × Entry)) → length (map (λ e. e.0) es) ≡ length es
length_keys [] = refl
length_keys (e ∷ es) = ap suc (length_keys es)

-- a folder of a tree has fewer than 2^32 names
pub few_names : (t : FileTree) (at : List (List ℕ)) → IsTree t → length (names_in t at) < 2 ^ 32
unfolding names_in
few_names t at tree =
    let le = shorter_map (λ path. one_segment (behind at path)) (keys t) in
    let k = length_keys (entries t) in
    let n = len-entries t in
    omega (arith, le, k, n, tree.few)

many_has : (t : FileTree) (at : List (List ℕ)) (most : ℕ) (present : Option Entry) (b : Bool) → nat_lt most (length (names_in t at)) ≡ b → list_of t at most present ≡ listings.TooMany → b ≡ true
many_has t at most None b e h = absurd cc
many_has t at most (Some (kinds.File bytes)) b e h = absurd cc
many_has t at most (Some kinds.Folder) true e h = refl
many_has t at most (Some kinds.Folder) false e h = absurd (let l : listings.Names (names_in t at) ≡ listings.TooMany = rw e at h in cc)
many_has t at most (Some kinds.Other) b e h = absurd cc

pub not_many : (t : FileTree) (at : List (List ℕ)) (most : ℕ) → IsTree t → most ≡ 2 ^ 32 - 1 → list_at t at most ≡ listings.TooMany → ⊥
unfolding list_at
not_many t at most tree is e =
    let lt = ltb-true most (length (names_in t at)) (many_has t at most (entry_at t at) (nat_lt most (length (names_in t at))) refl e) in
    let few = few_names t at tree in
    absurd (omega (arith, lt, few, is))
