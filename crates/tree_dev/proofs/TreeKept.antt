-- A put into a tree leaves a tree.
use Rattle.std.proofs.Common.{◌≡◌, ℕ, zero, suc, ◌-◌, ◌<◌, ◌≤◌, ◌^◌, List, [], ◌∷◌, length, take, Option, Some, None, Bool, true, false, ◌||◌, cond, is_some, refl, sym, ap, ◌∙◌, subst, inl, inr, nat_lt, arith}
use Rattle.std.proofs.lemmas.List.{length-take-le}
use Rattle.std.proofs.Math.Seq.{take-take, take-length}
use Rattle.std.proofs.Math.Nat.{eq-or-lt_of_le}
use Rattle.std.proofs.lemmas.Bool.{lt-ltb}
use Rattle.std.specs.List.{list_any, list_all}
use Rattle.std.specs.Ordering.{is_eq, eq_by_cmp}
use Rattle.std.proofs.lemmas.Cmp.{tied_itself}
use Rattle.std.specs.FinMap.{get, empty, get-empty, len-empty, contains_key, keys, len, contains_key-keys}
use Rattle.path_name.specs.Orders.{path_cmp, path_cmp_total}
use Rattle.path_name.specs.Paths.{IsPath, is_segment, without_last}
use Rattle.tree_dev.specs.Trees.{FileTree, entry_at, is_folder, has_folder, is_placed, is_tree, IsTree}
use Rattle.tree_dev.specs.Memory.{prefixes, above, put_in, filled, blocks, hides, is_misplaced}
use Rattle.tree_dev.specs.declared.entry.Entry.{Entry}
use Rattle.tree_dev.specs.declared.entry.Entry.TheVariants as entries
use Rattle.tree_dev.specs.Told.{one_of, both, equal_paths}
use Rattle.tree_dev.proofs.Lookups.{get-put_in, filled_false}

abbrev is_same : List (List ℕ) → List (List ℕ) → Bool
is_same q path = is_eq (path_cmp q path)

same_itself : (path : List (List ℕ)) → is_same path path ≡ true
same_itself path = ap is_eq (tied_itself path_cmp_total path)

-- a first part of a path, with n segments more than none
record IsFirstPart (n : ℕ) (path q : List (List ℕ)) : Type 0 where
  place : ℕ
  below : place < n
  part : q ≡ take (suc place) path

first_part : (n : ℕ) (path q : List (List ℕ)) → list_any (eq_by_cmp path_cmp q) (prefixes n path) ≡ true → IsFirstPart n path q
first_part zero path q e = absurd cc
first_part (suc n) path q e =
    elim (one_of (is_same q (take (suc n) path)) (list_any (eq_by_cmp path_cmp q) (prefixes n path)) e) [
      | inl same ↦ record { place = n; below = omega arith; part = equal_paths q (take (suc n) path) same }
      | inr rest ↦ let h = first_part n path q rest in record { place = h.place; below = omega arith; part = h.part }
    ]

true_or : (b : Bool) → (b || true) ≡ true
true_or true = refl
true_or false = refl

is_among : (n place : ℕ) (path : List (List ℕ)) → place < n → list_any (eq_by_cmp path_cmp (take (suc place) path)) (prefixes n path) ≡ true
is_among zero place path lt = absurd (omega arith)
is_among (suc n) place path lt =
    let le : place ≤ n = omega arith in
    elim (eq-or-lt_of_le le) [
      | inl e ↦ let same = same_itself (take (suc n) path) in rw (e, same) refl
      | inr less ↦ rw (is_among n place path less) (true_or (is_same (take (suc place) path) (take (suc n) path)))
    ]

-- tests that are joined
neither : (a b : Bool) → (a || b) ≡ false → (a ≡ false) × (b ≡ false)
neither true b e = absurd cc
neither false b e = (refl, e)

none_passes : (p : List (List ℕ) → Bool) (paths : List (List (List ℕ))) (q : List (List ℕ)) → list_any p paths ≡ false → list_any (eq_by_cmp path_cmp q) paths ≡ true → p q ≡ false
none_passes p [] q none among = absurd cc
none_passes p (path ∷ paths) q none among =
    let parts = neither (p path) (list_any p paths) none in
    elim (one_of (is_same q path) (list_any (eq_by_cmp path_cmp q) paths) among) [
      | inl same ↦ ap p (equal_paths q path same) ∙ parts.0
      | inr rest ↦ none_passes p paths q parts.1 rest
    ]

all_pass : (p : List (List ℕ) → Bool) (paths : List (List (List ℕ))) → ((q : List (List ℕ)) → list_any (eq_by_cmp path_cmp q) paths ≡ true → p q ≡ true) → list_all p paths ≡ true
all_pass p [] each = refl
all_pass p (path ∷ paths) each =
    let first : p path ≡ true = each path (let same = same_itself path in rw same refl) in
    let rest : list_all p paths ≡ true = all_pass p paths (λ q among. each q (rw among (true_or (is_same q path)))) in
    rw (first, rest) refl

segments_take : (n : ℕ) (path : List (List ℕ)) → list_all is_segment path ≡ true → list_all is_segment (take n path) ≡ true
segments_take zero path e = refl
segments_take (suc n) [] e = refl
segments_take (suc n) (segment ∷ rest) e =
    let parts = both (is_segment segment) (list_all is_segment rest) e in
    let tail = segments_take n rest parts.1 in
    rw (parts.0, tail) refl

pub test_from_tree : (t : FileTree) → IsTree t → is_tree t ≡ true
unfolding is_tree
test_from_tree t tree =
    let placed : list_all (is_placed t) (keys t) ≡ true = all_pass (is_placed t) (keys t) (λ q among.
    let has : contains_key t q ≡ true = contains_key-keys t q ∙ among in
    let path : list_all is_segment q ≡ true = tree.paths q has in
    let folder : has_folder t (without_last q) ≡ true = tree.below_folders q has in
    rw (path, folder) refl) in
    let few : nat_lt (len t) (2 ^ 32) ≡ true = lt-ltb (len t) (2 ^ 32) tree.few in
    rw (placed, few) refl

-- where nothing blocks it, a folder is there after the put
open_filled : (here : Option Entry) → blocks here ≡ false → filled here true ≡ Some entries.Folder
open_filled None e = refl
open_filled (Some (entries.File bytes)) e = absurd cc
open_filled (Some entries.Folder) e = refl
open_filled (Some entries.Other) e = absurd cc

shorter : (n : ℕ) (path : List (List ℕ)) → n < length path → is_same (take n path) path ≡ false
shorter n path lt = elim (is_same (take n path) path) as (λ b. is_same (take n path) path ≡ b → b ≡ false) [
  | true ↦ λ e. absurd (let len = length-take-le n path (omega arith) in omega (arith, sym len ∙ ap length (equal_paths (take n path) path e)))
  | false ↦ λ e. refl
] refl

the_folder : (here : Option Entry) → is_folder here ≡ true → here ≡ Some entries.Folder
the_folder None e = absurd cc
the_folder (Some (entries.File bytes)) e = absurd cc
the_folder (Some entries.Folder) e = refl
the_folder (Some entries.Other) e = absurd cc

-- what does not hide a folder is one
not_hidden : (new : Entry) → hides (Some entries.Folder) new ≡ false → is_folder (Some new) ≡ true
not_hidden (entries.File bytes) e = absurd cc
not_hidden entries.Folder e = refl
not_hidden entries.Other e = absurd cc

given_folder : (t : FileTree) (path q : List (List ℕ)) (new : Entry) (among b : Bool) → is_same q path ≡ b → get t q ≡ Some entries.Folder → hides (get t path) new ≡ false
    → is_folder (cond b (Some new) (filled (get t q) among)) ≡ true
given_folder t path q new among true same folder seen =
    let here : get t path ≡ Some entries.Folder = ap (get t) (sym (equal_paths q path same)) ∙ folder in
    not_hidden new (rw here at seen)
given_folder t path q new among false same folder seen = rw folder refl

module _ (t : FileTree) (first : List ℕ) (rest : List (List ℕ)) (new : Entry) where
  abbrev path : List (List ℕ)
  path = first ∷ rest

  abbrev free : Type 0
  free = list_any (λ folder. blocks (get t folder)) (above path) ≡ false

  folder_above : free → (k : ℕ) → k ≤ length rest → is_folder (entry_at (put_in t path new) (take k path)) ≡ true
  folder_above none zero le = refl
  folder_above none (suc k) le =
      let n : length path - 1 ≡ length rest = omega arith in
      let lt : k < length path - 1 = omega arith in
      let among = is_among (length path - 1) k path lt in
      let here = none_passes (λ folder. blocks (get t folder)) (above path) (take (suc k) path) none among in
      let other = shorter (suc k) path (omega arith) in
      let made : get (put_in t path new) (take (suc k) path) ≡ Some entries.Folder =
      get-put_in t path new (take (suc k) path) ∙ rw (other, among) (open_filled (get t (take (suc k) path)) here) in
      ap is_folder made

  -- the path itself, and those above it, have a folder above them
  placed_part : free → list_all is_segment path ≡ true → (k : ℕ) → k ≤ length rest
      → (list_all is_segment (take (suc k) path) ≡ true) × (has_folder (put_in t path new) (without_last (take (suc k) path)) ≡ true)
  placed_part none is_path k le =
      let len : length (take k rest) ≡ k = length-take-le k rest le in
      let up : take k (take (suc k) path) ≡ take k path = take-take k (suc k) path (omega arith) in
      let folder = folder_above none k le in
      (segments_take (suc k) path is_path, rw (len, up) folder)

  kept_folder : hides (get t path) new ≡ false → (parent : Option (List (List ℕ))) → has_folder t parent ≡ true → has_folder (put_in t path new) parent ≡ true
  kept_folder seen None e = absurd cc
  kept_folder seen (Some []) e = refl
  kept_folder seen (Some (segment ∷ more)) e =
      let q : List (List ℕ) = segment ∷ more in
      let folder : get t q ≡ Some entries.Folder = the_folder (get t q) e in
      ap is_folder (get-put_in t path new q)
      ∙ given_folder t path q new (list_any (eq_by_cmp path_cmp q) (above path)) (is_same q path) refl folder seen

  abbrev placed : List (List ℕ) → Type 0
  placed q = (list_all is_segment q ≡ true) × (has_folder (put_in t path new) (without_last q) ≡ true)

  old_entry : IsTree t → hides (get t path) new ≡ false → (q : List (List ℕ)) → is_same q path ≡ false → list_any (eq_by_cmp path_cmp q) (above path) ≡ false
      → contains_key (put_in t path new) q ≡ true → placed q
  old_entry tree seen q other apart has =
      let same : get (put_in t path new) q ≡ get t q = get-put_in t path new q ∙ rw (other, apart) (sym (filled_false (get t q))) in
      let had : contains_key t q ≡ true = ap is_some (sym same) ∙ has in
      (tree.paths q had, kept_folder seen (without_last q) (tree.below_folders q had))

  placed_after : IsTree t → free → hides (get t path) new ≡ false → list_all is_segment path ≡ true
      → (q : List (List ℕ)) (same among : Bool) → is_same q path ≡ same → list_any (eq_by_cmp path_cmp q) (above path) ≡ among
      → contains_key (put_in t path new) q ≡ true → placed q
  placed_after tree none seen is_path q true among e h has =
      let whole : take (suc (length rest)) path ≡ path = take-length path in
      subst placed (whole ∙ sym (equal_paths q path e)) (placed_part none is_path (length rest) (omega arith))
  placed_after tree none seen is_path q false true e h has =
      let part = first_part (length path - 1) path q h in
      subst placed (sym part.part) (placed_part none is_path part.place (omega (arith, part.below)))
  placed_after tree none seen is_path q false false e h has = old_entry tree seen q e h has

-- A put of what is not misplaced into a tree leaves a tree, where there are few enough entries.
pub put_keeps : (t : FileTree) (path : List (List ℕ)) (new : Entry) → IsTree t → IsPath path → is_misplaced t path new ≡ false
    → len (put_in t path new) < 2 ^ 32 → IsTree (put_in t path new)
unfolding is_misplaced
put_keeps t [] new tree is_path placed few = absurd cc
put_keeps t (first ∷ rest) new tree is_path placed few =
    let parts = neither (list_any (λ folder. blocks (get t folder)) (above (first ∷ rest))) (hides (get t (first ∷ rest)) new) placed in
    let each = λ (q : List (List ℕ)) (has : contains_key (put_in t (first ∷ rest) new) q ≡ true).
    placed_after t first rest new tree parts.0 parts.1 is_path q (is_same q (first ∷ rest)) (list_any (eq_by_cmp path_cmp q) (above (first ∷ rest))) refl refl has in
    record { paths = λ q has. (each q has).0; below_folders = λ q has. (each q has).1; few = few }

pub empty_is_tree : is_tree empty ≡ true
empty_is_tree = test_from_tree empty (record {
  paths = λ q has. absurd (nothing_there q has);
  below_folders = λ q has. absurd (nothing_there q has);
  few = rw (len-empty path_cmp Entry) (omega arith);
})
  where
    nothing_there : (q : List (List ℕ)) → contains_key (empty {X = Entry} {R = path_cmp}) q ≡ true → ⊥
    nothing_there q has = let none = get-empty {X = Entry} path_cmp q in cc
