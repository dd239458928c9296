-- Folders of one depth in path order, and those below them.
use Rattle.std.proofs.Common.{inl, inr, ◌≡◌, ℕ, ◌+◌, Bool, true, false, ◌||◌, List, [], ◌∷◌, ◌++◌, length, refl, sym, ap, ◌∙◌, arith, length-append}
use Rattle.std.specs.List.{flat_map, list_any, AllByRecursion}
use Rattle.std.specs.List.Sorted.{IsStrictlySortedBy}
use Rattle.std.specs.Ordering.{ordering_then}
use Rattle.std.specs.declared.cmp.Ordering.{Ordering}
use Rattle.std.specs.declared.cmp.Ordering.TheVariants.{Less, Equal, Greater}
use Rattle.std.proofs.lemmas.List.Folds.{list_any-append}
use Rattle.path_name.specs.Orders.{byte_cmp, path_cmp}
use Rattle.tree_dev.specs.Told.{one_of}
use Rattle.tree_dev.proofs.NameOrder.{same_head}
use Rattle.tree_dev.proofs.SamePaths.{is_same, same_path}

-- ---- all of a list

pub all_mapped : {X : Type 0} (P Q : X → Type 0) (xs : List X) → ((x : X) → P x → Q x) → AllByRecursion P xs → AllByRecursion Q xs
all_mapped P Q [] turn all = tt
all_mapped P Q (x ∷ xs) turn all = (turn x all.0, all_mapped P Q xs turn all.1)

pub all_joined : {X : Type 0} (P : X → Type 0) (xs ys : List X) → AllByRecursion P xs → AllByRecursion P ys → AllByRecursion P (xs ++ ys)
all_joined P [] ys first second = second
all_joined P (x ∷ xs) ys first second = (first.0, all_joined P xs ys first.1 second)

pub all_below : {X Y : Type 0} (P : X → Type 0) (Q : Y → Type 0) (g : X → List Y) (xs : List X) → ((x : X) → P x → AllByRecursion Q (g x)) → AllByRecursion P xs → AllByRecursion Q (flat_map g xs)
all_below P Q g [] turn all = tt
all_below P Q g (x ∷ xs) turn all = all_joined Q (g x) (flat_map g xs) (turn x all.0) (all_below P Q g xs turn all.1)

pub of_all : (P : List (List ℕ) → Type 0) (q : List (List ℕ)) (paths : List (List (List ℕ))) → AllByRecursion P paths → list_any (is_same q) paths ≡ true → P q
of_all P q [] all among = absurd cc
of_all P q (path ∷ paths) all among =
    elim (one_of (is_same q path) (list_any (is_same q) paths) among) [
      | inl same ↦ rw (same_path q path same) all.0
      | inr rest ↦ of_all P q paths all.1 rest
    ]

-- ---- order

earlier_case : (a b x y : List (List ℕ)) (o : Ordering) → ordering_then o (path_cmp a b) ≡ Less → (path_cmp a b ≡ Less → path_cmp (a ++ x) (b ++ y) ≡ Less) → ordering_then o (path_cmp (a ++ x) (b ++ y)) ≡ Less
earlier_case a b x y Less e more = refl
earlier_case a b x y Equal e more = more e
earlier_case a b x y Greater e more = absurd cc

-- what is below the earlier of two folders of one depth comes earlier
earlier : (a b x y : List (List ℕ)) → length a ≡ length b → path_cmp a b ≡ Less → path_cmp (a ++ x) (b ++ y) ≡ Less
earlier [] [] x y same e = absurd cc
earlier [] (q ∷ b) x y same e = absurd cc
earlier (p ∷ a) [] x y same e = absurd cc
earlier (p ∷ a) (q ∷ b) x y same e = earlier_case a b x y (byte_cmp p q) e (λ h. earlier a b x y (omega arith) h)

pub name_order : (folder : List (List ℕ)) (x y : List ℕ) → byte_cmp x y ≡ Less → path_cmp (folder ++ x ∷ []) (folder ++ y ∷ []) ≡ Less
name_order folder x y e = same_head folder (x ∷ []) (y ∷ []) ∙ ap (λ o. ordering_then o Equal) e

sorted_joined : (xs ys : List (List (List ℕ))) → IsStrictlySortedBy path_cmp xs → IsStrictlySortedBy path_cmp ys → AllByRecursion (λ x. AllByRecursion (λ y. path_cmp x y ≡ Less) ys) xs → IsStrictlySortedBy path_cmp (xs ++ ys)
unfolding IsStrictlySortedBy
sorted_joined [] ys first second before = second
sorted_joined (x ∷ xs) ys first second before = (all_joined (λ y. path_cmp x y ≡ Less) xs ys first.0 before.0, sorted_joined xs ys first.1 second before.1)

-- folders of one depth, each once, in path order
pub record IsLevel (depth : ℕ) (folders : List (List (List ℕ))) : Type 0 where
  pub deep : AllByRecursion (λ f. length f ≡ depth) folders
  pub ascend : IsStrictlySortedBy path_cmp folders

-- one name behind a folder
abbrev pub IsBelow : List (List ℕ) → List (List ℕ) → Type 0
IsBelow folder path = (name : List ℕ) × (path ≡ folder ++ name ∷ [])

one_deeper : (depth : ℕ) (folder path : List (List ℕ)) → length folder ≡ depth → IsBelow folder path → length path ≡ depth + 1
one_deeper depth folder path deep is = ap length is.1 ∙ length-append folder (is.0 ∷ []) ∙ (omega arith)

module _ (g : List (List ℕ) → List (List (List ℕ))) (below : (folder : List (List ℕ)) → AllByRecursion (IsBelow folder) (g folder)) where
  before_all : (folder path : List (List ℕ)) (folders : List (List (List ℕ))) → IsBelow folder path → AllByRecursion (λ f. length f ≡ length folder) folders
      → AllByRecursion (λ f. path_cmp folder f ≡ Less) folders → AllByRecursion (λ y. path_cmp path y ≡ Less) (flat_map g folders)
  before_all folder path [] is deep after = tt
  before_all folder path (next ∷ folders) is deep after =
      all_joined (λ y. path_cmp path y ≡ Less) (g next) (flat_map g folders)
      (all_mapped (IsBelow next) (λ y. path_cmp path y ≡ Less) (g next) (λ y b. rw (is.1, b.1) (earlier folder next (is.0 ∷ []) (b.0 ∷ []) (sym deep.0) after.0)) (below next))
      (before_all folder path folders is deep.1 after.1)

  pub next_level : ((folder : List (List ℕ)) → IsStrictlySortedBy path_cmp (g folder)) → (depth : ℕ) (folders : List (List (List ℕ))) → IsLevel depth folders → IsLevel (depth + 1) (flat_map g folders)
  unfolding IsStrictlySortedBy
  next_level sorted depth folders level = record { deep = all_below (λ f. length f ≡ depth) (λ f. length f ≡ depth + 1) g folders (λ f d. all_mapped (IsBelow f) (λ p. length p ≡ depth + 1) (g f) (λ p b. one_deeper depth f p d b) (below f)) level.deep; ascend = ascends folders level.deep level.ascend }
    where
      ascends : (folders : List (List (List ℕ))) → AllByRecursion (λ f. length f ≡ depth) folders → IsStrictlySortedBy path_cmp folders → IsStrictlySortedBy path_cmp (flat_map g folders)
      ascends [] deep ascend = tt
      ascends (folder ∷ folders) deep ascend =
          sorted_joined (g folder) (flat_map g folders) (sorted folder) (ascends folders deep.1 ascend.1)
          (all_mapped (IsBelow folder) (λ x. AllByRecursion (λ y. path_cmp x y ≡ Less) (flat_map g folders)) (g folder)
          (λ x b. before_all folder x folders b (all_mapped (λ f. length f ≡ depth) (λ f. length f ≡ length folder) folders (λ f d. d ∙ sym deep.0) deep.1) ascend.0) (below folder))

-- ---- membership

pub or_true : (b : Bool) → (b || true) ≡ true
or_true true = refl
or_true false = refl

pub among_below : (g : List (List ℕ) → List (List (List ℕ))) (q folder : List (List ℕ)) (folders : List (List (List ℕ))) → list_any (is_same folder) folders ≡ true → list_any (is_same q) (g folder) ≡ true
    → list_any (is_same q) (flat_map g folders) ≡ true
among_below g q folder [] among there = absurd cc
among_below g q folder (first ∷ folders) among there =
    list_any-append (is_same q) (g first) (flat_map g folders)
    ∙ elim (one_of (is_same folder first) (list_any (is_same folder) folders) among) [
      | inl same ↦ ap (λ b. b || list_any (is_same q) (flat_map g folders)) (ap (λ f. list_any (is_same q) (g f)) (sym (same_path folder first same)) ∙ there)
      | inr rest ↦ ap (λ b. list_any (is_same q) (g first) || b) (among_below g q folder folders rest there) ∙ or_true (list_any (is_same q) (g first))
    ]
