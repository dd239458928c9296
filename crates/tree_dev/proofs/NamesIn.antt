-- The names of a folder are those of its entries, each once, in byte order.
use Rattle.std.proofs.Common.{◌≡◌, ℕ, Bool, true, false, ◌||◌, T, ◌⊎◌, List, [], ◌∷◌, ◌++◌, map, length, Option, Some, None, refl, sym, ap, ◌∙◌, inl, inr, arith, ◌+◌, append_assoc, append-nil, length-append}
use Rattle.std.specs.List.{filter, filter_map, list_all, list_any, AllByRecursion, cons_option}
use Rattle.std.specs.List.Sorted.{IsStrictlySortedBy}
use Rattle.std.proofs.lemmas.List.Folds.{list_all-append}
use Rattle.std.specs.Cmp.{tied_itself}
use Rattle.std.specs.Ordering.{is_eq, is_gt, is_lt, ordering_then, ordering_reverse}
use Rattle.std.specs.FinMap.Entries.{below_all}
use Rattle.std.specs.FinMap.{entries, entries_sorted, contains_key, contains_key-keys, keys, is_sorted}
use Rattle.std.specs.declared.cmp.Ordering.{Ordering}
use Rattle.std.specs.declared.cmp.Ordering.TheVariants.{Less, Equal, Greater}
use Rattle.path_name.specs.Orders.{byte_cmp, path_cmp, byte_cmp_total, byte_cmp_exact}
use Rattle.path_name.specs.Paths.{is_segment}
use Rattle.tree_dev.specs.Told.{both, equal_of, one_of}
use Rattle.tree_dev.specs.Trees.{FileTree, IsTree, IsListing, behind, one_segment, names_in}
use Rattle.tree_dev.specs.Listing.{HasName, IsLastName, IsNameOrNothing, IsNextName}
use Rattle.tree_dev.specs.declared.entry.Entry.{Entry}
use Rattle.tree_dev.proofs.Behind.{behind_head, head_behind}
use Rattle.tree_dev.proofs.NameOrder.{same_head}
use Rattle.tree_dev.proofs.NextNames.{parts_of_segment}
use Rattle.tree_dev.proofs.SamePaths.{is_same, is_same_path, same_path}

-- one name among some
abbrev pub is_name_of : List ℕ → List (List ℕ) → Bool
is_name_of name names = list_any (λ other. is_eq (byte_cmp name other)) names

abbrev pub name_of : List (List ℕ) → List (List ℕ) → Option (List ℕ)
name_of folder path = one_segment (behind folder path)

name_is : (folder path : List (List ℕ)) (name : List ℕ) (rest : Option (List (List ℕ))) → behind folder path ≡ rest → one_segment rest ≡ Some name → path ≡ folder ++ name ∷ []
name_is folder path name None e h = absurd cc
name_is folder path name (Some []) e h = absurd cc
name_is folder path name (Some (x ∷ [])) e h = head_behind folder path (x ∷ []) e ∙ (let same : x ≡ name = cc in ap (λ n. folder ++ n ∷ []) same)
name_is folder path name (Some (x ∷ y ∷ more)) e h = absurd cc

pub child_of : (folder path : List (List ℕ)) (name : List ℕ) → name_of folder path ≡ Some name → path ≡ folder ++ name ∷ []
child_of folder path name e = name_is folder path name (behind folder path) refl e

pub name_of_child : (folder : List (List ℕ)) (name : List ℕ) → name_of folder (folder ++ name ∷ []) ≡ Some name
name_of_child folder name = ap one_segment (behind_head folder (name ∷ []))

-- the order of children is that of their names
children_order : (folder p q : List (List ℕ)) (x y : List ℕ) → name_of folder p ≡ Some x → name_of folder q ≡ Some y → path_cmp p q ≡ Less → byte_cmp x y ≡ Less
children_order folder p q x y e h less =
    let ep = child_of folder p x e in
    let eq = child_of folder q y h in
    let one : path_cmp (folder ++ x ∷ []) (folder ++ y ∷ []) ≡ Less = ap (λ r. path_cmp r (folder ++ y ∷ [])) (sym ep) ∙ ap (path_cmp p) (sym eq) ∙ less in
    let two : path_cmp (x ∷ []) (y ∷ []) ≡ Less = sym (same_head folder (x ∷ []) (y ∷ [])) ∙ one in
    first_less (byte_cmp x y) two
  where
    first_less : (o : Ordering) → ordering_then o Equal ≡ Less → o ≡ Less
    first_less Less e = refl
    first_less Equal e = absurd cc
    first_less Greater e = absurd cc

t_true : (b : Bool) → T b → b ≡ true
t_true true p = refl
t_true false p = absurd p

lt_less : (o : Ordering) → is_lt o ≡ true → o ≡ Less
lt_less Less e = refl
lt_less Equal e = absurd cc
lt_less Greater e = absurd cc

-- the names of later entries come later
later_names : (folder p : List (List ℕ)) (x : List ℕ) (es : List (List (List ℕ) × Entry)) → name_of folder p ≡ Some x → below_all path_cmp p es ≡ true
    → AllByRecursion (λ y. byte_cmp x y ≡ Less) (filter_map (name_of folder) (map (λ e. e.0) es))
later_names folder p x [] is below = tt
later_names folder p x (e ∷ es) is below = step (name_of folder e.0) refl (later_names folder p x es is parts.1)
  where
    parts : (is_lt (path_cmp p e.0) ≡ true) × (below_all path_cmp p es ≡ true)
    parts = both (is_lt (path_cmp p e.0)) (below_all path_cmp p es) below

    step : (name : Option (List ℕ)) → name_of folder e.0 ≡ name → AllByRecursion (λ y. byte_cmp x y ≡ Less) (filter_map (name_of folder) (map (λ e. e.0) es))
        → AllByRecursion (λ y. byte_cmp x y ≡ Less) (cons_option name (filter_map (name_of folder) (map (λ e. e.0) es)))
    step None h more = more
    step (Some y) h more = (children_order folder p e.0 x y is h (lt_less (path_cmp p e.0) parts.0), more)

sorted_names : (folder : List (List ℕ)) (es : List (List (List ℕ) × Entry)) → is_sorted path_cmp es ≡ true → IsStrictlySortedBy byte_cmp (filter_map (name_of folder) (map (λ e. e.0) es))
unfolding IsStrictlySortedBy
sorted_names folder [] sorted = tt
sorted_names folder (e ∷ es) sorted = step (name_of folder e.0) refl (sorted_names folder es parts.1)
  where
    parts : (below_all path_cmp e.0 es ≡ true) × (is_sorted path_cmp es ≡ true)
    parts = both (below_all path_cmp e.0 es) (is_sorted path_cmp es) sorted

    step : (name : Option (List ℕ)) → name_of folder e.0 ≡ name → IsStrictlySortedBy byte_cmp (filter_map (name_of folder) (map (λ e. e.0) es))
        → IsStrictlySortedBy byte_cmp (cons_option name (filter_map (name_of folder) (map (λ e. e.0) es)))
    step None h more = more
    step (Some x) h more = (later_names folder e.0 x es h parts.0, more)

pub names_ascend : (t : FileTree) (folder : List (List ℕ)) → IsStrictlySortedBy byte_cmp (names_in t folder)
unfolding names_in
names_ascend t folder = sorted_names folder (entries t) (t_true (is_sorted path_cmp (entries t)) (entries_sorted t))

pub name_itself : (name : List ℕ) → is_eq (byte_cmp name name) ≡ true
name_itself name = ap is_eq (tied_itself byte_cmp_total name)

true_after : (b : Bool) → (b || true) ≡ true
true_after true = refl
true_after false = refl

-- a child's name is among the names, and a name among them is a child's
pub child_is_listed : (folder : List (List ℕ)) (name : List ℕ) (paths : List (List (List ℕ))) → list_any (is_same (folder ++ name ∷ [])) paths ≡ true
    → is_name_of name (filter_map (name_of folder) paths) ≡ true
child_is_listed folder name [] among = absurd cc
child_is_listed folder name (path ∷ paths) among = step (name_of folder path) refl (one_of (is_same (folder ++ name ∷ []) path) (list_any (is_same (folder ++ name ∷ [])) paths) among) (child_is_listed folder name paths)
  where
    step : (first : Option (List ℕ)) → name_of folder path ≡ first → (is_same (folder ++ name ∷ []) path ≡ true) ⊎ (list_any (is_same (folder ++ name ∷ [])) paths ≡ true)
        → (list_any (is_same (folder ++ name ∷ [])) paths ≡ true → is_name_of name (filter_map (name_of folder) paths) ≡ true)
        → is_name_of name (cons_option first (filter_map (name_of folder) paths)) ≡ true
    step None h (inl same) more = let here : name_of folder path ≡ Some name = ap (name_of folder) (sym (same_path (folder ++ name ∷ []) path same)) ∙ name_of_child folder name in absurd cc
    step None h (inr rest) more = more rest
    step (Some x) h (inl same) more =
        let here : name_of folder path ≡ Some name = ap (name_of folder) (sym (same_path (folder ++ name ∷ []) path same)) ∙ name_of_child folder name in
        let is : name ≡ x = cc in
        let one : is_eq (byte_cmp name x) ≡ true = ap (λ n. is_eq (byte_cmp name n)) (sym is) ∙ name_itself name in
        rw one refl
    step (Some x) h (inr rest) more = rw (more rest) (true_after (is_eq (byte_cmp name x)))

equal_names : (a b : List ℕ) → is_eq (byte_cmp a b) ≡ true → a ≡ b
equal_names a b e = byte_cmp_exact a b (equal_of (byte_cmp a b) e)

pub listed_is_child : (folder : List (List ℕ)) (name : List ℕ) (paths : List (List (List ℕ))) → is_name_of name (filter_map (name_of folder) paths) ≡ true
    → list_any (is_same (folder ++ name ∷ [])) paths ≡ true
listed_is_child folder name [] among = absurd cc
listed_is_child folder name (path ∷ paths) among = step (name_of folder path) refl among (listed_is_child folder name paths)
  where
    step : (first : Option (List ℕ)) → name_of folder path ≡ first → is_name_of name (cons_option first (filter_map (name_of folder) paths)) ≡ true
        → (is_name_of name (filter_map (name_of folder) paths) ≡ true → list_any (is_same (folder ++ name ∷ [])) paths ≡ true)
        → (is_same (folder ++ name ∷ []) path || list_any (is_same (folder ++ name ∷ [])) paths) ≡ true
    step None h e more = rw (more e) (true_after (is_same (folder ++ name ∷ []) path))
    step (Some x) h e more =
        elim (one_of (is_eq (byte_cmp name x)) (is_name_of name (filter_map (name_of folder) paths)) e) [
          | inl same ↦
              let path_is = child_of folder path x h in
              let one : is_same (folder ++ name ∷ []) path ≡ true = is_same_path (folder ++ name ∷ []) path (ap (λ n. folder ++ n ∷ []) (equal_names name x same) ∙ sym path_is) in
              rw one refl
          | inr rest ↦ rw (more rest) (true_after (is_same (folder ++ name ∷ []) path))
        ]

pub listed : (t : FileTree) (folder : List (List ℕ)) (name : List ℕ) → HasName t folder name → is_name_of name (names_in t folder) ≡ true
unfolding names_in
listed t folder name has = child_is_listed folder name (keys t) (sym (contains_key-keys t (folder ++ name ∷ [])) ∙ has)

pub is_child : (t : FileTree) (folder : List (List ℕ)) (name : List ℕ) → is_name_of name (names_in t folder) ≡ true → HasName t folder name
unfolding names_in
is_child t folder name among = contains_key-keys t (folder ++ name ∷ []) ∙ listed_is_child folder name (keys t) among

-- what passes of a list, if each does
each_passes : (p : List ℕ → Bool) (names : List (List ℕ)) → ((name : List ℕ) → is_name_of name names ≡ true → p name ≡ true) → list_all p names ≡ true
each_passes p [] each = refl
each_passes p (x ∷ names) each =
    let first : p x ≡ true = each x (rw (name_itself x) refl) in
    let rest : list_all p names ≡ true = each_passes p names (λ name among. each name (rw among (true_after (is_eq (byte_cmp name x))))) in
    rw (first, rest) refl

pub child_is_segment : (t : FileTree) (folder : List (List ℕ)) (name : List ℕ) → IsTree t → HasName t folder name → is_segment name ≡ true
child_is_segment t folder name tree has =
    let path = tree.paths (folder ++ name ∷ []) has in
    let one = both (list_all is_segment folder) (list_all is_segment (name ∷ [])) (sym (list_all-append is_segment folder (name ∷ [])) ∙ path) in
    (both (is_segment name) true one.1).0

pub names_are_listing : (t : FileTree) (folder : List (List ℕ)) → IsTree t → IsListing (names_in t folder)
names_are_listing t folder tree = record {
  segments = each_passes is_segment (names_in t folder) (λ name among. child_is_segment t folder name tree (is_child t folder name among));
  ascending = names_ascend t folder;
}

-- the names after one
abbrev pub names_after : List ℕ → List (List ℕ) → List (List ℕ)
names_after last names = filter (λ name. is_lt (byte_cmp last name)) names

later_one : (names : List (List ℕ)) (y x : List ℕ) → AllByRecursion (λ z. byte_cmp y z ≡ Less) names → is_name_of x names ≡ true → byte_cmp y x ≡ Less
later_one [] y x all among = absurd cc
later_one (z ∷ names) y x all among =
    elim (one_of (is_eq (byte_cmp x z)) (is_name_of x names) among) [
      | inl same ↦ ap (byte_cmp y) (equal_names x z same) ∙ all.0
      | inr rest ↦ later_one names y x all.1 rest
    ]

turned : (x y : List ℕ) → byte_cmp y x ≡ Less → byte_cmp x y ≡ Greater
turned x y less = byte_cmp_total.antisymm x y ∙ ap ordering_reverse less

all_later : (last y : List ℕ) (names : List (List ℕ)) → (byte_cmp last y ≡ Less) ⊎ (last ≡ y) → AllByRecursion (λ z. byte_cmp y z ≡ Less) names → names_after last names ≡ names
all_later last y [] le all = refl
all_later last y (z ∷ names) le all =
    let less : byte_cmp last z ≡ Less = elim le [ inl before ↦ byte_cmp_total.trans last y z before all.0 | inr same ↦ ap (λ n. byte_cmp n z) same ∙ all.0 ] in
    let more = all_later last y names le all.1 in
    rw (less, more) refl

pub next_filter : (names : List (List ℕ)) (last x : List ℕ) → IsStrictlySortedBy byte_cmp names → is_name_of x names ≡ true → byte_cmp last x ≡ Less
    → ((other : List ℕ) → is_name_of other names ≡ true → byte_cmp last other ≡ Less → is_gt (byte_cmp x other) ≡ false)
    → names_after last names ≡ x ∷ names_after x names
unfolding IsStrictlySortedBy
next_filter [] last x sorted among after least = absurd cc
next_filter (y ∷ names) last x sorted among after least =
    step (byte_cmp last y) refl (one_of (is_eq (byte_cmp x y)) (is_name_of x names) among) (λ rest. next_filter names last x sorted.1 rest after (λ other there. least other (rw there (true_after (is_eq (byte_cmp other y))))))
  where
    same_case : byte_cmp last y ≡ Less → x ≡ y → names_after last (y ∷ names) ≡ x ∷ names_after x (y ∷ names)
    same_case less same =
        let one = all_later last y names (inl less) sorted.0 in
        let two = all_later x y names (inr same) sorted.0 in
        let equal : is_lt (byte_cmp x y) ≡ false = ap (λ n. is_lt (byte_cmp x n)) (sym same) ∙ ap is_lt (tied_itself byte_cmp_total x) in
        rw (less, one, equal, two) (ap (λ n. n ∷ names) (sym same))

    step : (o : Ordering) → byte_cmp last y ≡ o → (is_eq (byte_cmp x y) ≡ true) ⊎ (is_name_of x names ≡ true) → (is_name_of x names ≡ true → names_after last names ≡ x ∷ names_after x names)
        → names_after last (y ∷ names) ≡ x ∷ names_after x (y ∷ names)
    step Less e (inl same) more = same_case e (equal_names x y same)
    step Less e (inr rest) more =
        let up = turned x y (later_one names y x sorted.0 rest) in
        let no_gt = least y (rw (name_itself y) refl) e in
        absurd (let g : is_gt (byte_cmp x y) ≡ true = ap is_gt up in cc)
    step Equal e (inl same) more = absurd (let h : byte_cmp last y ≡ Less = ap (byte_cmp last) (sym (equal_names x y same)) ∙ after in cc)
    step Equal e (inr rest) more = let up = turned x y (later_one names y x sorted.0 rest) in rw (e, up) (more rest)
    step Greater e (inl same) more = absurd (let h : byte_cmp last y ≡ Less = ap (byte_cmp last) (sym (equal_names x y same)) ∙ after in cc)
    step Greater e (inr rest) more = let up = turned x y (later_one names y x sorted.0 rest) in rw (e, up) (more rest)

pub last_filter : (names : List (List ℕ)) (last : List ℕ) → ((other : List ℕ) → is_name_of other names ≡ true → byte_cmp last other ≡ Less → ⊥) → names_after last names ≡ []
last_filter [] last none = refl
last_filter (y ∷ names) last none = step (byte_cmp last y) refl (last_filter names last (λ other there. none other (rw there (true_after (is_eq (byte_cmp other y))))))
  where
    step : (o : Ordering) → byte_cmp last y ≡ o → names_after last names ≡ [] → names_after last (y ∷ names) ≡ []
    step Less e more = absurd (none y (rw (name_itself y) refl) e)
    step Equal e more = rw e more
    step Greater e more = rw e more

pub after_nothing : (y : List ℕ) → is_segment y ≡ true → byte_cmp [] y ≡ Less
after_nothing [] e = absurd (let h = (parts_of_segment [] e).here in cc)
after_nothing (b ∷ bs) e = refl

pub first_filter : (names : List (List ℕ)) → list_all is_segment names ≡ true → names_after [] names ≡ names
first_filter [] all = refl
first_filter (y ∷ names) all =
    let parts = both (is_segment y) (list_all is_segment names) all in
    let more = first_filter names parts.1 in
    let less = after_nothing y parts.0 in
    rw (less, more) refl

-- the steps of a listing
pub listing_next : (t : FileTree) (folder : List (List ℕ)) (last name : List ℕ) → IsNextName t folder last name → names_after last (names_in t folder) ≡ name ∷ names_after name (names_in t folder)
listing_next t folder last name next =
    next_filter (names_in t folder) last name (names_ascend t folder) (listed t folder name next.has) next.after (λ other there. next.least other (is_child t folder other there))

pub listing_ends : (t : FileTree) (folder : List (List ℕ)) (last : List ℕ) → IsLastName t folder last → names_after last (names_in t folder) ≡ []
listing_ends t folder last none = last_filter (names_in t folder) last (λ other there. none other (is_child t folder other there))

pub listing_starts : (t : FileTree) (folder : List (List ℕ)) → IsTree t → names_after [] (names_in t folder) ≡ names_in t folder
listing_starts t folder tree = first_filter (names_in t folder) (names_are_listing t folder tree).segments

pub name_or_nothing : (name : List ℕ) → is_segment name ≡ true → IsNameOrNothing name
name_or_nothing [] e = tt
name_or_nothing (x ∷ xs) e = e

-- one round of a listing: the names so far, the next one, and those after it
pub record HasNext (names so_far : List (List ℕ)) (last name : List ℕ) : Type 0 where
  pub items : (so_far ++ name ∷ []) ++ names_after name names ≡ names
  pub left : length (names_after last names) ≡ length (names_after name names) + 1
  pub len : length names ≡ length so_far + 1 + length (names_after name names)

pub round : (t : FileTree) (folder : List (List ℕ)) (so_far : List (List ℕ)) (last name : List ℕ) → so_far ++ names_after last (names_in t folder) ≡ names_in t folder
    → IsNextName t folder last name → HasNext (names_in t folder) so_far last name
round t folder so_far last name all next =
    let step = listing_next t folder last name next in
    let items = append_assoc so_far (name ∷ []) (names_after name (names_in t folder)) ∙ ap (λ l. so_far ++ l) (sym step) ∙ all in
    let left = ap length step in
    let whole = simp length-append at (ap length items) in
    record { items = items; left = omega (arith, left); len = omega (arith, whole) }

pub round_ends : (t : FileTree) (folder : List (List ℕ)) (so_far : List (List ℕ)) (last : List ℕ) → so_far ++ names_after last (names_in t folder) ≡ names_in t folder
    → IsLastName t folder last → so_far ≡ names_in t folder
round_ends t folder so_far last all none = sym (append-nil so_far) ∙ ap (λ l. so_far ++ l) (sym (listing_ends t folder last none)) ∙ all

exactly : (t : FileTree) (folder : List (List ℕ)) (name : List ℕ) (a b : Bool) → is_name_of name (names_in t folder) ≡ a → contains_key t (folder ++ name ∷ []) ≡ b → a ≡ b
exactly t folder name true b e h = sym (is_child t folder name e) ∙ h
exactly t folder name false true e h = sym e ∙ listed t folder name h
exactly t folder name false false e h = refl

pub names_exactly : (t : FileTree) (folder : List (List ℕ)) (name : List ℕ) → is_name_of name (names_in t folder) ≡ contains_key t (folder ++ name ∷ [])
names_exactly t folder name = exactly t folder name (is_name_of name (names_in t folder)) (contains_key t (folder ++ name ∷ [])) refl refl
