-- What is reached by the segments of a url fits them, and what fits them and is there is reached.
use Rattle.std.proofs.Common.{◌≡◌, ℕ, ◌+◌, Bool, true, false, cond, ◌||◌, ◌⊎◌, inl, inr, arith, List, [], ◌∷◌, ◌++◌, map, length, Option, Some, None, refl, sym, ap, ◌∙◌, append_assoc, append-nil}
use Rattle.std.specs.Prelude.{is_some, not}
use Rattle.std.specs.List.{filter, list_any, AllByRecursion}
use Rattle.std.specs.List.Sorted.{IsStrictlySortedBy}
use Rattle.std.specs.Ordering.{eq_by_cmp}
use Rattle.std.specs.declared.cmp.Ordering.TheVariants.{Less}
use Rattle.std.proofs.lemmas.List.Kept.{IsStrictlySortedBy-filter}
use Rattle.path_name.specs.Orders.{byte_cmp, path_cmp, byte_cmp_exact, bytes_are_equal}
use Rattle.tree_dev.specs.Told.{both, one_of, equal_of}
use Rattle.tree_dev.specs.Trees.{FileTree, IsTree, entry_at, is_folder, names_in, behind}
use Rattle.tree_dev.specs.Projects.{is_within, vendor_path, work_path}
use Rattle.tree_dev.specs.Listing.{HasName}
use Rattle.tree_dev.specs.declared.entry.Entry.{Entry}
use Rattle.tree_dev.specs.declared.entry.Entry.TheVariants as entries
use Rattle.tree_dev.proofs.Behind.{same_bytes, bytes_same}
use Rattle.tree_dev.proofs.NamesIn.{names_ascend, listed}
use Rattle.tree_dev.proofs.SamePaths.{is_same, is_same_path}
use Rattle.tree_dev.proofs.Snoc.{without_last-snoc, not_behind_front}
use Rattle.pkg_pool.specs.declared.origin.Origin.{Origin}
use Rattle.pkg_pool.specs.Patterns.{is_wild, is_hidden, is_installed, seen_from, shown_in}
use Rattle.pkg_pool.specs.Matches.{fits, fit_all}
use Rattle.pkg_pool.proofs.Levels.{IsBelow, IsLevel, all_mapped, all_below, next_level, name_order, or_true, among_below}
use Rattle.pkg_pool.proofs.Reached.{children, below, named, reached}
use Rattle.pkg_pool.proofs.Reached as steps

-- ---- fitting

fit-snoc : (segments path : List (List ℕ)) (segment name : List ℕ) → fit_all segments path ≡ true → fits segment name ≡ true → fit_all (segments ++ segment ∷ []) (path ++ name ∷ []) ≡ true
fit-snoc [] [] segment name all one = rw one refl
fit-snoc [] (x ∷ path) segment name all one = absurd cc
fit-snoc (s ∷ segments) [] segment name all one = absurd cc
fit-snoc (s ∷ segments) (x ∷ path) segment name all one =
    let parts = both (fits s x) (fit_all segments path) all in
    let more = fit-snoc segments path segment name parts.1 one in
    rw (parts.0, more) refl

-- one name that fits a segment, behind a folder
abbrev IsFit : List ℕ → List (List ℕ) → List (List ℕ) → Type 0
IsFit segment folder path = (name : List ℕ) × (path ≡ folder ++ name ∷ []) × (fits segment name ≡ true)

wild_fits : (segment name : List ℕ) → is_wild segment ≡ true → is_hidden name ≡ false → fits segment name ≡ true
wild_fits segment name wild shown = rw (wild, shown) refl

shown_fit : (segment : List ℕ) (folder : List (List ℕ)) (names : List (List ℕ)) → is_wild segment ≡ true → AllByRecursion (IsFit segment folder) (shown_in folder names)
shown_fit segment folder [] wild = tt
shown_fit segment folder (name ∷ names) wild = by_case (is_hidden name) refl (shown_fit segment folder names wild)
  where
    by_case : (b : Bool) → is_hidden name ≡ b → AllByRecursion (IsFit segment folder) (shown_in folder names) → AllByRecursion (IsFit segment folder) (map (λ n. folder ++ n ∷ []) (cond (not b) (name ∷ filter (λ n. not (is_hidden n)) names) (filter (λ n. not (is_hidden n)) names)))
    by_case true is more = more
    by_case false is more = ((name, refl, wild_fits segment name wild is), more)

children_fit : (t : FileTree) (origin : Origin) (segment : List ℕ) (folder : List (List ℕ)) → is_wild segment ≡ true → AllByRecursion (IsFit segment folder) (children t origin folder)
children_fit t origin segment folder wild = by_case (is_installed origin.project (seen_from origin folder))
  where
    by_case : (b : Bool) → AllByRecursion (IsFit segment folder) (cond b [] (shown_in folder (steps.listed t (seen_from origin folder))))
    by_case true = tt
    by_case false = shown_fit segment folder (steps.listed t (seen_from origin folder)) wild

same_fits : (segment : List ℕ) → is_wild segment ≡ false → fits segment segment ≡ true
same_fits segment plain = rw plain (bytes_same segment)

below_fit : (t : FileTree) (origin : Origin) (segment : List ℕ) (folder : List (List ℕ)) → AllByRecursion (IsFit segment folder) (below t origin segment folder)
below_fit t origin segment folder = by_case (is_wild segment) refl
  where
    by_case : (b : Bool) → is_wild segment ≡ b → AllByRecursion (IsFit segment folder) (cond b (children t origin folder) ((folder ++ segment ∷ []) ∷ []))
    by_case true is = children_fit t origin segment folder is
    by_case false is = ((segment, refl, same_fits segment is), tt)

pub reached_fit : (t : FileTree) (origin : Origin) (done segments : List (List ℕ)) (folders : List (List (List ℕ))) → AllByRecursion (λ p. fit_all done p ≡ true) folders
    → AllByRecursion (λ p. fit_all (done ++ segments) p ≡ true) (reached t origin segments folders)
reached_fit t origin done [] folders all = rw (append-nil done) all
reached_fit t origin done (segment ∷ segments) folders all =
    rw (← append_assoc done (segment ∷ []) segments) (reached_fit t origin (done ++ segment ∷ []) segments (named t origin segment folders)
    (all_below (λ p. fit_all done p ≡ true) (λ p. fit_all (done ++ segment ∷ []) p ≡ true) (below t origin segment) folders
    (λ folder fit. all_mapped (IsFit segment folder) (λ p. fit_all (done ++ segment ∷ []) p ≡ true) (below t origin segment folder) (λ p b. rw b.1 (fit-snoc done folder segment b.0 fit b.2)) (below_fit t origin segment folder)) all))

-- ---- order

below_are : (t : FileTree) (origin : Origin) (segment : List ℕ) (folder : List (List ℕ)) → AllByRecursion (IsBelow folder) (below t origin segment folder)
below_are t origin segment folder = all_mapped (IsFit segment folder) (IsBelow folder) (below t origin segment folder) (λ p b. (b.0, b.1)) (below_fit t origin segment folder)

shown_ascend : (folder : List (List ℕ)) (names : List (List ℕ)) → IsStrictlySortedBy byte_cmp names → IsStrictlySortedBy path_cmp (map (λ name. folder ++ name ∷ []) names)
unfolding IsStrictlySortedBy
shown_ascend folder [] sorted = tt
shown_ascend folder (name ∷ names) sorted = (firsts names sorted.0, shown_ascend folder names sorted.1)
  where
    firsts : (names : List (List ℕ)) → AllByRecursion (λ y. byte_cmp name y ≡ Less) names → AllByRecursion (λ y. path_cmp (folder ++ name ∷ []) y ≡ Less) (map (λ n. folder ++ n ∷ []) names)
    firsts [] all = tt
    firsts (y ∷ ys) all = (name_order folder name y all.0, firsts ys all.1)

below_ascend : (t : FileTree) (origin : Origin) (segment : List ℕ) (folder : List (List ℕ)) → IsStrictlySortedBy path_cmp (below t origin segment folder)
unfolding IsStrictlySortedBy
below_ascend t origin segment folder = by_case (is_wild segment) (is_installed origin.project (seen_from origin folder)) (is_folder (entry_at t (seen_from origin folder)))
  where
    by_case : (b installed there : Bool) → IsStrictlySortedBy path_cmp (cond b (cond installed [] (shown_in folder (cond there (names_in t (seen_from origin folder)) []))) ((folder ++ segment ∷ []) ∷ []))
    by_case true true there = tt
    by_case true false true = shown_ascend folder (filter (λ n. not (is_hidden n)) (names_in t (seen_from origin folder))) (IsStrictlySortedBy-filter byte_cmp (λ n. not (is_hidden n)) (names_in t (seen_from origin folder)) (names_ascend t (seen_from origin folder)))
    by_case true false false = tt
    by_case false installed there = (tt, tt)

pub reached_level : (t : FileTree) (origin : Origin) (segments : List (List ℕ)) (depth : ℕ) (folders : List (List (List ℕ))) → IsLevel depth folders → IsLevel (length segments + depth) (reached t origin segments folders)
reached_level t origin [] depth folders level = record { deep = all_mapped (λ f. length f ≡ depth) (λ f. length f ≡ 0 + depth) folders (λ f d. d ∙ (omega arith)) level.deep; ascend = level.ascend }
reached_level t origin (segment ∷ segments) depth folders level =
    let next = next_level (below t origin segment) (below_are t origin segment) (below_ascend t origin segment) depth folders level in
    let all = reached_level t origin segments (depth + 1) (named t origin segment folders) next in
    record { deep = all_mapped (λ f. length f ≡ length segments + (depth + 1)) (λ f. length f ≡ length (segment ∷ segments) + depth) (reached t origin (segment ∷ segments) folders) (λ f d. d ∙ (omega arith)) all.deep; ascend = all.ascend }

-- ---- what is there

some_folder : (e : Option Entry) → is_folder e ≡ true → is_some e ≡ true
some_folder None is = absurd cc
some_folder (Some (entries.File bytes)) is = absurd cc
some_folder (Some entries.Folder) is = refl
some_folder (Some entries.Other) is = absurd cc

pub has_name : (t : FileTree) (folder : List (List ℕ)) (name : List ℕ) → is_folder (entry_at t (folder ++ name ∷ [])) ≡ true → HasName t folder name
has_name t [] name is = some_folder (entry_at t (name ∷ [])) is
has_name t (x ∷ folder) name is = some_folder (entry_at t (x ∷ (folder ++ name ∷ []))) is

pub folder_above : (t : FileTree) (folder : List (List ℕ)) (name : List ℕ) → IsTree t → HasName t folder name → is_folder (entry_at t folder) ≡ true
folder_above t folder name tree has = rw (without_last-snoc folder name) at (tree.below_folders (folder ++ name ∷ []) has)

pub front_is_folder : (t : FileTree) (path more : List (List ℕ)) → IsTree t → is_folder (entry_at t (path ++ more)) ≡ true → is_folder (entry_at t path) ≡ true
front_is_folder t path [] tree is = rw (append-nil path) at is
front_is_folder t path (name ∷ more) tree is =
    folder_above t path name tree (has_name t path name (front_is_folder t (path ++ name ∷ []) more tree (rw (append_assoc path (name ∷ []) more) is)))

front_apart : (head path more : List (List ℕ)) (b : Option (List (List ℕ))) → behind head (path ++ more) ≡ b → is_some b ≡ false → is_within head path ≡ false
front_apart head path more None e is = ap is_some (not_behind_front head path more e)
front_apart head path more (Some rest) e is = absurd cc

either : (a b : Bool) → (a || b) ≡ false → (a ≡ false) × (b ≡ false)
either true b e = absurd cc
either false b e = (refl, e)

pub front_not_installed : (project path more : List (List ℕ)) → is_installed project (path ++ more) ≡ false → is_installed project path ≡ false
unfolding is_installed
front_not_installed project path more e =
    let parts = either (is_within (vendor_path project) (path ++ more)) (is_within (work_path project) (path ++ more)) e in
    let first = front_apart (vendor_path project) path more (behind (vendor_path project) (path ++ more)) refl parts.0 in
    let second = front_apart (work_path project) path more (behind (work_path project) (path ++ more)) refl parts.1 in
    rw (first, second) refl

-- ---- all that is there is reached

shown_among : (folder : List (List ℕ)) (name : List ℕ) (names : List (List ℕ)) → is_hidden name ≡ false → list_any (eq_by_cmp byte_cmp name) names ≡ true → list_any (is_same (folder ++ name ∷ [])) (shown_in folder names) ≡ true
shown_among folder name [] shown among = absurd cc
shown_among folder name (first ∷ names) shown among = by_case (is_hidden first) refl (one_of (eq_by_cmp byte_cmp name first) (list_any (eq_by_cmp byte_cmp name) names) among) (shown_among folder name names shown)
  where
    by_case : (b : Bool) → is_hidden first ≡ b → (eq_by_cmp byte_cmp name first ≡ true) ⊎ (list_any (eq_by_cmp byte_cmp name) names ≡ true)
        → (list_any (eq_by_cmp byte_cmp name) names ≡ true → list_any (is_same (folder ++ name ∷ [])) (shown_in folder names) ≡ true)
        → list_any (is_same (folder ++ name ∷ [])) (map (λ n. folder ++ n ∷ []) (cond (not b) (first ∷ filter (λ n. not (is_hidden n)) names) (filter (λ n. not (is_hidden n)) names))) ≡ true
    by_case true is (inl same) more = let e = byte_cmp_exact name first (equal_of (byte_cmp name first) same) in absurd (let h : is_hidden name ≡ true = ap is_hidden e ∙ is in cc)
    by_case true is (inr rest) more = more rest
    by_case false is (inl same) more =
        let e = byte_cmp_exact name first (equal_of (byte_cmp name first) same) in
        let one = is_same_path (folder ++ name ∷ []) (folder ++ first ∷ []) (ap (λ n. folder ++ n ∷ []) e) in
        rw one refl
    by_case false is (inr rest) more = rw (more rest) (or_true (is_same (folder ++ name ∷ []) (folder ++ first ∷ [])))

named_there : (t : FileTree) (origin : Origin) (segment name : List ℕ) (folder : List (List ℕ)) → fits segment name ≡ true → is_folder (entry_at t (seen_from origin folder)) ≡ true → HasName t (seen_from origin folder) name
    → is_installed origin.project (seen_from origin folder) ≡ false → list_any (is_same (folder ++ name ∷ [])) (below t origin segment folder) ≡ true
named_there t origin segment name folder fit there has free = by_case (is_wild segment) fit
  where
    not_hidden : (b : Bool) → not b ≡ true → b ≡ false
    not_hidden true e = absurd cc
    not_hidden false e = refl

    by_case : (b : Bool) → cond b (not (is_hidden name)) (bytes_are_equal segment name) ≡ true → list_any (is_same (folder ++ name ∷ [])) (cond b (children t origin folder) ((folder ++ segment ∷ []) ∷ [])) ≡ true
    by_case true e = rw (free, there) (shown_among folder name (names_in t (seen_from origin folder)) (not_hidden (is_hidden name) e) (listed t (seen_from origin folder) name has))
    by_case false e =
        let one = is_same_path (folder ++ name ∷ []) (folder ++ segment ∷ []) (ap (λ n. folder ++ n ∷ []) (sym (same_bytes segment name e))) in
        rw one refl

pub all_reached : (t : FileTree) (origin : Origin) (segments names folder : List (List ℕ)) (folders : List (List (List ℕ))) → IsTree t → list_any (is_same folder) folders ≡ true → fit_all segments names ≡ true
    → is_folder (entry_at t (seen_from origin (folder ++ names))) ≡ true → is_installed origin.project (seen_from origin (folder ++ names)) ≡ false → list_any (is_same (folder ++ names)) (reached t origin segments folders) ≡ true
all_reached t origin [] [] folder folders tree among fit there free = rw (append-nil folder) among
all_reached t origin [] (name ∷ names) folder folders tree among fit there free = absurd cc
all_reached t origin (segment ∷ segments) [] folder folders tree among fit there free = absurd cc
all_reached t origin (segment ∷ segments) (name ∷ names) folder folders tree among fit there free =
    let parts = both (fits segment name) (fit_all segments names) fit in
    let start = origin.start in
    let on : folder ++ name ∷ names ≡ (folder ++ name ∷ []) ++ names = sym (append_assoc folder (name ∷ []) names) in
    let whole : start ++ (folder ++ name ∷ names) ≡ (start ++ (folder ++ name ∷ [])) ++ names = ap (λ p. start ++ p) on ∙ sym (append_assoc start (folder ++ name ∷ []) names) in
    let one : is_folder (entry_at t (start ++ (folder ++ name ∷ []))) ≡ true = front_is_folder t (start ++ (folder ++ name ∷ [])) names tree (rw whole at there) in
    let split : start ++ (folder ++ name ∷ []) ≡ (start ++ folder) ++ name ∷ [] = sym (append_assoc start folder (name ∷ [])) in
    let up : is_folder (entry_at t (start ++ folder)) ≡ true = front_is_folder t (start ++ folder) (name ∷ []) tree (rw split at one) in
    let apart : is_installed origin.project (start ++ folder) ≡ false = front_not_installed origin.project (start ++ folder) (name ∷ names) (rw (← append_assoc start folder (name ∷ names)) at free) in
    let here = named_there t origin segment name folder parts.0 up (has_name t (start ++ folder) name (rw split at one)) apart in
    rw on (all_reached t origin segments names (folder ++ name ∷ []) (named t origin segment folders) tree
    (among_below (below t origin segment) (folder ++ name ∷ []) folder folders among here) parts.1 (rw on at there) (rw on at free))
