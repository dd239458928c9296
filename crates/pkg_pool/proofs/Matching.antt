-- The folders that a url names are those that it matches.
use Rattle.std.proofs.Common.{T, ◌≡◌, ℕ, Bool, true, false, cond, ◌||◌, ◌⊎◌, inl, inr, List, [], ◌∷◌, ◌++◌, map, take, drop, Option, Some, None, Ok, Err, refl, sym, ap, ◌∙◌, append_assoc, append-nil}
use Rattle.std.specs.Prelude.{is_some, codes, not, ◌&&◌}
use Rattle.std.specs.List.{filter, filter_map, list_any, cons_option, AllByRecursion}
use Rattle.std.specs.List.Sorted.{IsStrictlySortedBy}
use Rattle.std.specs.FinMap.{entries, entries_sorted, contains_key, contains_key-keys, keys, is_sorted}
use Rattle.std.specs.FinMap.Entries.{below_all}
use Rattle.std.specs.Ordering.{is_lt}
use Rattle.std.specs.declared.cmp.Ordering.{Ordering}
use Rattle.std.specs.declared.cmp.Ordering.TheVariants.{Less, Equal, Greater}
use Rattle.std.proofs.lemmas.List.{take-append-drop}
use Rattle.std.proofs.lemmas.List.Kept.{IsStrictlySortedBy-filter}
use Rattle.std.proofs.lemmas.Map.Lookups.{btree_set_from_contains}
use Rattle.path_name.specs.Given.{◌>>=◌}
use Rattle.path_name.specs.Orders.{path_cmp, path_cmp_total, path_cmp_exact}
use Rattle.tree_dev.specs.Told.{both, one_of}
use Rattle.tree_dev.specs.Trees.{FileTree, IsTree, entry_at, is_folder, kind_at, kind_of, behind}
use Rattle.tree_dev.specs.Kinds.{names_entry}
use Rattle.tree_dev.specs.Projects.{is_within}
use Rattle.tree_dev.specs.Listing.{HasName}
use Rattle.tree_dev.specs.declared.entry.Entry.{Entry}
use Rattle.tree_dev.specs.declared.entry.Entry.TheVariants as kinds
use Rattle.tree_dev.proofs.Behind.{behind_head, head_behind}
use Rattle.tree_dev.proofs.NameOrder.{same_head}
use Rattle.tree_dev.proofs.SamePaths.{is_same, same_path, is_same_path}
use Rattle.pkg_pool.specs.declared.fault.PoolFault.{PoolFault}
use Rattle.pkg_pool.specs.declared.origin.Origin.{Origin}
use Rattle.pkg_pool.specs.Outcomes.{each_in_turn}
use Rattle.pkg_pool.specs.Patterns.{Found, is_wild, is_installed, is_barred, seen_from, is_counted, entry_refused, none_is_there, too_deep, near_count, pattern_expanded, segment_expanded, stars_expanded, sole_folder, fixed_part, wild_part, parts_expanded, url_expanded}
use Rattle.pkg_pool.specs.Manifests.{manifest_path}
use Rattle.pkg_pool.specs.Matches.{fits, fit_all, holds_manifest, matches}
use Rattle.pkg_pool.proofs.Levels.{of_all, or_true}
use Rattle.pkg_pool.proofs.Reached.{children, went_on, all_went_on, below, named, reached, reached-append, segment_is, pattern_is}
use Rattle.pkg_pool.proofs.Fitting.{reached_fit, reached_level, all_reached, folder_above, front_is_folder, front_not_installed}

-- ---- two lists in path order with the same members

same_lists : (xs ys : List (List (List ℕ))) → IsStrictlySortedBy path_cmp xs → IsStrictlySortedBy path_cmp ys → ((q : List (List ℕ)) → list_any (is_same q) xs ≡ list_any (is_same q) ys) → xs ≡ ys
same_lists xs ys first second same = btree_set_from_contains path_cmp_total (record { keys = xs }) (record { keys = ys }) first second same path_cmp_exact

and_false : (b : Bool) → (b && false) ≡ false
and_false true = refl
and_false false = refl

among_filter : (p : List (List ℕ) → Bool) (q : List (List ℕ)) (xs : List (List (List ℕ))) → list_any (is_same q) (filter p xs) ≡ (p q && list_any (is_same q) xs)
among_filter p q [] = sym (and_false (p q))
among_filter p q (x ∷ xs) = by_case (p x) (is_same q x) refl refl (among_filter p q xs)
  where
    kept : is_same q x ≡ true → p q ≡ p x
    kept same = ap p (same_path q x same)

    by_case : (b s : Bool) → p x ≡ b → is_same q x ≡ s → list_any (is_same q) (filter p xs) ≡ (p q && list_any (is_same q) xs)
        → list_any (is_same q) (cond b (x ∷ filter p xs) (filter p xs)) ≡ (p q && (s || list_any (is_same q) xs))
    by_case true true is same more = let h : p q ≡ true = kept same ∙ is in rw (same, h) refl
    by_case true false is same more = rw same more
    by_case false true is same more = let h : p q ≡ false = kept same ∙ is in more ∙ rw h refl
    by_case false false is same more = more

-- ---- the paths behind a folder

behind_order : (start p q r s : List (List ℕ)) → behind start p ≡ Some r → behind start q ≡ Some s → path_cmp p q ≡ Less → path_cmp r s ≡ Less
behind_order start p q r s e h less = sym (same_head start r s) ∙ (rw (← head_behind start p r e, ← head_behind start q s h) less)

t_true : (b : Bool) → T b → b ≡ true
t_true true p = refl
t_true false p = absurd p

lt_less : (o : Ordering) → is_lt o ≡ true → o ≡ Less
lt_less Less e = refl
lt_less Equal e = absurd cc
lt_less Greater e = absurd cc

later_behind : (start p r : List (List ℕ)) (es : List (List (List ℕ) × Entry)) → behind start p ≡ Some r → below_all path_cmp p es ≡ true
    → AllByRecursion (λ y. path_cmp r y ≡ Less) (filter_map (behind start) (map (λ e. e.0) es))
later_behind start p r [] is under = tt
later_behind start p r (e ∷ es) is under = step (behind start e.0) refl (later_behind start p r es is parts.1)
  where
    parts : (is_lt (path_cmp p e.0) ≡ true) × (below_all path_cmp p es ≡ true)
    parts = both (is_lt (path_cmp p e.0)) (below_all path_cmp p es) under

    step : (rest : Option (List (List ℕ))) → behind start e.0 ≡ rest → AllByRecursion (λ y. path_cmp r y ≡ Less) (filter_map (behind start) (map (λ e. e.0) es))
        → AllByRecursion (λ y. path_cmp r y ≡ Less) (cons_option rest (filter_map (behind start) (map (λ e. e.0) es)))
    step None h more = more
    step (Some y) h more = (behind_order start p e.0 r y is h (lt_less (path_cmp p e.0) parts.0), more)

sorted_behind : (start : List (List ℕ)) (es : List (List (List ℕ) × Entry)) → is_sorted path_cmp es ≡ true → IsStrictlySortedBy path_cmp (filter_map (behind start) (map (λ e. e.0) es))
unfolding IsStrictlySortedBy
sorted_behind start [] sorted = tt
sorted_behind start (e ∷ es) sorted = step (behind start e.0) refl (sorted_behind start es parts.1)
  where
    parts : (below_all path_cmp e.0 es ≡ true) × (is_sorted path_cmp es ≡ true)
    parts = both (below_all path_cmp e.0 es) (is_sorted path_cmp es) sorted

    step : (rest : Option (List (List ℕ))) → behind start e.0 ≡ rest → IsStrictlySortedBy path_cmp (filter_map (behind start) (map (λ e. e.0) es))
        → IsStrictlySortedBy path_cmp (cons_option rest (filter_map (behind start) (map (λ e. e.0) es)))
    step None h more = more
    step (Some x) h more = (later_behind start e.0 x es h parts.0, more)

among_behind : (start q : List (List ℕ)) (paths : List (List (List ℕ))) → list_any (is_same (start ++ q)) paths ≡ true → list_any (is_same q) (filter_map (behind start) paths) ≡ true
among_behind start q [] among = absurd cc
among_behind start q (path ∷ paths) among = step (behind start path) refl (one_of (is_same (start ++ q) path) (list_any (is_same (start ++ q)) paths) among) (among_behind start q paths)
  where
    here : is_same (start ++ q) path ≡ true → behind start path ≡ Some q
    here same = ap (behind start) (sym (same_path (start ++ q) path same)) ∙ behind_head start q

    step : (rest : Option (List (List ℕ))) → behind start path ≡ rest → (is_same (start ++ q) path ≡ true) ⊎ (list_any (is_same (start ++ q)) paths ≡ true)
        → (list_any (is_same (start ++ q)) paths ≡ true → list_any (is_same q) (filter_map (behind start) paths) ≡ true)
        → list_any (is_same q) (cons_option rest (filter_map (behind start) paths)) ≡ true
    step None h (inl same) more = absurd (let e = here same in cc)
    step None h (inr rest) more = more rest
    step (Some x) h (inl same) more =
        let e = here same in
        let is : q ≡ x = cc in
        let one = is_same_path q x is in
        rw one refl
    step (Some x) h (inr rest) more = rw (more rest) (or_true (is_same q x))

-- ---- what is known of all folders that a url names

pub record IsExpansion (t : FileTree) (origin : Origin) (segments : List (List ℕ)) (paths : List (List (List ℕ))) : Type 0 where
  pub ascend : IsStrictlySortedBy path_cmp paths
  pub fitting : AllByRecursion (λ p. fit_all segments p ≡ true) paths
  pub whole : (q : List (List ℕ)) → fit_all segments q ≡ true → is_folder (entry_at t (seen_from origin q)) ≡ true → is_installed origin.project (seen_from origin q) ≡ false → list_any (is_same q) paths ≡ true

from_start : (t : FileTree) (origin : Origin) (segments : List (List ℕ)) → IsTree t → IsExpansion t origin segments (reached t origin segments ([] ∷ []))
unfolding IsStrictlySortedBy
from_start t origin segments tree = record {
  ascend = (reached_level t origin segments 0 ([] ∷ []) (record { deep = (refl, tt); ascend = (tt, tt) })).ascend;
  fitting = reached_fit t origin [] segments ([] ∷ []) (refl, tt);
  whole = λ q fit there free. all_reached t origin segments q [] ([] ∷ []) tree refl fit there free;
}

one_part : (segment : List ℕ) (segments : List (List ℕ)) (b : Bool) → fixed_part segments ++ wild_part segments ≡ segments → cond b [] (segment ∷ fixed_part segments) ++ cond b (segment ∷ segments) (wild_part segments) ≡ segment ∷ segments
one_part segment segments true more = refl
one_part segment segments false more = ap (λ rest. segment ∷ rest) more

both_parts : (segments : List (List ℕ)) → fixed_part segments ++ wild_part segments ≡ segments
both_parts [] = refl
both_parts (segment ∷ segments) = one_part segment segments (is_wild segment) (both_parts segments)

fixed_reached : (t : FileTree) (origin : Origin) (segments folder : List (List ℕ)) → reached t origin (fixed_part segments) (folder ∷ []) ≡ (folder ++ fixed_part segments) ∷ []
fixed_reached t origin [] folder = ap (λ f. f ∷ []) (sym (append-nil folder))
fixed_reached t origin (segment ∷ segments) folder = by_case (is_wild segment) refl (fixed_reached t origin segments (folder ++ segment ∷ []))
  where
    by_case : (b : Bool) → is_wild segment ≡ b → reached t origin (fixed_part segments) ((folder ++ segment ∷ []) ∷ []) ≡ ((folder ++ segment ∷ []) ++ fixed_part segments) ∷ []
        → reached t origin (cond b [] (segment ∷ fixed_part segments)) (folder ∷ []) ≡ (folder ++ cond b [] (segment ∷ fixed_part segments)) ∷ []
    by_case true is more = ap (λ f. f ∷ []) (sym (append-nil folder))
    by_case false is more =
        ap (λ b. reached t origin (fixed_part segments) (cond b (children t origin folder) ((folder ++ segment ∷ []) ∷ []) ++ [])) is ∙ more ∙ ap (λ f. f ∷ []) (append_assoc folder (segment ∷ []) (fixed_part segments))

-- none of the folders that lie too deep is there
none_there : (t : FileTree) (origin : Origin) (paths : List (List (List ℕ))) → each_in_turn (λ path passed. entry_refused t origin path) paths tt ≡ Ok tt → AllByRecursion (λ p. is_counted t origin p ≡ false) paths
unfolding entry_refused
none_there t origin [] e = tt
none_there t origin (path ∷ paths) e =
    let w = all_went_on (λ path passed. entry_refused t origin path) path paths tt tt e in
    (passed path w.0 w.1, none_there t origin paths w.2)
  where
    by_case : (path : List (List ℕ)) (fault : PoolFault) (next : Unit {0}) (b : Bool) → cond b (Err fault) (Ok tt) ≡ Ok next → b ≡ false
    by_case path fault next true e = absurd cc
    by_case path fault next false e = refl

    passed : (path : List (List ℕ)) (next : Unit {0}) → entry_refused t origin path ≡ Ok next → is_counted t origin path ≡ false
    passed path next e = by_case path _ next (is_counted t origin path) e

counted : (t : FileTree) (origin : Origin) (path : List (List ℕ)) → is_folder (entry_at t (seen_from origin path)) ≡ true → is_installed origin.project (seen_from origin path) ≡ false → is_counted t origin path ≡ true
unfolding is_counted kind_at
counted t origin path there free = rw free (is_there (entry_at t (seen_from origin path)) there)
  where
    is_there : (e : Option Entry) → is_folder e ≡ true → names_entry (kind_of e) ≡ true
    is_there None is = absurd cc
    is_there (Some (kinds.File bytes)) is = absurd cc
    is_there (Some kinds.Folder) is = refl
    is_there (Some kinds.Other) is = absurd cc

and_true : (a b : Bool) → a ≡ true → b ≡ true → (a && b) ≡ true
and_true true b e h = h
and_true false b e h = absurd cc

fit_front : (first second q : List (List ℕ)) → fit_all (first ++ second) q ≡ true → (front : List (List ℕ)) × (back : List (List ℕ)) × (q ≡ front ++ back) × (fit_all first front ≡ true)
fit_front [] second q fit = ([], q, refl, refl)
fit_front (segment ∷ first) second [] fit = absurd cc
fit_front (segment ∷ first) second (name ∷ q) fit =
    let parts = both (fits segment name) (fit_all (first ++ second) q) fit in
    let more = fit_front first second q parts.1 in
    (name ∷ more.0, more.1, ap (λ r. name ∷ r) more.2, and_true (fits segment name) (fit_all first more.0) parts.0 more.3)

-- what lies deeper than may be matched
too_deep_is : (t : FileTree) (origin : Origin) (front pattern : List (List ℕ)) (near found : Found) → IsTree t → near.paths ≡ reached t origin front ([] ∷ []) → too_deep t origin pattern near ≡ Ok found
    → IsExpansion t origin (front ++ pattern) found.paths
unfolding too_deep IsStrictlySortedBy
too_deep_is t origin front [] near found tree is e =
    let same : near ≡ found = cc in
    rw (← same, append-nil front, is) (from_start t origin front tree)
too_deep_is t origin front (segment ∷ pattern) near found tree is e =
    let w = went_on (segment_expanded t origin segment near) (λ next. none_is_there t origin next.paths >>= λ passed. Ok (record { paths = []; left = next.left })) found e in
    let v = went_on (none_is_there t origin w.0.paths) (λ passed. Ok (record { paths = []; left = w.0.left })) found w.2 in
    let empty : [] ≡ found.paths = let h = v.2 in cc in
    let all = none_there t origin w.0.paths v.1 in
    let next : w.0.paths ≡ reached t origin (front ++ segment ∷ []) ([] ∷ []) = segment_is t origin segment near w.0 w.1 ∙ ap (named t origin segment) is ∙ sym (reached-append t origin front (segment ∷ []) ([] ∷ [])) in
    rw (← empty) (record {
      ascend = tt;
      fitting = tt;
      whole = λ q fit there free.
          let part = fit_front (front ++ segment ∷ []) pattern q (rw (append_assoc front (segment ∷ []) pattern) fit) in
          let split : seen_from origin q ≡ seen_from origin part.0 ++ part.1 = ap (seen_from origin) part.2 ∙ sym (append_assoc origin.start part.0 part.1) in
          let stands = front_is_folder t (seen_from origin part.0) part.1 tree (rw split at there) in
          let apart = front_not_installed origin.project (seen_from origin part.0) part.1 (rw split at free) in
          let here : list_any (is_same part.0) w.0.paths ≡ true = rw next ((from_start t origin (front ++ segment ∷ []) tree).whole part.0 part.3 stands apart) in
          let no = of_all (λ p. is_counted t origin p ≡ false) part.0 w.0.paths all here in
          let yes = counted t origin part.0 stands apart in
          absurd cc;
    })

stars_are : (t : FileTree) (origin : Origin) (fixed pattern : List (List ℕ)) (left : ℕ) (found : Found) → IsTree t → reached t origin fixed ([] ∷ []) ≡ fixed ∷ [] → stars_expanded t origin pattern fixed left ≡ Ok found
    → IsExpansion t origin (fixed ++ pattern) found.paths
unfolding stars_expanded
stars_are t origin fixed pattern left found tree start e =
    let n = near_count pattern in
    let w = went_on (pattern_expanded t origin (take n pattern) (record { paths = fixed ∷ []; left = left })) (λ near. too_deep t origin (drop n pattern) near) found e in
    let near = pattern_is t origin (take n pattern) (record { paths = fixed ∷ []; left = left }) w.0 w.1 in
    let is : w.0.paths ≡ reached t origin (fixed ++ take n pattern) ([] ∷ []) = near ∙ ap (reached t origin (take n pattern)) (sym start) ∙ sym (reached-append t origin fixed (take n pattern) ([] ∷ [])) in
    let all : (fixed ++ take n pattern) ++ drop n pattern ≡ fixed ++ pattern = append_assoc fixed (take n pattern) (drop n pattern) ∙ ap (λ p. fixed ++ p) (take-append-drop n pattern) in
    rw (← all) (too_deep_is t origin (fixed ++ take n pattern) (drop n pattern) w.0 found tree is w.2)

parts_are : (t : FileTree) (origin : Origin) (fixed pattern : List (List ℕ)) (left : ℕ) (found : Found) → IsTree t → reached t origin fixed ([] ∷ []) ≡ fixed ∷ [] → parts_expanded t origin fixed pattern left ≡ Ok found
    → IsExpansion t origin (fixed ++ pattern) found.paths
parts_are t origin fixed [] left found tree start e =
    let w = went_on (sole_folder t origin fixed) (λ passed. Ok (record { paths = fixed ∷ []; left = left })) found e in
    let is : found.paths ≡ reached t origin fixed ([] ∷ []) = let h = w.2 in let s : record { paths = fixed ∷ []; left = left } ≡ found = cc in ap (λ f. f.paths) (sym s) ∙ sym start in
    rw (append-nil fixed, is) (from_start t origin fixed tree)
parts_are t origin fixed (star ∷ pattern) left found tree start e = stars_are t origin fixed (star ∷ pattern) left found tree start e

pub expansion : (t : FileTree) (origin : Origin) (segments : List (List ℕ)) (left : ℕ) (found : Found) → IsTree t → url_expanded t origin segments left ≡ Ok found → IsExpansion t origin segments found.paths
unfolding url_expanded
expansion t origin segments left found tree e =
    rw (both_parts segments) at (parts_are t origin (fixed_part segments) (wild_part segments) left found tree (fixed_reached t origin segments []) e)

-- ---- those of packages

record IsPlace (t : FileTree) (origin : Origin) (folder : List (List ℕ)) : Type 0 where
  there : is_folder (entry_at t (seen_from origin folder)) ≡ true
  free : is_installed origin.project (seen_from origin folder) ≡ false
  has : contains_key t (seen_from origin folder) ≡ true

not_true : (b : Bool) → not b ≡ true → b ≡ false
not_true true e = absurd cc
not_true false e = refl

either : (a b : Bool) → (a || b) ≡ false → (a ≡ false) × (b ≡ false)
either true b e = absurd cc
either false b e = (refl, e)

some_entry : (e : Option Entry) → names_entry (kind_of e) ≡ true → is_some e ≡ true
some_entry None is = absurd cc
some_entry (Some e) is = refl

has_manifest : (t : FileTree) (folder : List (List ℕ)) (name : List ℕ) → names_entry (kind_at t (folder ++ name ∷ [])) ≡ true → HasName t folder name
unfolding kind_at
has_manifest t [] name is = some_entry (entry_at t (name ∷ [])) is
has_manifest t (x ∷ folder) name is = some_entry (entry_at t (x ∷ (folder ++ name ∷ []))) is

not_root_key : (t : FileTree) (project path : List (List ℕ)) → is_within path project ≡ false → is_folder (entry_at t path) ≡ true → contains_key t path ≡ true
not_root_key t project [] below is = absurd cc
not_root_key t project (x ∷ path) below is = by_case (entry_at t (x ∷ path)) is
  where
    by_case : (e : Option Entry) → is_folder e ≡ true → is_some e ≡ true
    by_case None is = absurd cc
    by_case (Some e) is = refl

place : (t : FileTree) (origin : Origin) (folder : List (List ℕ)) → IsTree t → holds_manifest t origin folder ≡ true → IsPlace t origin folder
unfolding holds_manifest is_barred
place t origin folder tree holds =
    let seen = seen_from origin folder in
    let parts = both (not (is_barred origin.project seen)) (names_entry (kind_at t (manifest_path seen))) holds in
    let apart = either (is_within seen origin.project) (is_installed origin.project seen) (not_true (is_barred origin.project seen) parts.0) in
    let there = folder_above t seen (codes "composer.json") tree (has_manifest t seen (codes "composer.json") parts.1) in
    record { there = there; free = apart.1; has = not_root_key t origin.project seen apart.0 there }

members : (fit holds among there : Bool) → (holds ≡ true → there ≡ true) → (among ≡ true → fit ≡ true) → (holds ≡ true → fit ≡ true → among ≡ true) → (holds && among) ≡ ((fit && holds) && there)
members true true true true a b d = refl
members true true true false a b d = let h = a refl in absurd cc
members true true false there a b d = let h = d refl refl in absurd cc
members true false among there a b d = refl
members false true true there a b d = let h = b refl in absurd cc
members false true false there a b d = refl
members false false among there a b d = refl

pub found_matches : (t : FileTree) (origin : Origin) (segments : List (List ℕ)) (paths : List (List (List ℕ))) → IsTree t → IsExpansion t origin segments paths → filter (holds_manifest t origin) paths ≡ matches t origin segments
unfolding matches
found_matches t origin segments paths tree all =
    let p = λ (folder : List (List ℕ)). fit_all segments folder && holds_manifest t origin folder in
    let behinds = filter_map (behind origin.start) (keys t) in
    same_lists (filter (holds_manifest t origin) paths) (filter p behinds) (IsStrictlySortedBy-filter path_cmp (holds_manifest t origin) paths all.ascend)
    (IsStrictlySortedBy-filter path_cmp p behinds (sorted_behind origin.start (entries t) (t_true (is_sorted path_cmp (entries t)) (entries_sorted t))))
    (λ q. among_filter (holds_manifest t origin) q paths
    ∙ members (fit_all segments q) (holds_manifest t origin q) (list_any (is_same q) paths) (list_any (is_same q) behinds)
    (λ holds. among_behind origin.start q (keys t) (sym (contains_key-keys t (seen_from origin q)) ∙ (place t origin q tree holds).has))
    (λ among. of_all (λ f. fit_all segments f ≡ true) q paths all.fitting among)
    (λ holds fit. let here = place t origin q tree holds in all.whole q fit here.there here.free)
    ∙ sym (among_filter p q behinds))
