-- Folders that are removed in the order of their paths, the last one first, so that each is empty.
use Rattle.std.proofs.Common.{◌≡◌, ◌≢◌, ◌<◌, ℕ, length, arith, Bool, true, false, cond, List, [], ◌∷◌, ◌++◌, Option, Some, None, is_some, refl, sym, ap, ◌∙◌, subst, inl, inr, append_assoc}
use Rattle.std.specs.Prelude.{◌⊎◌, ◌&&◌, ◌||◌, ◌↔◌, not, IsTrue, Contains}
use Rattle.std.specs.BTreeMap.{is_at}
use Rattle.std.specs.BTreeSet.{BTreeSet, contains}
use Rattle.std.specs.FinMap as map
use Rattle.std.specs.List.{list_any}
use Rattle.std.specs.Ordering.{eq_by_cmp, is_lt}
use Rattle.std.proofs.lemmas.Cmp.{eq_by_cmp_equiv}
use Rattle.std.proofs.lemmas.List.Elements.{Contains-append_cases, Contains-append_left, Contains-append_right}
use Rattle.path_name.specs.Orders.{path_cmp, path_cmp_total}
use Rattle.tree_dev.specs.Trees.{FileTree, IsTree, entry_at, is_folder, names_in}
use Rattle.tree_dev.specs.Changes.{changed, did, has_no_names, has_place, is_root}
use Rattle.tree_dev.specs.Told.{equal_paths}
use Rattle.tree_dev.specs.declared.change.Change.TheVariants as changes
use Rattle.tree_dev.specs.declared.did.Did.{Did}
use Rattle.tree_dev.specs.declared.did.Did.TheVariants as dids
use Rattle.tree_dev.specs.declared.entry.Entry.{Entry}
use Rattle.tree_dev.specs.declared.entry.Entry.TheVariants as entries
use Rattle.tree_dev.proofs.Changed.{get-changed}
use Rattle.tree_dev.proofs.NameOrder.{head_is_before}
use Rattle.tree_dev.proofs.NamesIn.{is_name_of, name_itself, names_exactly}
use Rattle.install_world.specs.Emptied.{AreCovered, AreInSet, IsBare, IsNewFolder}
use Rattle.install_world.specs.InFlight.{IsThere}
use Rattle.install_world.proofs.ApartPaths.{up_to}
use Rattle.install_world.proofs.LeavesGone.{is_one, none_on, not_root_below, one_on}
use Rattle.install_world.proofs.PlacesFree.{placed_is_done}
use Rattle.install_world.proofs.WayMoves.{entry_is}

-- ---- a list and a set with the same paths

abbrev pub IsSame : BTreeSet (List (List ℕ)) → List (List (List ℕ)) → Type 0
IsSame set list = (path : List (List ℕ)) → IsTrue (contains path_cmp set path) ↔ Contains list path

-- Each path of a list is in a set or on the rest of the list, and none else.
pub record AreShared (list rest : List (List (List ℕ))) (set : BTreeSet (List (List ℕ))) : Type 0 where
  pub each : (path : List (List ℕ)) → Contains list path → IsTrue (contains path_cmp set path) ⊎ Contains rest path
  pub none_else : (path : List (List ℕ)) → IsTrue (contains path_cmp set path) ⊎ Contains rest path → Contains list path

none_in : (path : List (List ℕ)) (set : BTreeSet (List (List ℕ))) → set.keys ≡ [] → IsTrue (contains path_cmp set path) → ⊥
none_in path set none has = by set.keys none has
  where
    by : (keys : List (List (List ℕ))) → keys ≡ [] → list_any (is_at (path_cmp path)) keys ≡ true → ⊥
    by [] e h = absurd cc
    by (x ∷ xs) e h = absurd cc

pub shared_start : (list : List (List (List ℕ))) (set : BTreeSet (List (List ℕ))) → set.keys ≡ [] → AreShared list list set
shared_start list set none = record {
  each = λ path on. inr on;
  none_else = λ path either. elim either [ inl has ↦ absurd (none_in path set none has) | inr on ↦ on ];
}

tied : (path : List (List ℕ)) → is_at (path_cmp path) path ≡ true
tied path = (eq_by_cmp_equiv path_cmp_total).refl path

is_path : (first second : List (List ℕ)) → is_at (path_cmp first) second ≡ true → first ≡ second
is_path first second same = equal_paths first second same

always : (b : Bool) → cond b true true ≡ true
always true = refl
always false = refl

pub shared_on : (list rest less : List (List (List ℕ))) (set more : BTreeSet (List (List ℕ))) (path : List (List ℕ)) → rest ≡ less ++ path ∷ [] → AreShared list rest set
    → ((q : List (List ℕ)) → contains path_cmp more q ≡ cond (is_at (path_cmp path) q) true (contains path_cmp set q)) → AreShared list less more
shared_on list rest less set more path is shared updates = record { each = each; none_else = none_else }
  where
    kept : (q : List (List ℕ)) → IsTrue (contains path_cmp set q) → IsTrue (contains path_cmp more q)
    kept q has = updates q ∙ ap (cond (is_at (path_cmp path) q) true) has ∙ always (is_at (path_cmp path) q)

    put : (q : List (List ℕ)) → path ≡ q → IsTrue (contains path_cmp more q)
    put q same = updates q ∙ ap (λ found. cond found true (contains path_cmp set q)) (ap (is_at (path_cmp path)) (sym same) ∙ tied path)

    each : (q : List (List ℕ)) → Contains list q → IsTrue (contains path_cmp more q) ⊎ Contains less q
    each q on = elim (shared.each q on) [
      | inl has ↦ inl (kept q has)
      | inr later ↦ elim (Contains-append_cases less (path ∷ []) q (subst (λ (l : List (List (List ℕ))). Contains l q) is later)) [
        | inl still ↦ inr still
        | inr one ↦ inl (put q (is_one path q one))
      ]
    ]

    here : Contains list path
    here = shared.none_else path (inr (subst (λ (l : List (List (List ℕ))). Contains l path) (sym is) (Contains-append_right less (path ∷ []) path (one_on path))))

    from : (q : List (List ℕ)) (test : Bool) → is_at (path_cmp path) q ≡ test → cond test true (contains path_cmp set q) ≡ true → Contains list q
    from q true e has = subst (Contains list) (is_path path q e) here
    from q false e has = shared.none_else q (inl has)

    none_else : (q : List (List ℕ)) → IsTrue (contains path_cmp more q) ⊎ Contains less q → Contains list q
    none_else q (inl has) = from q (is_at (path_cmp path) q) refl (sym (updates q) ∙ has)
    none_else q (inr later) =
        shared.none_else q (inr (subst (λ (l : List (List (List ℕ))). Contains l q) (sym is) (Contains-append_left less (path ∷ []) q later)))

pub shared_all : (list : List (List (List ℕ))) (rest : List (List (List ℕ))) (set : BTreeSet (List (List ℕ))) → rest ≡ [] → AreShared list rest set → IsSame set list
shared_all list rest set none shared path = (
  λ has. shared.none_else path (inl has),
  λ on. elim (shared.each path on) [
    | inl has ↦ has
    | inr later ↦ absurd (none_on path (subst (λ (l : List (List (List ℕ))). Contains l path) none later))
  ],
)

-- ---- the folders of a set

pub set_covers : (at : List (List ℕ)) (folders : List (List (List ℕ))) (set : BTreeSet (List (List ℕ))) (t : FileTree) → IsSame set folders → AreCovered at [] folders t → AreInSet at set t
set_covers at folders set t same covered = record {
  each = λ path has. covered.each path (inr ((same path).0 has));
  all = λ path root there. elim (covered.all path root there) [
    | inl on ↦ (same path).1 on
    | inr headed ↦ absurd (none_on headed.head headed.on)
  ];
}

-- the last folder of the set has no entry
pub last_is_bare : (at : List (List ℕ)) (set : BTreeSet (List (List ℕ))) (t : FileTree) (folder : List (List ℕ)) → AreInSet at set t → IsTrue (contains path_cmp set folder)
    → ((q : List (List ℕ)) → IsTrue (contains path_cmp set q) → is_lt (path_cmp folder q) ≡ false) → IsBare (at ++ folder) t
last_is_bare at set t folder covers has greatest = record {
  below = not_root_below at folder (covers.each folder has).below;
  folder = (covers.each folder has).folder;
  none = none;
}
  where
    under : (front : List (List ℕ)) (name : List ℕ) → is_root (front ++ name ∷ []) ≡ false
    under [] name = refl
    under (x ∷ xs) name = refl

    by : (name : List ℕ) (found : Option Entry) → map.get t ((at ++ folder) ++ name ∷ []) ≡ found → map.get t ((at ++ folder) ++ name ∷ []) ≡ None
    by name None e = e
    by name (Some entry) e =
        let there : IsThere t (at ++ (folder ++ name ∷ [])) = ap (λ q. is_some (map.get t q)) (sym (append_assoc at folder (name ∷ []))) ∙ ap is_some e in
        let listed = covers.all (folder ++ name ∷ []) (under folder name) there in
        let after = up_to folder (folder ++ name ∷ []) (greatest (folder ++ name ∷ []) listed) in
        let before = head_is_before folder name in
        absurd cc

    none : (name : List ℕ) → map.get t ((at ++ folder) ++ name ∷ []) ≡ None
    none name = by name (map.get t ((at ++ folder) ++ name ∷ [])) refl

same_below : (at x y : List (List ℕ)) → at ++ x ≡ at ++ y → x ≡ y
same_below [] x y e = e
same_below (z ∷ zs) x y e = same_below zs x y cc

pub set_on : (at : List (List ℕ)) (set less : BTreeSet (List (List ℕ))) (t u : FileTree) (folder : List (List ℕ)) → AreInSet at set t
    → ((q : List (List ℕ)) → contains path_cmp less q ≡ cond (is_at (path_cmp folder) q) false (contains path_cmp set q))
    → map.get u (at ++ folder) ≡ None → ((other : List (List ℕ)) → other ≢ at ++ folder → map.get u other ≡ map.get t other) → AreInSet at less u
set_on at set less t u folder covers updates gone others = record { each = each; all = all }
  where
    had : (q : List (List ℕ)) (test : Bool) → is_at (path_cmp folder) q ≡ test → cond test false (contains path_cmp set q) ≡ true → (folder ≢ q) × IsTrue (contains path_cmp set q)
    had q true e has = absurd cc
    had q false e has = (
      λ same. (let here = ap (is_at (path_cmp folder)) (sym same) ∙ tied folder in absurd cc),
      has,
    )

    each : (path : List (List ℕ)) → IsTrue (contains path_cmp less path) → IsNewFolder at path u
    each path has =
        let before = had path (is_at (path_cmp folder) path) refl (sym (updates path) ∙ has) in
        let new = covers.each path before.1 in
        record { below = new.below; folder = others (at ++ path) (λ same. before.0 (sym (same_below at path folder same))) ∙ new.folder }

    differs : (path : List (List ℕ)) → IsThere u (at ++ path) → folder ≢ path
    differs path there same =
        let none : is_some (map.get u (at ++ path)) ≡ false = ap is_some (ap (λ p. map.get u (at ++ p)) (sym same) ∙ gone) in
        cc

    in_less : (path : List (List ℕ)) (test : Bool) → is_at (path_cmp folder) path ≡ test → folder ≢ path → IsTrue (contains path_cmp set path) → cond test false (contains path_cmp set path) ≡ true
    in_less path true e other has = absurd (other (is_path folder path e))
    in_less path false e other has = has

    all : (path : List (List ℕ)) → is_root path ≡ false → IsThere u (at ++ path) → IsTrue (contains path_cmp less path)
    all path root there =
        let other = differs path there in
        let was : IsThere t (at ++ path) = ap is_some (sym (others (at ++ path) (λ same. other (sym (same_below at path folder same))))) ∙ there in
        updates path ∙ in_less path (is_at (path_cmp folder) path) refl other (covers.all path root was)

-- the folder itself stays
pub root_stays : (at : List (List ℕ)) (t u : FileTree) (folder : List (List ℕ)) → is_root folder ≡ false → ((other : List (List ℕ)) → other ≢ at ++ folder → map.get u other ≡ map.get t other)
    → map.get t at ≡ Some entries.Folder → map.get u at ≡ Some entries.Folder
root_stays at t u folder below others stands = others at (λ same. longer at folder below same) ∙ stands
  where
    longer : (head rest : List (List ℕ)) → is_root rest ≡ false → head ≡ head ++ rest → ⊥
    longer [] [] root e = absurd cc
    longer [] (x ∷ xs) root e = absurd cc
    longer (z ∷ zs) rest root e = longer zs rest root cc

pub one_folder_less : (at : List (List ℕ)) (set less : BTreeSet (List (List ℕ))) (t u : FileTree) (folder path : List (List ℕ)) → path ≡ at ++ folder → AreInSet at set t
    → map.get t at ≡ Some entries.Folder → IsTrue (contains path_cmp set folder) → ((q : List (List ℕ)) → contains path_cmp less q ≡ cond (is_at (path_cmp folder) q) false (contains path_cmp set q))
    → map.get u path ≡ None → ((other : List (List ℕ)) → other ≢ path → map.get u other ≡ map.get t other) → AreInSet at less u × (map.get u at ≡ Some entries.Folder)
one_folder_less at set less t u folder path is covers stands has updates gone others = (
  set_on at set less t u folder covers updates (ap (map.get u) (sym is) ∙ gone) (λ other differs. others other (λ e. differs (e ∙ is))),
  root_stays at t u folder (covers.each folder has).below (λ other differs. others other (λ e. differs (e ∙ is))) stands,
)

pub folder_below : (t : FileTree) (at : List (List ℕ)) → IsTree t → map.get t at ≡ Some entries.Folder → is_root at ≡ false
folder_below t [] tree stands = let placed = tree.below_folders [] (ap is_some stands) in absurd cc
folder_below t (x ∷ xs) tree stands = refl

pub bare_at_end : (at : List (List ℕ)) (set : BTreeSet (List (List ℕ))) (t : FileTree) → IsTree t → set.keys ≡ [] → AreInSet at set t → map.get t at ≡ Some entries.Folder → IsBare at t
bare_at_end at set t tree none covers stands = record {
  below = folder_below t at tree stands;
  folder = stands;
  none = λ name. by name (map.get t (at ++ name ∷ [])) refl;
}
  where
    by : (name : List ℕ) (found : Option Entry) → map.get t (at ++ name ∷ []) ≡ found → map.get t (at ++ name ∷ []) ≡ None
    by name None e = e
    by name (Some entry) e = absurd (none_in (name ∷ []) set none (covers.all (name ∷ []) refl (ap is_some e)))

-- ---- the removal of one

no_names : (names : List (List ℕ)) → ((name : List ℕ) → is_name_of name names ≡ false) → has_no_names names ≡ true
no_names [] none = refl
no_names (name ∷ names) none =
    let wrong = none name in
    let here : is_name_of name (name ∷ names) ≡ true = ap (λ b. b || is_name_of name names) (name_itself name) in
    absurd cc

pub bare_has_place : (t : FileTree) (at : List (List ℕ)) → IsBare at t → has_place t (changes.FolderRemoved at) ≡ true
unfolding has_place
bare_has_place t at bare =
    all_three (is_folder (entry_at t at)) (is_root at) (has_no_names (names_in t at))
    (ap is_folder (entry_is t at bare.below ∙ bare.folder)) bare.below
    (no_names (names_in t at) (λ name. names_exactly t at name ∙ ap is_some (bare.none name)))
  where
    all_three : (a b d : Bool) → a ≡ true → b ≡ false → d ≡ true → (a && not b && d) ≡ true
    all_three true false true p q r = refl
    all_three true false false p q r = absurd cc
    all_three true true d p q r = absurd cc
    all_three false b d p q r = absurd cc

pub not_misplaced : (t : FileTree) (at : List (List ℕ)) (answer : Did) → IsBare at t → answer ≡ did t (changes.FolderRemoved at) → answer ≡ dids.Misplaced → ⊥
not_misplaced t at answer bare is misplaced =
    let done = placed_is_done t (changes.FolderRemoved at) answer is (bare_has_place t at bare) in
    absurd cc

pub folder_else : (t u : FileTree) (at : List (List ℕ)) → changed t (changes.FolderRemoved at) ≡ u → (other : List (List ℕ)) → other ≢ at → map.get u other ≡ map.get t other
folder_else t u at now other differs =
    ap (λ (w : FileTree). map.get w other) (sym now) ∙ get-changed t (changes.FolderRemoved at) other ∙ by (eq_by_cmp path_cmp other at) refl
  where
    by : (same : Bool) → eq_by_cmp path_cmp other at ≡ same → cond same None (map.get t other) ≡ map.get t other
    by true e = absurd (differs (equal_paths other at e))
    by false e = refl

pub set_empty : (set : BTreeSet (List (List ℕ))) → (0 < length set.keys → ⊥) → set.keys ≡ []
set_empty set none = by set.keys none
  where
    by : (keys : List (List (List ℕ))) → (0 < length keys → ⊥) → keys ≡ []
    by [] never = refl
    by (x ∷ xs) never = absurd (never (omega arith))
