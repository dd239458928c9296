-- Entries of a folder that are removed but for folders, which are put on a list.
use Rattle.std.proofs.Common.{◌≡◌, ◌≢◌, ℕ, zero, suc, ◌+◌, ◌-◌, ◌^◌, ◌<◌, ◌≤◌, nat_lt, Bool, true, false, cond, List, [], ◌∷◌, ◌++◌, length, take, Option, Some, None, is_some, refl, sym, ap, ◌∙◌, subst, inl, inr, arith, append_assoc, append-nil}
use Rattle.std.specs.Prelude.{◌⊎◌, ◌||◌, IsTrue, Contains}
use Rattle.std.specs.FinMap as map
use Rattle.std.specs.List.{slice_get, AllByRecursion}
use Rattle.std.specs.List.Sorted.{IsStrictlySortedBy}
use Rattle.std.specs.Ordering.{eq_by_cmp, is_eq}
use Rattle.std.specs.declared.cmp.Ordering.{Ordering}
use Rattle.std.specs.declared.cmp.Ordering.TheVariants.{Less, Equal, Greater}
use Rattle.std.proofs.lemmas.Cmp.{eq_by_cmp_equiv}
use Rattle.std.proofs.lemmas.Bool.{cases_eq}
use Rattle.std.proofs.lemmas.Option.{slice_get_within}
use Rattle.std.specs.List.{slice_index_or}
use Rattle.std.proofs.lemmas.List.Elements.{Contains-append_left, Contains-append_right, Contains-append_cases}
use Rattle.path_name.specs.Orders.{byte_cmp, byte_cmp_exact, path_cmp, path_cmp_total}
use Rattle.tree_dev.specs.Trees.{FileTree, IsTree, entry_at, list_at, list_of, names_in}
use Rattle.tree_dev.specs.declared.entry.ListAnswer.{ListAnswer}
use Rattle.tree_dev.specs.declared.entry.ListAnswer.TheVariants as listings
use Rattle.tree_dev.proofs.ListAnswers.{not_many}
use Rattle.tree_dev.specs.Changes.{changed, did, has_place, is_leaf, is_root}
use Rattle.tree_dev.specs.Told.{equal_paths}
use Rattle.tree_dev.specs.declared.change.Change.TheVariants as changes
use Rattle.tree_dev.specs.declared.did.Did.{Did}
use Rattle.tree_dev.specs.declared.did.Did.TheVariants as dids
use Rattle.tree_dev.specs.declared.entry.Entry.{Entry}
use Rattle.tree_dev.specs.declared.entry.Entry.TheVariants as entries
use Rattle.tree_dev.proofs.Carried.{free_below}
use Rattle.tree_dev.proofs.Changed.{get-changed}
use Rattle.tree_dev.proofs.NamesIn.{is_name_of, name_itself, names_exactly}
use Rattle.install_world.specs.Emptied.{AreCovered, HasHead, IsNewFolder, RemovesLeaf, RemovesLeaves, RemovesLeavesOf}
use Rattle.install_world.specs.InFlight.{IsThere}
use Rattle.install_world.proofs.WayMoves.{entry_is}

-- ---- lists

pub one_on : {X : Type 0} (x : X) → Contains (x ∷ []) x
one_on x = (0, omega arith, refl)

pub is_one : {X : Type 0} (x y : X) → Contains (x ∷ []) y → x ≡ y
is_one x y on = by on.0 on.1 on.2
  where
    by : (k : ℕ) → k < 1 → slice_index_or (x ∷ []) k y ≡ y → x ≡ y
    by zero less e = e
    by (suc k) less e = absurd (omega (arith, less))

pub none_on : {X : Type 0} (x : X) → Contains [] x → ⊥
none_on x on = let less = on.1 in omega (arith, less)

-- ---- paths

pub name_under : (folder : List (List ℕ)) (name : List ℕ) → is_root (folder ++ name ∷ []) ≡ false
name_under [] name = refl
name_under (x ∷ xs) name = refl

pub not_root_below : (at path : List (List ℕ)) → is_root path ≡ false → is_root (at ++ path) ≡ false
not_root_below [] path under = under
not_root_below (x ∷ xs) path under = refl

-- ---- names of a folder, by their places

or_later : (here later : Bool) → (here || later) ≡ true → here ≡ false → later ≡ true
or_later true later e missed = absurd cc
or_later false later e missed = e

pub named_at : (names : List (List ℕ)) (name : List ℕ) → is_name_of name names ≡ true → (k : ℕ) × (slice_get names k ≡ Some name)
named_at [] name e = absurd cc
named_at (other ∷ names) name e = by (byte_cmp name other) refl (named_at names name)
  where
    next : is_eq (byte_cmp name other) ≡ false → (is_name_of name names ≡ true → (k : ℕ) × (slice_get names k ≡ Some name)) → (k : ℕ) × (slice_get (other ∷ names) k ≡ Some name)
    next missed later =
        let more = later (or_later (is_eq (byte_cmp name other)) (is_name_of name names) e missed) in
        (suc more.0, more.1)

    by : (order : Ordering) → byte_cmp name other ≡ order → (is_name_of name names ≡ true → (k : ℕ) × (slice_get names k ≡ Some name)) → (k : ℕ) × (slice_get (other ∷ names) k ≡ Some name)
    by Equal same later = (0, ap Some (sym (byte_cmp_exact name other same)))
    by Less same later = next (ap is_eq same) later
    by Greater same later = next (ap is_eq same) later

pub at_named : (names : List (List ℕ)) (name : List ℕ) (k : ℕ) → slice_get names k ≡ Some name → is_name_of name names ≡ true
at_named [] name k e = absurd cc
at_named (other ∷ names) name zero e =
    let same : other ≡ name = cc in
    first (is_eq (byte_cmp name other)) (is_name_of name names) (ap (λ n. is_eq (byte_cmp name n)) same ∙ name_itself name)
  where
    first : (here later : Bool) → here ≡ true → (here || later) ≡ true
    first true later h = refl
    first false later h = absurd cc
at_named (other ∷ names) name (suc k) e = later (is_eq (byte_cmp name other)) (is_name_of name names) (at_named names name k e)
  where
    later : (here later : Bool) → later ≡ true → (here || later) ≡ true
    later true more h = refl
    later false more h = h

below_later : (x : List ℕ) (names : List (List ℕ)) (k : ℕ) (y : List ℕ) → AllByRecursion (λ z. byte_cmp x z ≡ Less) names → slice_get names k ≡ Some y → byte_cmp x y ≡ Less
below_later x [] k y all e = absurd cc
below_later x (z ∷ names) zero y all e = (let same : z ≡ y = cc in ap (byte_cmp x) (sym same) ∙ all.0)
below_later x (z ∷ names) (suc k) y all e = below_later x names k y all.1 e

not_below_itself : (x y : List ℕ) → byte_cmp x y ≡ Less → x ≡ y → ⊥
not_below_itself x y less same =
    let again : byte_cmp x x ≡ Less = ap (byte_cmp x) same ∙ less in
    let tied = name_itself x in
    let wrong : is_eq (byte_cmp x x) ≡ false = ap is_eq again in
    cc

pub names_differ : (names : List (List ℕ)) (i k : ℕ) (x y : List ℕ) → IsStrictlySortedBy byte_cmp names → slice_get names i ≡ Some x → slice_get names k ≡ Some y → i ≢ k → x ≢ y
unfolding IsStrictlySortedBy
names_differ [] i k x y sorted first second other same = absurd cc
names_differ (z ∷ names) zero zero x y sorted first second other same = absurd (other refl)
names_differ (z ∷ names) zero (suc k) x y sorted first second other same =
    let is : z ≡ x = cc in
    not_below_itself x y (ap (λ n. byte_cmp n y) (sym is) ∙ below_later z names k y sorted.0 second) same
names_differ (z ∷ names) (suc i) zero x y sorted first second other same =
    let is : z ≡ y = cc in
    not_below_itself y x (ap (λ n. byte_cmp n x) (sym is) ∙ below_later z names i x sorted.0 first) (sym same)
names_differ (z ∷ names) (suc i) (suc k) x y sorted first second other same = names_differ names i k x y sorted.1 first second (λ e. other (ap suc e)) same

-- ---- one entry

pub place_of_done : (t : FileTree) (q : List (List ℕ)) (answer : Did) → answer ≡ did t (changes.FileRemoved q) → answer ≡ dids.Done → is_leaf (entry_at t q) ≡ true
unfolding did has_place
place_of_done t q answer is done = by (is_leaf (entry_at t q)) refl
  where
    by : (leaf : Bool) → is_leaf (entry_at t q) ≡ leaf → is_leaf (entry_at t q) ≡ true
    by true e = e
    by false e =
        let misplaced : answer ≡ dids.Misplaced = is ∙ ap (λ fits. cond fits dids.Done dids.Misplaced) e in
        absurd cc

pub place_of_misplaced : (t : FileTree) (q : List (List ℕ)) (answer : Did) → answer ≡ did t (changes.FileRemoved q) → answer ≡ dids.Misplaced → is_leaf (entry_at t q) ≡ false
unfolding did has_place
place_of_misplaced t q answer is misplaced = by (is_leaf (entry_at t q)) refl
  where
    by : (leaf : Bool) → is_leaf (entry_at t q) ≡ leaf → is_leaf (entry_at t q) ≡ false
    by false e = e
    by true e =
        let done : answer ≡ dids.Done = is ∙ ap (λ fits. cond fits dids.Done dids.Misplaced) e in
        absurd cc

removed_here : (t : FileTree) (q : List (List ℕ)) → map.get (changed t (changes.FileRemoved q)) q ≡ None
removed_here t q = get-changed t (changes.FileRemoved q) q ∙ ap (λ same. cond same None (map.get t q)) ((eq_by_cmp_equiv path_cmp_total).refl q)

pub file_else : (t : FileTree) (q path : List (List ℕ)) → path ≢ q → map.get (changed t (changes.FileRemoved q)) path ≡ map.get t path
file_else t q path other = get-changed t (changes.FileRemoved q) path ∙ by (eq_by_cmp path_cmp path q) refl
  where
    by : (same : Bool) → eq_by_cmp path_cmp path q ≡ same → cond same None (map.get t path) ≡ map.get t path
    by true e = absurd (other (equal_paths path q e))
    by false e = refl

-- what is there after the removal was there before, at another path
still_there : (t : FileTree) (q path : List (List ℕ)) → IsThere (changed t (changes.FileRemoved q)) path → path ≢ q
still_there t q path there same =
    let gone : map.get (changed t (changes.FileRemoved q)) path ≡ None = ap (map.get (changed t (changes.FileRemoved q))) same ∙ removed_here t q in
    let none : is_some (map.get (changed t (changes.FileRemoved q)) path) ≡ false = ap is_some gone in
    cc

pub entry_removed : (at entry : List (List ℕ)) (ahead : List (List (List ℕ))) (t : FileTree) → is_root (at ++ entry) ≡ false → is_leaf (entry_at t (at ++ entry)) ≡ true
    → RemovesLeaf at entry ahead ahead t (changed t (changes.FileRemoved (at ++ entry)))
entry_removed at entry ahead t under leaf = record {
  leaves = record {
    folders = λ path folder. file_else t (at ++ entry) path (no_folder path folder) ∙ folder;
    was = λ path there. subst IsTrue (ap is_some (file_else t (at ++ entry) path (still_there t (at ++ entry) path there))) there;
    stay = λ path on. on;
    new = λ path on. inl on;
  };
  listed = λ there. absurd (still_there t (at ++ entry) (at ++ entry) there refl);
  others = λ path other. file_else t (at ++ entry) path other;
}
  where
    no_folder : (path : List (List ℕ)) → map.get t path ≡ Some entries.Folder → path ≢ at ++ entry
    no_folder path folder same =
        let here : entry_at t (at ++ entry) ≡ Some entries.Folder = entry_is t (at ++ entry) under ∙ ap (map.get t) (sym same) ∙ folder in
        let wrong : is_leaf (entry_at t (at ++ entry)) ≡ false = ap is_leaf here in
        cc

pub entry_listed : (at entry : List (List ℕ)) (ahead : List (List (List ℕ))) (t u : FileTree) → u ≡ t → is_root entry ≡ false → is_root (at ++ entry) ≡ false
    → is_leaf (entry_at t (at ++ entry)) ≡ false → IsThere t (at ++ entry) → RemovesLeaf at entry ahead (ahead ++ entry ∷ []) t u
entry_listed at entry ahead t u same below under leaf there = record {
  leaves = record {
    folders = λ path folder. ap (λ (w : FileTree). map.get w path) same ∙ folder;
    was = λ path here. subst (λ (w : FileTree). IsThere w path) same here;
    stay = λ path on. Contains-append_left ahead (entry ∷ []) path on;
    new = λ path on. elim (Contains-append_cases ahead (entry ∷ []) path on) [
      | inl before ↦ inl before
      | inr one ↦ inr (subst (λ p. IsNewFolder at p u) (is_one entry path one) (record { below = below; folder = ap (λ (w : FileTree). map.get w (at ++ entry)) same ∙ folder }))
    ];
  };
  listed = λ here. Contains-append_right ahead (entry ∷ []) entry (one_on entry);
  others = λ path other. ap (λ (w : FileTree). map.get w path) same;
}
  where
    by : (found : Option Entry) → map.get t (at ++ entry) ≡ found → is_leaf found ≡ false → is_some found ≡ true → found ≡ Some entries.Folder
    by None e l s = absurd cc
    by (Some (entries.File bytes)) e l s = absurd cc
    by (Some entries.Folder) e l s = refl
    by (Some entries.Other) e l s = absurd cc

    folder : map.get t (at ++ entry) ≡ Some entries.Folder
    folder = by (map.get t (at ++ entry)) refl (ap is_leaf (sym (entry_is t (at ++ entry) under)) ∙ leaf) there

-- ---- the entries of a folder, one after another

-- so many of the names of a folder were looked at
pub record RemovesFirst (at folder : List (List ℕ)) (names : List (List ℕ)) (count : ℕ) (before after : List (List (List ℕ))) (t u : FileTree) : Type 0 where
  pub leaves : RemovesLeaves at before after t u
  pub listed : (k : ℕ) (name : List ℕ) → k < count → slice_get names k ≡ Some name → IsThere u (at ++ (folder ++ name ∷ [])) → Contains after (folder ++ name ∷ [])
  pub later : (k : ℕ) (name : List ℕ) → count ≤ k → slice_get names k ≡ Some name → map.get u (at ++ (folder ++ name ∷ [])) ≡ map.get t (at ++ (folder ++ name ∷ []))

pub leaves_on : (at : List (List ℕ)) (a b d : List (List (List ℕ))) (t u w : FileTree) → RemovesLeaves at a b t u → RemovesLeaves at b d u w → RemovesLeaves at a d t w
leaves_on at a b d t u w first second = record {
  folders = λ path folder. second.folders path (first.folders path folder);
  was = λ path there. first.was path (second.was path there);
  stay = λ path on. second.stay path (first.stay path on);
  new = λ path on. elim (second.new path on) [
    | inl between ↦ elim (first.new path between) [
      | inl before ↦ inl before
      | inr found ↦ inr (record { below = found.below; folder = second.folders (at ++ path) found.folder })
    ]
    | inr found ↦ inr found
  ];
}

pub leaves_none : (at : List (List ℕ)) (ahead : List (List (List ℕ))) (t : FileTree) → RemovesLeaves at ahead ahead t t
leaves_none at ahead t = record { folders = λ path folder. folder; was = λ path there. there; stay = λ path on. on; new = λ path on. inl on }

pub first_none : (at folder : List (List ℕ)) (names : List (List ℕ)) (ahead : List (List (List ℕ))) (t : FileTree) → RemovesFirst at folder names 0 ahead ahead t t
first_none at folder names ahead t = record {
  leaves = leaves_none at ahead t;
  listed = λ k name less. absurd (omega (arith, less));
  later = λ k name le is. refl;
}

child_differs : (at folder : List (List ℕ)) (x y : List ℕ) → x ≢ y → at ++ (folder ++ x ∷ []) ≢ at ++ (folder ++ y ∷ [])
child_differs at folder x y other same = other (last_same folder (head_same at same))
  where
    head_same : (head : List (List ℕ)) → head ++ (folder ++ x ∷ []) ≡ head ++ (folder ++ y ∷ []) → folder ++ x ∷ [] ≡ folder ++ y ∷ []
    head_same [] e = e
    head_same (z ∷ zs) e = head_same zs cc

    last_same : (head : List (List ℕ)) → head ++ x ∷ [] ≡ head ++ y ∷ [] → x ≡ y
    last_same [] e = cc
    last_same (z ∷ zs) e = last_same zs cc

pub first_more : (at folder : List (List ℕ)) (names : List (List ℕ)) (i : ℕ) (name : List ℕ) (a b d : List (List (List ℕ))) (t u w : FileTree) → IsStrictlySortedBy byte_cmp names
    → slice_get names i ≡ Some name → RemovesFirst at folder names i a b t u → RemovesLeaf at (folder ++ name ∷ []) b d u w → RemovesFirst at folder names (i + 1) a d t w
first_more at folder names i name a b d t u w sorted here first leaf = record {
  leaves = leaves_on at a b d t u w first.leaves leaf.leaves;
  listed = λ k other less is there. elim (cases_eq k i) [
    | inl last ↦ (
        let again : slice_get names i ≡ Some other = ap (slice_get names) (sym last) ∙ is in
        let same : name ≡ other = cc in
        subst (λ n. Contains d (folder ++ n ∷ [])) same (leaf.listed (subst (λ n. IsThere w (at ++ (folder ++ n ∷ []))) (sym same) there)))
    | inr before ↦ leaf.leaves.stay (folder ++ other ∷ []) (first.listed k other (omega (arith, less, before)) is (leaf.leaves.was (at ++ (folder ++ other ∷ [])) there))
  ];
  later = λ k other le is.
      leaf.others (at ++ (folder ++ other ∷ [])) (child_differs at folder other name (names_differ names k i other name sorted is here (λ e. omega (arith, e, le))))
      ∙ first.later k other (omega (arith, le)) is;
}

-- all of them
pub all_of_folder : (at folder : List (List ℕ)) (before after : List (List (List ℕ))) (t u : FileTree) (names : List (List ℕ)) → names ≡ names_in t (at ++ folder)
    → RemovesFirst at folder names (length names) before after t u → RemovesLeavesOf at folder before after t u
all_of_folder at folder before after t u names is first = record {
  leaves = first.leaves;
  listed = λ name there.
      let was = first.leaves.was (at ++ (folder ++ name ∷ [])) there in
      let child = subst (IsThere t) (sym (append_assoc at folder (name ∷ []))) was in
      let named = ap (is_name_of name) is ∙ names_exactly t (at ++ folder) name ∙ child in
      let found = named_at names name named in
      first.listed found.0 name (slice_get_within names found.0 name found.1) found.1 there;
}

-- a name of the folder that was not looked at is there
pub listed_there : (at folder : List (List ℕ)) (before after : List (List (List ℕ))) (t u : FileTree) (names : List (List ℕ)) (i : ℕ) (name : List ℕ) → names ≡ names_in t (at ++ folder)
    → slice_get names i ≡ Some name → RemovesFirst at folder names i before after t u → IsThere u (at ++ (folder ++ name ∷ []))
listed_there at folder before after t u names i name is here first =
    let named = at_named names name i here in
    let child : IsThere t ((at ++ folder) ++ name ∷ []) = sym (names_exactly t (at ++ folder) name) ∙ ap (is_name_of name) (sym is) ∙ named in
    ap is_some (first.later i name (omega arith) here) ∙ subst (IsThere t) (append_assoc at folder (name ∷ [])) child

-- ---- folders that are emptied one after another

pub there_above : (u : FileTree) (at folder : List (List ℕ)) (name : List ℕ) (rest : List (List ℕ)) → IsTree u → IsThere u (at ++ (folder ++ name ∷ rest)) → IsThere u (at ++ (folder ++ name ∷ []))
there_above u at folder name rest tree there = by (map.get u (at ++ (folder ++ name ∷ []))) refl
  where
    path_is : at ++ (folder ++ name ∷ rest) ≡ (at ++ (folder ++ name ∷ [])) ++ rest
    path_is = ap (λ p. at ++ p) (sym (append_assoc folder (name ∷ []) rest)) ∙ sym (append_assoc at (folder ++ name ∷ []) rest)

    by : (found : Option Entry) → map.get u (at ++ (folder ++ name ∷ [])) ≡ found → IsThere u (at ++ (folder ++ name ∷ []))
    by None e =
        let none : is_some (map.get u (at ++ (folder ++ name ∷ rest))) ≡ false =
        ap is_some (ap (map.get u) path_is ∙ free_below u (at ++ (folder ++ name ∷ [])) tree (not_root_below at (folder ++ name ∷ []) (name_under folder name)) e rest) in
        absurd cc
    by (Some entry) e = ap is_some e

covered_from : (at : List (List ℕ)) (ahead : List (List (List ℕ))) (t u : FileTree) → IsTree u → RemovesLeavesOf at [] [] ahead t u → AreCovered at ahead [] u
covered_from at ahead t u tree removed = record {
  each = λ path on. elim on [
    | inl listed ↦ elim (removed.leaves.new path listed) [ inl before ↦ absurd (none_on path before) | inr new ↦ new ]
    | inr none ↦ absurd (none_on path none)
  ];
  all = cover;
}
  where
    cover : (path : List (List ℕ)) → is_root path ≡ false → IsThere u (at ++ path) → Contains [] path ⊎ HasHead ahead path
    cover [] root there = absurd cc
    cover (name ∷ rest) root there =
        inr (record { head = name ∷ []; on = removed.listed name (there_above u at [] name rest tree there); rest = rest; is = refl })

pub covered_start : (at folder : List (List ℕ)) (before ahead : List (List (List ℕ))) (t u : FileTree) → folder ≡ [] → before ≡ [] → IsTree u → RemovesLeavesOf at folder before ahead t u
    → AreCovered at ahead [] u
covered_start at folder before ahead t u is none tree removed =
    covered_from at ahead t u tree
    (subst (λ f. RemovesLeavesOf at f [] ahead t u) is (subst (λ (list : List (List (List ℕ))). RemovesLeavesOf at folder list ahead t u) none removed))

pub covered_on : (at folder : List (List ℕ)) (front ahead emptied : List (List (List ℕ))) (t u : FileTree) → IsTree u → AreCovered at (front ++ folder ∷ []) emptied t
    → RemovesLeavesOf at folder front ahead t u → AreCovered at ahead (emptied ++ folder ∷ []) u
covered_on at folder front ahead emptied t u tree covered removed = record { each = each; all = all }
  where
    still : (path : List (List ℕ)) → IsNewFolder at path t → IsNewFolder at path u
    still path is = record { below = is.below; folder = removed.leaves.folders (at ++ path) is.folder }

    each : (path : List (List ℕ)) → Contains ahead path ⊎ Contains (emptied ++ folder ∷ []) path → IsNewFolder at path u
    each path (inl on) = elim (removed.leaves.new path on) [
      | inl before ↦ still path (covered.each path (inl (Contains-append_left front (folder ∷ []) path before)))
      | inr new ↦ new
    ]
    each path (inr on) = elim (Contains-append_cases emptied (folder ∷ []) path on) [
      | inl before ↦ still path (covered.each path (inr before))
      | inr one ↦ still path (covered.each path (inl (Contains-append_right front (folder ∷ []) path one)))
    ]

    inside : (path rest : List (List ℕ)) → path ≡ folder ++ rest → IsThere u (at ++ path) → Contains (emptied ++ folder ∷ []) path ⊎ HasHead ahead path
    inside path [] is there =
        inl (subst (Contains (emptied ++ folder ∷ [])) (sym (is ∙ append-nil folder)) (Contains-append_right emptied (folder ∷ []) folder (one_on folder)))
    inside path (name ∷ rest) is there = inr (record {
      head = folder ++ name ∷ [];
      on = removed.listed name (there_above u at folder name rest tree (subst (λ p. IsThere u (at ++ p)) is there));
      rest = rest;
      is = is ∙ sym (append_assoc folder (name ∷ []) rest);
    })

    all : (path : List (List ℕ)) → is_root path ≡ false → IsThere u (at ++ path) → Contains (emptied ++ folder ∷ []) path ⊎ HasHead ahead path
    all path root there = elim (covered.all path root (removed.leaves.was (at ++ path) there)) [
      | inl before ↦ inl (Contains-append_left emptied (folder ∷ []) path before)
      | inr headed ↦ elim (Contains-append_cases front (folder ∷ []) headed.head headed.on) [
        | inl before ↦ inr (record { head = headed.head; on = removed.leaves.stay headed.head before; rest = headed.rest; is = headed.is })
        | inr one ↦ inside path headed.rest (headed.is ∙ ap (λ p. p ++ headed.rest) (sym (is_one folder headed.head one))) there
      ]
    ]

-- ---- what a call leaves

pub child_under : (at folder : List (List ℕ)) (name : List ℕ) → is_root (at ++ (folder ++ name ∷ [])) ≡ false
child_under at folder name = not_root_below at (folder ++ name ∷ []) (name_under folder name)

pub leaf_done : (at folder path : List (List ℕ)) (name : List ℕ) → path ≡ at ++ (folder ++ name ∷ []) → (ahead : List (List (List ℕ))) (t u : FileTree) (answer : Did)
    → answer ≡ did t (changes.FileRemoved path) → answer ≡ dids.Done → changed t (changes.FileRemoved path) ≡ u → RemovesLeaf at (folder ++ name ∷ []) ahead ahead t u
leaf_done at folder path name is ahead t u answer answers done now =
    subst (RemovesLeaf at (folder ++ name ∷ []) ahead ahead t) (sym (ap (λ q. changed t (changes.FileRemoved q)) is) ∙ now)
    (entry_removed at (folder ++ name ∷ []) ahead t (child_under at folder name) (subst (λ q. is_leaf (entry_at t q) ≡ true) is (place_of_done t path answer answers done)))

pub leaf_kept : (at folder entry path : List (List ℕ)) (name : List ℕ) → entry ≡ folder ++ name ∷ [] → path ≡ at ++ (folder ++ name ∷ []) → (before after : List (List (List ℕ))) (t u : FileTree)
    (answer : Did) → after ≡ before ++ entry ∷ [] → answer ≡ did t (changes.FileRemoved path) → answer ≡ dids.Misplaced → t ≡ u → IsThere t (at ++ (folder ++ name ∷ []))
    → RemovesLeaf at (folder ++ name ∷ []) before after t u
leaf_kept at folder entry path name entry_is_child is before after t u answer pushed answers misplaced same there =
    subst (λ (list : List (List (List ℕ))). RemovesLeaf at (folder ++ name ∷ []) before list t u) (sym (pushed ∙ ap (λ e. before ++ e ∷ []) entry_is_child))
    (entry_listed at (folder ++ name ∷ []) before t u (sym same) (name_under folder name) (child_under at folder name)
    (subst (λ q. is_leaf (entry_at t q) ≡ false) is (place_of_misplaced t path answer answers misplaced)) there)

-- ---- what a listing shows

pub listed_names : (t : FileTree) (path : List (List ℕ)) (most : ℕ) (answer : ListAnswer) (names : List (List ℕ)) → answer ≡ list_at t path most → answer ≡ listings.Names names → names ≡ names_in t path
unfolding list_at
listed_names t path most answer names is shown = by (entry_at t path) (sym is ∙ shown)
  where
    some : (many : Bool) → cond many listings.TooMany (listings.Names (names_in t path)) ≡ listings.Names names → names ≡ names_in t path
    some true e = absurd cc
    some false e = cc

    by : (entry : Option Entry) → list_of t path most entry ≡ listings.Names names → names ≡ names_in t path
    by None e = absurd cc
    by (Some (entries.File bytes)) e = absurd cc
    by (Some entries.Folder) e = some (nat_lt most (length (names_in t path))) e
    by (Some entries.Other) e = absurd cc

pub folder_is_listed : (t : FileTree) (path : List (List ℕ)) (most : ℕ) (answer : ListAnswer) → IsTree t → most ≡ 2 ^ 32 - 1 → answer ≡ list_at t path most
    → entry_at t path ≡ Some entries.Folder → answer ≡ listings.Names (names_in t path)
unfolding list_at
folder_is_listed t path most answer tree all is stands = is ∙ ap (list_of t path most) stands ∙ few (nat_lt most (length (names_in t path))) refl
  where
    few : (many : Bool) → nat_lt most (length (names_in t path)) ≡ many → cond many listings.TooMany (listings.Names (names_in t path)) ≡ listings.Names (names_in t path)
    few true e =
        absurd (not_many t path most tree all
        (ap (list_of t path most) stands ∙ ap (λ many. cond many listings.TooMany (listings.Names (names_in t path))) e))
    few false e = refl

-- the entry at a path below a folder that stands
pub entry_below : (t : FileTree) (path : List (List ℕ)) (entry : Entry) → IsTree t → map.get t path ≡ Some entry → entry_at t path ≡ Some entry
entry_below t [] entry tree stands = let placed = tree.below_folders [] (ap is_some stands) in absurd cc
entry_below t (x ∷ xs) entry tree stands = stands

-- one name more was looked at
pub one_name_more : (at folder : List (List ℕ)) (names : List (List ℕ)) (i : ℕ) (name slice : List ℕ) (a b d : List (List (List ℕ))) (t u w : FileTree) → slice ≡ name
    → IsStrictlySortedBy byte_cmp names → slice_get names i ≡ Some name → names ≡ names_in t (at ++ folder) → RemovesFirst at folder names i a b t u
    → (IsThere u (at ++ (folder ++ slice ∷ [])) → RemovesLeaf at (folder ++ slice ∷ []) b d u w) → RemovesFirst at folder names (i + 1) a d t w
one_name_more at folder names i name slice a b d t u w same sorted here is first leaf =
    first_more at folder names i name a b d t u w sorted here first
    (subst (λ n. RemovesLeaf at (folder ++ n ∷ []) b d u w) same
    (leaf (subst (λ n. IsThere u (at ++ (folder ++ n ∷ []))) (sym same) (listed_there at folder a b t u names i name is here first))))

-- a list from which nothing could be taken
pub none_left : {X : Type 0} (old new : List X) (len : ℕ) → old ≡ new ++ [] → new ≡ take (len - 1) old → len ≡ 0 → old ≡ []
none_left old new len items rest e =
    let none : len - 1 ≡ 0 = omega (arith, e) in
    items ∙ append-nil new ∙ rest ∙ ap (λ n. take n old) none

-- a folder that was taken from a list stands
pub taken_stands : (at folder : List (List ℕ)) (list front emptied : List (List (List ℕ))) (t : FileTree) → list ≡ front ++ folder ∷ [] → AreCovered at list emptied t
    → map.get t (at ++ folder) ≡ Some entries.Folder
taken_stands at folder list front emptied t is covered =
    (covered.each folder (inl (subst (λ (l : List (List (List ℕ))). Contains l folder) (sym is) (Contains-append_right front (folder ∷ []) folder (one_on folder))))).folder
