-- Parts of folders gathered, and taken, one by one.
use Rattle.std.proofs.Common.{◌≡◌, ℕ, ◌+◌, ◌<◌, ◌≤◌, zero, suc, Bool, true, false, ◌||◌, cond, List, [], ◌∷◌, ◌++◌, length, take, drop, get_or, Option, Some, None, Vec, filter_map, refl, sym, ap, subst, ◌∙◌, inl, inr, append_assoc, append-nil, arith}
use Rattle.std.proofs.lemmas.List.{at_drop_all, at_drop_more, take_more}
use Rattle.std.proofs.lemmas.List.Elements.{filter_map-append}
use Rattle.std.proofs.lemmas.List.Folds.{list_any-append}
use Rattle.std.specs.BTreeMap.{get}
use Rattle.std.specs.Ordering.{is_eq}
use Rattle.std.specs.declared.alloc.Global.{Global}
use Rattle.path_name.specs.Orders.{path_cmp}
use Rattle.path_name.specs.Paths.{without_last}
use Rattle.tree_dev.specs.Told.{equal_paths}
use Rattle.stage_job.specs.declared.job.Inner.{Inner}
use Rattle.stage_job.specs.declared.job.Part.{Part}
use Rattle.package_moves.proofs.PathsBehind.{itself}
use Rattle.package_moves.specs.Gathered.{AddsInner, HasItems, inner_list, items_or_none}
use Rattle.package_moves.specs.Joined.{AreUntaken, HasGroup, HasGroups, IsUntaken, folder_of, folder_part, if_blocked, if_left, inner_below, inner_in, is_in, left_after, left_outside, own_parts}
use Rattle.package_moves.specs.Needed.{is_folder_at}
use Rattle.package_moves.specs.declared.joined.Folders.{Folders}

or_nothing : (a : Bool) → (a || false) ≡ a
or_nothing true = refl
or_nothing false = refl

or_true : (a b : Bool) → b ≡ true → (a || b) ≡ true
or_true true b e = refl
or_true false b e = e

one_map : (f : Part → Option Inner) (x : Part) → filter_map f (x ∷ []) ≡ inner_list (f x)
one_map f x = by (f x) refl
  where
    by : (o : Option Inner) → f x ≡ o → filter_map f (x ∷ []) ≡ inner_list o
    by None e = rw e refl
    by (Some inner) e = rw e refl

-- ---- one part more

module _ (folder : List (List ℕ)) (parts : List Part) (part : Part) where
  in_more : (b : Bool) → is_folder_at (without_last part.target) folder ≡ b → is_in folder (parts ++ part ∷ []) ≡ (is_in folder parts || b)
  in_more b e =
      list_any-append (λ p. is_folder_at (without_last p.target) folder) parts (part ∷ [])
      ∙ ap (λ (c : Bool). is_in folder parts || c) (or_nothing (is_folder_at (without_last part.target) folder) ∙ e)

  map_more : filter_map (inner_in folder) (parts ++ part ∷ []) ≡ filter_map (inner_in folder) parts ++ inner_list (inner_in folder part)
  map_more = filter_map-append (inner_in folder) parts (part ∷ []) ∙ ap (λ (xs : List Inner). filter_map (inner_in folder) parts ++ xs) (one_map (inner_in folder) part)

  in_same : is_folder_at (without_last part.target) folder ≡ false → is_in folder (parts ++ part ∷ []) ≡ is_in folder parts
  in_same e = in_more false e ∙ or_nothing (is_in folder parts)

  in_now : is_folder_at (without_last part.target) folder ≡ true → is_in folder (parts ++ part ∷ []) ≡ true
  in_now e = in_more true e ∙ or_true (is_in folder parts) true refl

  map_same : is_folder_at (without_last part.target) folder ≡ false → filter_map (inner_in folder) (parts ++ part ∷ []) ≡ filter_map (inner_in folder) parts
  map_same e =
      map_more ∙ ap (λ (b : Bool). filter_map (inner_in folder) parts ++ inner_list (cond b (inner_below folder part) None)) e
      ∙ append-nil (filter_map (inner_in folder) parts)

  map_now : is_folder_at (without_last part.target) folder ≡ true → filter_map (inner_in folder) (parts ++ part ∷ []) ≡ filter_map (inner_in folder) parts ++ inner_list (inner_below folder part)
  map_now e = map_more ∙ ap (λ (b : Bool). filter_map (inner_in folder) parts ++ inner_list (cond b (inner_below folder part) None)) e

  group_same : (o : Option (Vec Inner Global)) → is_folder_at (without_last part.target) folder ≡ false → HasGroup o folder parts → HasGroup o folder (parts ++ part ∷ [])
  group_same None e group = (in_same e ∙ group.0, map_same e ∙ group.1)
  group_same (Some v) e group = (in_same e ∙ group.0, group.1 ∙ sym (map_same e))

  items_by : (o : Option (Vec Inner Global)) → HasGroup o folder parts → items_or_none o ≡ filter_map (inner_in folder) parts
  items_by None group = sym group.1
  items_by (Some v) group = group.1

  group_now : (before after : Option (Vec Inner Global)) → is_folder_at (without_last part.target) folder ≡ true → HasGroup before folder parts
      → HasItems after (items_or_none before ++ inner_list (inner_below folder part)) → HasGroup after folder (parts ++ part ∷ [])
  group_now before None e group items = absurd items
  group_now before (Some v) e group items =
      (in_now e, items ∙ ap (λ (xs : List Inner). xs ++ inner_list (inner_below folder part)) (items_by before group) ∙ sym (map_now e))

-- a part that is to stand in none of the folders
not_at : (blocked : List (List ℕ) → Bool) (o : Option (List (List ℕ))) → ((folder : List (List ℕ)) → o ≡ Some folder → blocked folder ≡ false) → (other : List (List ℕ)) → blocked other ≡ true → is_folder_at o other ≡ false
not_at blocked None none other is = refl
not_at blocked (Some folder) none other is = by (is_eq (path_cmp folder other)) refl
  where
    by : (b : Bool) → is_eq (path_cmp folder other) ≡ b → is_eq (path_cmp folder other) ≡ false
    by true e = absurd (let same : blocked other ≡ false = ap blocked (sym (equal_paths folder other e)) ∙ none folder refl in cc)
    by false e = e

pub groups_same : (blocked : List (List ℕ) → Bool) (parts : List Part) (part : Part) (folders : Folders) → ((folder : List (List ℕ)) → without_last part.target ≡ Some folder → blocked folder ≡ false)
    → HasGroups blocked parts folders → HasGroups blocked (parts ++ part ∷ []) folders
groups_same blocked parts part folders none groups = record {
  each = λ other is.
      group_same other parts part (get path_cmp folders.parts other) (not_at blocked (without_last part.target) none other is) (groups.each other is);
}

pub groups_more : (blocked : List (List ℕ) → Bool) (parts : List Part) (part : Part) (folder : List (List ℕ)) (before after : Folders) → without_last part.target ≡ Some folder
    → AddsInner folder part before after → HasGroups blocked parts before → HasGroups blocked (parts ++ part ∷ []) after
groups_more blocked parts part folder before after is adds groups = record { each = λ other there. by other there (is_eq (path_cmp folder other)) refl }
  where
    by : (other : List (List ℕ)) → blocked other ≡ true → (b : Bool) → is_eq (path_cmp folder other) ≡ b → HasGroup (get path_cmp after.parts other) other (parts ++ part ∷ [])
    by other there true e =
        let same = equal_paths folder other e in
        subst (λ (q : List (List ℕ)). HasGroup (get path_cmp after.parts q) q (parts ++ part ∷ [])) same
        (group_now folder parts part (get path_cmp before.parts folder) (get path_cmp after.parts folder)
        (ap (λ (o : Option (List (List ℕ))). is_folder_at o folder) is ∙ ap (λ (q : List (List ℕ)). is_eq (path_cmp folder q)) same ∙ e)
        (groups.each folder (ap blocked same ∙ there)) adds.own)
    by other there false e =
        subst (λ (o : Option (Vec Inner Global)). HasGroup o other (parts ++ part ∷ [])) (sym (adds.others other e))
        (group_same other parts part (get path_cmp before.parts other) (ap (λ (o : Option (List (List ℕ))). is_folder_at o other) is ∙ e) (groups.each other there))

pub groups_none : (blocked : List (List ℕ) → Bool) (folders : Folders) → ((folder : List (List ℕ)) → get path_cmp folders.parts folder ≡ None) → HasGroups blocked [] folders
groups_none blocked folders none = record { each = λ folder is. subst (λ (o : Option (Vec Inner Global)). HasGroup o folder []) (sym (none folder)) (refl, refl) }

-- ---- parts taken

untaken_by : (folder : List (List ℕ)) (wanted : List Part) (o : Option (Vec Inner Global)) → HasGroup o folder wanted → IsUntaken o folder wanted []
untaken_by folder wanted None group = inr group.0
untaken_by folder wanted (Some v) group = (refl, group.1)

pub untaken_start : (blocked : List (List ℕ) → Bool) (wanted : List Part) (folders : Folders) → HasGroups blocked wanted folders → AreUntaken blocked wanted [] folders
untaken_start blocked wanted folders groups = record { each = λ folder is. untaken_by folder wanted (get path_cmp folders.parts folder) (groups.each folder is) }

untaken_same_by : (folder : List (List ℕ)) (wanted earlier : List Part) (part : Part) (o : Option (Vec Inner Global)) → is_folder_at (without_last part.target) folder ≡ false
    → IsUntaken o folder wanted earlier → IsUntaken o folder wanted (earlier ++ part ∷ [])
untaken_same_by folder wanted earlier part None e (inl is) = inl (in_same folder earlier part e ∙ is)
untaken_same_by folder wanted earlier part None e (inr is) = inr is
untaken_same_by folder wanted earlier part (Some v) e untaken = (in_same folder earlier part e ∙ untaken.0, untaken.1)

pub untaken_same : (blocked : List (List ℕ) → Bool) (wanted earlier : List Part) (part : Part) (folders : Folders) → ((folder : List (List ℕ)) → without_last part.target ≡ Some folder → blocked folder ≡ false)
    → AreUntaken blocked wanted earlier folders → AreUntaken blocked wanted (earlier ++ part ∷ []) folders
untaken_same blocked wanted earlier part folders none untaken = record {
  each = λ other is.
      untaken_same_by other wanted earlier part (get path_cmp folders.parts other) (not_at blocked (without_last part.target) none other is) (untaken.each other is);
}

pub untaken_more : (blocked : List (List ℕ) → Bool) (wanted earlier : List Part) (part : Part) (folder : List (List ℕ)) (before after : Folders) → without_last part.target ≡ Some folder
    → get path_cmp after.parts folder ≡ None → ((other : List (List ℕ)) → is_eq (path_cmp folder other) ≡ false → get path_cmp after.parts other ≡ get path_cmp before.parts other)
    → AreUntaken blocked wanted earlier before → AreUntaken blocked wanted (earlier ++ part ∷ []) after
untaken_more blocked wanted earlier part folder before after is gone others untaken = record { each = λ other there. by other there (is_eq (path_cmp folder other)) refl }
  where
    by : (other : List (List ℕ)) → blocked other ≡ true → (b : Bool) → is_eq (path_cmp folder other) ≡ b → IsUntaken (get path_cmp after.parts other) other wanted (earlier ++ part ∷ [])
    by other there true e =
        let same = equal_paths folder other e in
        let at : is_folder_at (without_last part.target) folder ≡ true = ap (λ (o : Option (List (List ℕ))). is_folder_at o folder) is ∙ ap (λ (q : List (List ℕ)). is_eq (path_cmp folder q)) same ∙ e in
        subst (λ (q : List (List ℕ)). IsUntaken (get path_cmp after.parts q) q wanted (earlier ++ part ∷ [])) same
        (subst (λ (o : Option (Vec Inner Global)). IsUntaken o folder wanted (earlier ++ part ∷ [])) (sym gone) (inl (in_now folder earlier part at)))
    by other there false e =
        subst (λ (o : Option (Vec Inner Global)). IsUntaken o other wanted (earlier ++ part ∷ [])) (sym (others other e))
        (untaken_same_by other wanted earlier part (get path_cmp before.parts other) (ap (λ (o : Option (List (List ℕ))). is_folder_at o other) is ∙ e) (untaken.each other there))

-- what is added for a folder
pub folder_added : (wanted earlier : List Part) (folder : List (List ℕ)) (v : Vec Inner Global) (o : Option (Vec Inner Global)) → o ≡ Some v → IsUntaken o folder wanted earlier
    → folder_of folder v.items ∷ [] ≡ if_left (is_in folder earlier) (folder_part folder wanted)
folder_added wanted earlier folder v None is untaken = absurd cc
folder_added wanted earlier folder v (Some w) is untaken =
    let same : v.items ≡ w.items = ap items_or_none (sym is) in
    ap (λ (xs : List Inner). folder_of folder xs ∷ []) (same ∙ untaken.1) ∙ sym (ap (λ (b : Bool). if_left b (folder_part folder wanted)) untaken.0)

pub nothing_added : (wanted earlier : List Part) (folder : List (List ℕ)) (o : Option (Vec Inner Global)) → o ≡ None → is_in folder wanted ≡ true → IsUntaken o folder wanted earlier
    → [] ≡ if_left (is_in folder earlier) (folder_part folder wanted)
nothing_added wanted earlier folder None is there (inl e) = sym (ap (λ (b : Bool). if_left b (folder_part folder wanted)) e)
nothing_added wanted earlier folder None is there (inr e) = absurd cc
nothing_added wanted earlier folder (Some v) is there untaken = absurd cc

-- ---- the parts that are left

pub is_in_at : (wanted : List Part) (i : ℕ) (x : Part) (folder : List (List ℕ)) → i < length wanted → x ≡ get_or wanted i x → without_last x.target ≡ Some folder → is_eq (path_cmp folder folder) ≡ true → is_in folder wanted ≡ true
is_in_at wanted i x folder lt is parent itself = at wanted i lt (ap (λ (p : Part). is_folder_at (without_last p.target) folder) (sym is) ∙ ap (λ (o : Option (List (List ℕ))). is_folder_at o folder) parent ∙ itself)
  where
    at : (parts : List Part) (j : ℕ) → j < length parts → is_folder_at (without_last (get_or parts j x).target) folder ≡ true → is_in folder parts ≡ true
    at [] j less e = absurd (omega arith)
    at (y ∷ ys) zero less e = rw e refl
    at (y ∷ ys) (suc j) less e = or_true (is_folder_at (without_last y.target) folder) (is_in folder ys) (at ys j (omega arith) e)

module _ (wanted : List Part) (flags : List Bool) (i : ℕ) (x : Part) (flag : Bool) (lt : i < length wanted) (less : i < length flags) (is : x ≡ get_or wanted i x) (flag_is : flag ≡ get_or flags i flag) where
  two_more : {Y : Type 0} (f : List Part → List Bool → Y) → f (drop i wanted) (drop i flags) ≡ f (x ∷ drop (i + 1) wanted) (flag ∷ drop (i + 1) flags)
  two_more f =
      at_drop_more (λ (ps : List Part). f ps (drop i flags)) wanted i x lt ∙ ap (λ (p : Part). f (p ∷ drop (i + 1) wanted) (drop i flags)) (sym is)
      ∙ at_drop_more (λ (fs : List Bool). f (x ∷ drop (i + 1) wanted) fs) flags i flag less ∙ ap (λ (b : Bool). f (x ∷ drop (i + 1) wanted) (b ∷ drop (i + 1) flags)) (sym flag_is)

  pub left_more : (blocked : List (List ℕ) → Bool) (before after whole : List Part) → before ++ left_after blocked wanted (take i wanted) (drop i wanted) (drop i flags) ≡ whole
      → after ≡ before ++ own_parts wanted (take i wanted) x flag (if_blocked blocked (without_last x.target))
      → after ++ left_after blocked wanted (take (i + 1) wanted) (drop (i + 1) wanted) (drop (i + 1) flags) ≡ whole
  left_more blocked before after whole so_far adds =
      let own = own_parts wanted (take i wanted) x flag (if_blocked blocked (without_last x.target)) in
      let next : take (i + 1) wanted ≡ take i wanted ++ x ∷ [] = take_more wanted i x lt ∙ ap (λ (p : Part). take i wanted ++ p ∷ []) (sym is) in
      ap (λ (xs : List Part). xs ++ left_after blocked wanted (take (i + 1) wanted) (drop (i + 1) wanted) (drop (i + 1) flags)) adds
      ∙ append_assoc before own (left_after blocked wanted (take (i + 1) wanted) (drop (i + 1) wanted) (drop (i + 1) flags))
      ∙ ap (λ (e : List Part). before ++ (own ++ left_after blocked wanted e (drop (i + 1) wanted) (drop (i + 1) flags))) next
      ∙ ap (λ (xs : List Part). before ++ xs) (sym (two_more (left_after blocked wanted (take i wanted)))) ∙ so_far

  pub outside_more : (own before after whole : List Part) → before ++ left_outside (drop i wanted) (drop i flags) ≡ whole → after ≡ before ++ own
      → left_outside (x ∷ drop (i + 1) wanted) (flag ∷ drop (i + 1) flags) ≡ own ++ left_outside (drop (i + 1) wanted) (drop (i + 1) flags)
      → after ++ left_outside (drop (i + 1) wanted) (drop (i + 1) flags) ≡ whole
  outside_more own before after whole so_far adds own_is =
      ap (λ (xs : List Part). xs ++ left_outside (drop (i + 1) wanted) (drop (i + 1) flags)) adds
      ∙ append_assoc before own (left_outside (drop (i + 1) wanted) (drop (i + 1) flags))
      ∙ ap (λ (xs : List Part). before ++ xs) (sym own_is ∙ sym (two_more left_outside)) ∙ so_far

pub left_all : (blocked : List (List ℕ) → Bool) (wanted earlier : List Part) (flags : List Bool) (i : ℕ) (parts whole : List Part) → length wanted ≤ i
    → parts ++ left_after blocked wanted earlier (drop i wanted) (drop i flags) ≡ whole → parts ≡ whole
left_all blocked wanted earlier flags i parts whole le so_far =
    sym (append-nil parts) ∙ ap (λ (xs : List Part). parts ++ xs) (sym (at_drop_all (λ (ps : List Part). left_after blocked wanted earlier ps (drop i flags)) wanted i le)) ∙ so_far

pub outside_all : (wanted : List Part) (flags : List Bool) (i : ℕ) (parts whole : List Part) → length wanted ≤ i → parts ++ left_outside (drop i wanted) (drop i flags) ≡ whole → parts ≡ whole
outside_all wanted flags i parts whole le so_far =
    sym (append-nil parts) ∙ ap (λ (xs : List Part). parts ++ xs) (sym (at_drop_all (λ (ps : List Part). left_outside ps (drop i flags)) wanted i le)) ∙ so_far

pub below_more : (folder : List (List ℕ)) (wanted : List Part) (i : ℕ) (x : Part) (before after : List Inner) → i < length wanted → x ≡ get_or wanted i x → before ≡ filter_map (inner_below folder) (take i wanted)
    → after ≡ before ++ inner_list (inner_below folder x) → after ≡ filter_map (inner_below folder) (take (i + 1) wanted)
below_more folder wanted i x before after lt is so_far adds =
    adds ∙ ap (λ (xs : List Inner). xs ++ inner_list (inner_below folder x)) so_far
    ∙ ap (λ (xs : List Inner). filter_map (inner_below folder) (take i wanted) ++ xs) (sym (one_map (inner_below folder) x))
    ∙ sym (filter_map-append (inner_below folder) (take i wanted) (x ∷ []))
    ∙ ap (filter_map (inner_below folder)) (sym (take_more wanted i x lt ∙ ap (λ (p : Part). take i wanted ++ p ∷ []) (sym is)))

-- where nothing is in the way
not_blocked : (blocked : List (List ℕ) → Bool) (o : Option (List (List ℕ))) → if_blocked blocked o ≡ None → (folder : List (List ℕ)) → o ≡ Some folder → blocked folder ≡ false
not_blocked blocked None none folder is = absurd cc
not_blocked blocked (Some other) none folder is = by (blocked other) refl none
  where
    by : (b : Bool) → blocked other ≡ b → cond b (Some other) None ≡ None → blocked folder ≡ false
    by true e n = absurd cc
    by false e n = ap blocked (let same : other ≡ folder = cc in sym same) ∙ e

pub own_added : (blocked : List (List ℕ) → Bool) (wanted earlier : List Part) (part : Part) (stands : Bool) (before after : List Part) (folders : Folders) → if_blocked blocked (without_last part.target) ≡ None
    → AreUntaken blocked wanted earlier folders → after ≡ before ++ if_left stands part
    → (after ≡ before ++ own_parts wanted earlier part stands (if_blocked blocked (without_last part.target))) × AreUntaken blocked wanted (earlier ++ part ∷ []) folders
own_added blocked wanted earlier part stands before after folders none untaken adds = (
  adds ∙ ap (λ (o : Option (List (List ℕ))). before ++ own_parts wanted earlier part stands o) (sym none),
  untaken_same blocked wanted earlier part folders (not_blocked blocked (without_last part.target) none) untaken,
)

pub parts_more : (blocked : List (List ℕ) → Bool) (wanted : List Part) (i : ℕ) (x : Part) → i < length wanted → x ≡ get_or wanted i x → (folder : List (List ℕ)) → without_last x.target ≡ Some folder → is_in folder wanted ≡ true
parts_more blocked wanted i x lt is folder parent = is_in_at wanted i x folder lt is parent (itself folder)

pub untaken_next : (blocked : List (List ℕ) → Bool) (wanted : List Part) (i : ℕ) (x : Part) (folders : Folders) → i < length wanted → x ≡ get_or wanted i x → AreUntaken blocked wanted (take i wanted ++ x ∷ []) folders
    → AreUntaken blocked wanted (take (i + 1) wanted) folders
untaken_next blocked wanted i x folders lt is untaken =
    subst (λ (e : List Part). AreUntaken blocked wanted e folders) (sym (take_more wanted i x lt ∙ ap (λ (p : Part). take i wanted ++ p ∷ []) (sym is))) untaken

pub flag_at : (flags : List Bool) (i : ℕ) (d : Bool) → i < length flags → get_or flags i d ≡ get_or flags i (get_or flags i d)
flag_at [] i d lt = absurd (omega arith)
flag_at (f ∷ fs) zero d lt = refl
flag_at (f ∷ fs) (suc j) d lt = flag_at fs j d (omega arith)
