-- What goes on a stretch of calls that write nothing, and on one that removes entries below one path alone.
use Rattle.std.proofs.Common.{◌≡◌, ℕ, ◌≤◌, ◌++◌, Bool, true, false, cond, List, Option, Some, None, is_some, refl, sym, ap, ◌∙◌, subst, inl, inr, arith, append-nil, []}
use Rattle.std.specs.Prelude.{◌⊎◌, IsTrue, Result, Ok, Err, OnErr, is_err}
use Rattle.std.specs.Option.{option_map}
use Rattle.std.specs.Ordering.{eq_by_cmp}
use Rattle.std.specs.FinMap as map
use Rattle.std.proofs.lemmas.Cmp.{eq_by_cmp_equiv}
use Rattle.path_name.specs.Orders.{path_cmp, path_cmp_total}
use Rattle.tree_dev.specs.Trees.{FileTree}
use Rattle.tree_dev.specs.Changes.{IsTorn, changed}
use Rattle.tree_dev.specs.Disk.{Disks, IsImage, IsLater, Leaves, LeftSince, WasImage, moment, reading, with_change}
use Rattle.tree_dev.specs.Device.{Adds, MayAdd, MaySettle, Meaning, OnlyRead, Rose, is_failed}
use Rattle.tree_dev.specs.Projects.{is_within}
use Rattle.tree_dev.specs.Steady.{Through, is_write}
use Rattle.tree_dev.specs.Told.{equal_paths}
use Rattle.tree_dev.specs.declared.change.Change.{Change}
use Rattle.tree_dev.specs.declared.change.Change.TheVariants as changes
use Rattle.tree_dev.proofs.Behind.{behind_head}
use Rattle.tree_dev.proofs.Changed.{get-changed}
use Rattle.tree_dev.proofs.Images.{left_with_change}
use Rattle.tree_dev.proofs.Moments.{image_now, later_by_change, later_moment, later_on, later_same, only_now, since_parts}
use Rattle.tree_dev.proofs.ProjectParts.{within_on}
use Rattle.tree_dev.proofs.Stretches.{through_ends, through_on}
use Rattle.tree_dev.proofs.Whole.{reading_on, whole_on, whole_then_barrier, whole_then_read}
use Rattle.tree_dev.specs.declared.fault.TreeFault.{TreeFault}
use Rattle.tree_dev.specs.declared.fault.TreeFault.TheVariants as tree_faults
use Rattle.install_world.specs.Emptied.{is_vanished}
use Rattle.install_world.specs.Removals.{OnlyRemoved, Removes, WritesNone, fault_of_tree, is_device_fault}

-- ---- calls that write nothing

pub writes_none_start : (m : Meaning) → WritesNone m m false
writes_none_start m = record { tells = refl; whole = λ whole. whole; faults = omega arith; writes = refl; cause = λ wrong. absurd cc }

pub writes_none_on : (a b d : Meaning) (failed : Bool) → WritesNone b d failed → WritesNone a b false → WritesNone a d failed
writes_none_on a b d failed second first = record {
  tells = second.tells ∙ first.tells;
  whole = λ whole. second.whole (first.whole whole);
  faults = omega (arith, first.faults, second.faults);
  writes = second.writes ∙ first.writes;
  cause = λ f. let rose = second.cause f in let le = first.faults in omega (arith, rose, le);
}

pub writes_none_read : (a b d : Meaning) (failed : Bool) → OnlyRead b d failed → WritesNone a b false → WritesNone a d failed
writes_none_read a b d failed read first =
    writes_none_on a b d failed
    (record { tells = ap is_some read.told; whole = whole_then_read b d failed read; faults = read.faults; writes = read.writes; cause = read.cause })
    first

still_told : (t : Option FileTree) (change : Change) → is_some (option_map (λ (u : FileTree). changed u change) t) ≡ is_some t
still_told None change = refl
still_told (Some u) change = refl

change_tells : (b d : Meaning) (change : Change) → MayAdd b d change → is_some d.told ≡ is_some b.told
change_tells b d change (inl stays) = ap is_some stays.told
change_tells b d change (inr adds) = ap is_some adds.adds.told ∙ still_told b.told adds.torn

change_faults : (b d : Meaning) (change : Change) → MayAdd b d change → b.faults ≤ d.faults
change_faults b d change (inl stays) = stays.faults
change_faults b d change (inr adds) = adds.adds.faults

pub writes_none_change : (a b d : Meaning) (change : Change) (failed : Bool) → MayAdd b d change → is_write change ≡ false → d.writes ≡ b.writes → (IsTrue failed → Rose b.faults d.faults)
    → WritesNone a b false → WritesNone a d failed
writes_none_change a b d change failed may quiet same cause first =
    writes_none_on a b d failed
    (record { tells = change_tells b d change may; whole = whole_on b d change may quiet; faults = change_faults b d change may; writes = same; cause = cause })
    first

settle_tells : (b d : Meaning) → MaySettle b d → is_some d.told ≡ is_some b.told
settle_tells b d (inl stays) = ap is_some stays.told
settle_tells b d (inr settles) = ap is_some settles.told

settle_faults : (b d : Meaning) → MaySettle b d → b.faults ≤ d.faults
settle_faults b d (inl stays) = stays.faults
settle_faults b d (inr settles) = settles.faults

pub writes_none_barrier : (a b d : Meaning) (failed : Bool) → MaySettle b d → d.writes ≡ b.writes → (IsTrue failed → Rose b.faults d.faults) → WritesNone a b false → WritesNone a d failed
writes_none_barrier a b d failed may same cause first =
    writes_none_on a b d failed
    (record { tells = settle_tells b d may; whole = whole_then_barrier b d may; faults = settle_faults b d may; writes = same; cause = cause })
    first

-- ---- trees without some entries

pub removed_itself : (at : List (List ℕ)) (t : FileTree) → OnlyRemoved at t t
removed_itself at t = record { each = λ path. inl refl }

pub removed_on : (at : List (List ℕ)) (t u w : FileTree) → OnlyRemoved at t u → OnlyRemoved at u w → OnlyRemoved at t w
removed_on at t u w first second = record { each = λ path. by path (second.each path) (first.each path) }
  where
    by : (path : List (List ℕ)) → (map.get w path ≡ map.get u path) ⊎ ((is_within at path ≡ true) × (map.get w path ≡ None))
        → (map.get u path ≡ map.get t path) ⊎ ((is_within at path ≡ true) × (map.get u path ≡ None))
        → (map.get w path ≡ map.get t path) ⊎ ((is_within at path ≡ true) × (map.get w path ≡ None))
    by path (inl same) (inl earlier) = inl (same ∙ earlier)
    by path (inl same) (inr gone) = inr (gone.0, same ∙ gone.1)
    by path (inr gone) either = inr gone

pub removed_wider : (at inner : List (List ℕ)) (t u : FileTree) → is_within at inner ≡ true → OnlyRemoved inner t u → OnlyRemoved at t u
removed_wider at inner t u within removed = record {
  each = λ path. elim (removed.each path) [
    | inl same ↦ inl same
    | inr gone ↦ inr (within_on at inner path within gone.0, gone.1)
  ];
}

without_step : (at q path : List (List ℕ)) (t : FileTree) (same : Bool) → eq_by_cmp path_cmp path q ≡ same → is_within at q ≡ true
    → (cond same None (map.get t path) ≡ map.get t path) ⊎ ((is_within at path ≡ true) × (cond same None (map.get t path) ≡ None))
without_step at q path t true is within = inr (ap (is_within at) (equal_paths path q is) ∙ within, refl)
without_step at q path t false is within = inl refl

-- a removal of an entry
pub file_removed : (at q : List (List ℕ)) (t : FileTree) → is_within at q ≡ true → OnlyRemoved at t (changed t (changes.FileRemoved q))
file_removed at q t within = record {
  each = λ path. subst (λ entry. (entry ≡ map.get t path) ⊎ ((is_within at path ≡ true) × (entry ≡ None))) (sym (get-changed t (changes.FileRemoved q) path))
      (without_step at q path t (eq_by_cmp path_cmp path q) refl within);
}

pub folder_removed : (at q : List (List ℕ)) (t : FileTree) → is_within at q ≡ true → OnlyRemoved at t (changed t (changes.FolderRemoved q))
folder_removed at q t within = record {
  each = λ path. subst (λ entry. (entry ≡ map.get t path) ⊎ ((is_within at path ≡ true) × (entry ≡ None))) (sym (get-changed t (changes.FolderRemoved q) path))
      (without_step at q path t (eq_by_cmp path_cmp path q) refl within);
}

-- ---- stretches of removals

same_reading : (at : List (List ℕ)) (b d : Meaning) → d.disks ≡ b.disks → OnlyRemoved at (reading b.disks.now) (reading d.disks.now)
same_reading at b d same =
    subst (λ (disks : Disks). OnlyRemoved at (reading b.disks.now) (reading disks.now)) (sym same) (removed_itself at (reading b.disks.now))

still : (at : List (List ℕ)) (b d : Meaning) → d.disks ≡ b.disks → b.faults ≤ d.faults → Removes at b d
still at b d same faults = record {
  later = later_same b.disks d.disks same;
  each = λ left since. (left, only_now b.disks left (subst (λ (disks : Disks). LeftSince disks (moment b.disks) left) same since), removed_itself at left);
  reads = same_reading at b d same;
  faults = faults;
}

pub removes_start : (at : List (List ℕ)) (m : Meaning) → Removes at m m
removes_start at m = still at m m refl (omega arith)

pub removes_on : (at : List (List ℕ)) (a b d : Meaning) → Removes at b d → Removes at a b → Removes at a d
removes_on at a b d second first = record {
  later = later_on a.disks b.disks d.disks first.later second.later;
  each = λ left since. elim (since_parts b.disks d.disks (moment a.disks) left second.later since) [
    | inl before ↦ first.each left before
    | inr after ↦ earlier left (second.each left after)
  ];
  reads = removed_on at (reading a.disks.now) (reading b.disks.now) (reading d.disks.now) first.reads second.reads;
  faults = omega (arith, first.faults, second.faults);
}
  where
    earlier : (left : FileTree) → (was : FileTree) × IsImage b.disks.now was × OnlyRemoved at was left → (was : FileTree) × IsImage a.disks.now was × OnlyRemoved at was left
    earlier left found =
        let more = first.each found.0 (image_now b.disks (moment a.disks) found.0 (later_moment a.disks b.disks first.later) found.1) in
        (more.0, more.1, removed_on at more.0 found.0 left more.2 found.2)

pub removes_read : (at : List (List ℕ)) (a b d : Meaning) (failed : Bool) → OnlyRead b d failed → Removes at a b → Removes at a d
removes_read at a b d failed read first = removes_on at a b d (still at b d read.disks read.faults) first

-- what is no write comes out whole
whole_change : (change torn : Change) → is_write change ≡ false → IsTorn change torn → torn ≡ change
whole_change (changes.Written at bytes) torn quiet is = absurd cc
whole_change (changes.FolderMade at) torn quiet is = is
whole_change (changes.Renamed from to) torn quiet is = is
whole_change (changes.FileRemoved at) torn quiet is = is
whole_change (changes.FolderRemoved at) torn quiet is = is

one_removal : (at : List (List ℕ)) (b d : Meaning) (change : Change) → MayAdd b d change → is_write change ≡ false → ((t : FileTree) → OnlyRemoved at t (changed t change))
    → Removes at b d
unfolding WasImage
one_removal at b d change (inl stays) quiet removes = still at b d stays.disks stays.faults
one_removal at b d change (inr adds) quiet removes = record {
  later = subst (λ (disks : Disks). IsLater b.disks disks) (sym adds.adds.disks) (later_by_change b.disks adds.torn);
  each = λ left since. by_moment left (subst (λ (disks : Disks). LeftSince disks (moment b.disks) left) adds.adds.disks since);
  reads = elim (reading_on b d change (inr adds) quiet) [
    | inl same ↦ subst (OnlyRemoved at (reading b.disks.now)) (sym same) (removed_itself at (reading b.disks.now))
    | inr made ↦ subst (OnlyRemoved at (reading b.disks.now)) (sym made) (removes (reading b.disks.now))
  ];
  faults = adds.adds.faults;
}
  where
    left_by : (before left : FileTree) → Leaves before adds.torn left → OnlyRemoved at before left
    left_by before left leaves =
        let one : adds.torn ≡ change = whole_change change adds.torn quiet adds.is_torn in
        let two : leaves.torn ≡ change = whole_change change leaves.torn quiet (subst (λ c. IsTorn c leaves.torn) one leaves.is_torn) in
        subst (OnlyRemoved at before) (sym (leaves.after ∙ ap (changed before) two)) (removes before)

    by_moment : (left : FileTree) → LeftSince (with_change b.disks adds.torn) (moment b.disks) left → (was : FileTree) × IsImage b.disks.now was × OnlyRemoved at was left
    by_moment left (inl now) = elim (left_with_change b.disks adds.torn left now.1) [
      | inl image ↦ (left, image, removed_itself at left)
      | inr one ↦ (one.0, one.1, left_by one.0 left one.2)
    ]
    by_moment left (inr before) = (left, only_now b.disks left before, removed_itself at left)

pub removes_change : (at : List (List ℕ)) (a b d : Meaning) (change : Change) → MayAdd b d change → is_write change ≡ false → ((t : FileTree) → OnlyRemoved at t (changed t change))
    → Removes at a b → Removes at a d
removes_change at a b d change may quiet removes first = removes_on at a b d (one_removal at b d change may quiet removes) first

pub removes_file : (at q : List (List ℕ)) (a b d : Meaning) → MayAdd b d (changes.FileRemoved q) → is_within at q ≡ true → Removes at a b → Removes at a d
removes_file at q a b d may within first = removes_change at a b d (changes.FileRemoved q) may refl (λ t. file_removed at q t within) first

pub removes_folder : (at q : List (List ℕ)) (a b d : Meaning) → MayAdd b d (changes.FolderRemoved q) → is_within at q ≡ true → Removes at a b → Removes at a d
removes_folder at q a b d may within first = removes_change at a b d (changes.FolderRemoved q) may refl (λ t. folder_removed at q t within) first

pub removes_wider : (at inner : List (List ℕ)) (b d : Meaning) → is_within at inner ≡ true → Removes inner b d → Removes at b d
removes_wider at inner b d within inside = record {
  later = inside.later;
  each = λ left since. let found = inside.each left since in (found.0, found.1, removed_wider at inner found.0 left within found.2);
  reads = removed_wider at inner (reading b.disks.now) (reading d.disks.now) within inside.reads;
  faults = inside.faults;
}

pub within_head : (at rest : List (List ℕ)) → is_within at (at ++ rest) ≡ true
within_head at rest = ap is_some (behind_head at rest)

pub within_equal : (at rest path : List (List ℕ)) → path ≡ at ++ rest → is_within at path ≡ true
within_equal at rest path e = ap (is_within at) e ∙ within_head at rest

-- what removals keep goes on through them
pub through_removes : (P : FileTree → Type 0) (at : List (List ℕ)) → ((was left : FileTree) → OnlyRemoved at was left → P was → P left)
    → (a b d : Meaning) → Removes at b d → Through a b P → Through a d P
through_removes P at keeps a b d removes run =
    through_on P a b d run (record {
      later = removes.later;
      each = λ left since. let found = removes.each left since in keeps found.0 left found.2 (through_ends P a b run found.0 found.1);
      faults = removes.faults;
    })

-- the cause of a call that failed
pub cause_of : {X E P : Type 0} (r : Result X E) → OnErr r P → IsTrue (is_err r) → P
cause_of (Ok x) cause failed = absurd cc
cause_of (Err e) cause failed = cause

pub within_itself : (at : List (List ℕ)) → is_within at at ≡ true
within_itself at = ap (is_within at) (sym (append-nil at)) ∙ within_head at []

removed_here : (q : List (List ℕ)) (t : FileTree) → map.get (changed t (changes.FolderRemoved q)) q ≡ None
removed_here q t = get-changed t (changes.FolderRemoved q) q ∙ ap (λ same. cond same None (map.get t q)) ((eq_by_cmp_equiv path_cmp_total).refl q)

-- after the folder was removed nothing is there
pub folder_is_gone : (q : List (List ℕ)) (b d : Meaning) (u : FileTree) → MayAdd b d (changes.FolderRemoved q) → d.told ≡ Some u
    → ((t : FileTree) → b.told ≡ Some t → Adds b d (changes.FolderRemoved q)) → map.get u q ≡ None
folder_is_gone q b d u may told done = by b.told refl
  where
    by : (before : Option FileTree) → b.told ≡ before → map.get u q ≡ None
    by None e =
        let none : is_some b.told ≡ false = ap is_some e in
        let some : is_some d.told ≡ true = ap is_some told in
        let same = change_tells b d (changes.FolderRemoved q) may in
        absurd cc
    by (Some t) e =
        let adds = done t e in
        let now : Some u ≡ Some (changed t (changes.FolderRemoved q)) =
        sym told ∙ adds.told ∙ ap (option_map (λ (w : FileTree). changed w (changes.FolderRemoved q))) e in
        let same : u ≡ changed t (changes.FolderRemoved q) = cc in
        ap (λ (w : FileTree). map.get w q) same ∙ removed_here q t

-- a failure of the device stays one
pub writes_none_failing : (X Y : Type 0) (a b : Meaning) (fault : TreeFault) → WritesNone a b (is_failed {X = X} (Err fault)) → WritesNone a b (is_device_fault {X = Y} (Err (fault_of_tree fault)))
writes_none_failing X Y a b tree_faults.Failed is = is
writes_none_failing X Y a b tree_faults.OutOfMemory is = is

-- a fault of the tree is no entry that vanished
pub tree_faults_stay : (Y : Type 0) (fault : TreeFault) → is_vanished {X = Y} (Err (fault_of_tree fault)) ≡ false
tree_faults_stay Y tree_faults.Failed = refl
tree_faults_stay Y tree_faults.OutOfMemory = refl
