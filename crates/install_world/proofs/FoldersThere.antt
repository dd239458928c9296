-- The folders that recovery needs are there or are made, so that over a tree that tells nothing has vanished.
use Rattle.std.proofs.Common.{◌≡◌, ◌≢◌, ℕ, true, false, cond, codes, List, [], ◌∷◌, ◌++◌, append_assoc, append-nil, Option, Some, None, is_some, is_none, refl, sym, ap, ◌∙◌, subst, inl, inr}
use Rattle.std.specs.Prelude.{◌⊎◌, ◌&&◌, Result, Ok, Err}
use Rattle.std.specs.FinMap as map
use Rattle.std.proofs.lemmas.Bool.{false≢true}
use Rattle.std.proofs.lemmas.Cmp.{eq_by_cmp_equiv}
use Rattle.std.proofs.lemmas.Option.{slice_get_within, get_or_from_slice_get}
use Rattle.path_name.specs.Orders.{path_cmp_total}
use Rattle.path_name.specs.Paths.{BeginsWith, without_last}
use Rattle.tree_dev.specs.Trees.{FileTree, IsTree, behind, entry_at, has_folder, is_folder, kind_at, kind_of}
use Rattle.tree_dev.specs.Changes.{changed, has_place, is_file, is_leaf, is_root, made_folder}
use Rattle.tree_dev.specs.Projects.{journal_path, work_path}
use Rattle.tree_dev.specs.declared.change.Change.TheVariants as changes
use Rattle.tree_dev.specs.declared.did.Made.{Made}
use Rattle.tree_dev.specs.declared.did.Made.TheVariants as mades
use Rattle.tree_dev.specs.declared.entry.Entry.{Entry}
use Rattle.tree_dev.specs.declared.entry.Entry.TheVariants as entries
use Rattle.tree_dev.specs.declared.entry.Kind.{Kind}
use Rattle.tree_dev.specs.declared.entry.Kind.TheVariants as kinds
use Rattle.tree_dev.specs.declared.fault.TreeFault.{TreeFault}
use Rattle.tree_dev.specs.declared.fault.TreeFault.TheVariants as tree_faults
use Rattle.tree_dev.proofs.Changed.{get-changed}
use Rattle.tree_dev.proofs.Snoc.{parent_of, without_last-snoc}
use Rattle.install_world.specs.Emptied as removals
use Rattle.install_world.specs.Finishing.{MakesReady, OnlyMade, Stands}
use Rattle.install_world.specs.InFlight.{IsPart, IsThere, kept_path, old_path, staged_path, target_path}
use Rattle.install_world.specs.Moving.{ArePlaces, ChangesPlaces, HasFolders, is_kept}
use Rattle.install_world.specs.PartFaults as parts
use Rattle.install_world.specs.Recovery.{fault_of_journal, fault_of_part, fault_of_removal, fault_of_tree, is_vanished}
use Rattle.install_world.specs.Removals.{OnlyRemoved}
use Rattle.install_world.specs.Targets.{AreTargetPaths, IsTargetPath, lock_target, vendor_target}
use Rattle.install_world.specs.declared.fault.JournalFault.{JournalFault}
use Rattle.install_world.specs.declared.fault.JournalFault.TheVariants as journal_faults
use Rattle.install_world.specs.declared.journal.Journal.{Journal}
use Rattle.install_world.specs.declared.moving.PartPlaces.{PartPlaces}
use Rattle.install_world.specs.declared.part_fault.PartFault.{PartFault}
use Rattle.install_world.specs.declared.part_fault.PartFault.TheVariants as part_faults
use Rattle.install_world.specs.declared.recovery_fault.RecoverFault.{RecoverFault}
use Rattle.install_world.specs.declared.recovery_fault.RecoverFault.TheVariants as faults
use Rattle.install_world.specs.declared.removal_fault.RemoveFault.{RemoveFault}
use Rattle.install_world.specs.declared.removal_fault.RemoveFault.TheVariants as removal_faults
use Rattle.install_world.specs.declared.target.Target.{Target}
use Rattle.install_world.proofs.FinishSteps.{made_elsewhere, work_not_above}
use Rattle.install_world.proofs.KeptParts.{kept_alike}
use Rattle.install_world.proofs.PartCleared.{removed_else}
use Rattle.install_world.proofs.PartMoves.{folder_stays}
use Rattle.install_world.proofs.PartPaths.{kept_is_work, kept_not_old, kept_not_staged, old_is_work, staged_is_work, staged_not_old, target_is_part, target_not_work, work_not_parent, work_not_part}
use Rattle.install_world.proofs.RoomMade.{folder_is, old_under}
use Rattle.install_world.proofs.WayMoves.{entry_is}

-- ---- faults

pub fit_is_there : (X : Type 0) (result : Result X PartFault) → parts.is_unfit result ≡ false → parts.is_vanished result ≡ false
fit_is_there X (Ok x) fit = refl
fit_is_there X (Err (part_faults.OtherEntry at)) fit = absurd cc
fit_is_there X (Err (part_faults.Vanished at)) fit = absurd cc
fit_is_there X (Err part_faults.DeviceFault) fit = refl
fit_is_there X (Err part_faults.OutOfMemory) fit = refl

pub tree_is_there : (Y : Type 0) (fault : TreeFault) → is_vanished {X = Y} (Err (fault_of_tree fault)) ≡ false
tree_is_there Y tree_faults.Failed = refl
tree_is_there Y tree_faults.OutOfMemory = refl

pub journal_is_there : (Y : Type 0) (fault : JournalFault) → is_vanished {X = Y} (Err (fault_of_journal fault)) ≡ false
journal_is_there Y (journal_faults.BadJournal at) = refl
journal_is_there Y journal_faults.OutOfMemory = refl

pub part_is_there : (X Y : Type 0) (fault : PartFault) → parts.is_vanished {X = X} (Err fault) ≡ false → is_vanished {X = Y} (Err (fault_of_part fault)) ≡ false
part_is_there X Y (part_faults.OtherEntry at) is = refl
part_is_there X Y (part_faults.Vanished at) is = absurd cc
part_is_there X Y part_faults.DeviceFault is = refl
part_is_there X Y part_faults.OutOfMemory is = refl

pub removal_is_there : (X Y : Type 0) (fault : RemoveFault) → removals.is_vanished {X = X} (Err fault) ≡ false → is_vanished {X = Y} (Err (fault_of_removal fault)) ≡ false
removal_is_there X Y (removal_faults.Vanished at) is = absurd cc
removal_is_there X Y removal_faults.DeviceFault is = refl
removal_is_there X Y removal_faults.OutOfMemory is = refl

pub still_there : (X Y : Type 0) (fault : RecoverFault) → is_vanished {X = X} (Err fault) ≡ false → is_vanished {X = Y} (Err fault) ≡ false
still_there X Y (faults.BadJournal at) is = refl
still_there X Y (faults.OtherEntry at) is = refl
still_there X Y (faults.Vanished at) is = absurd cc
still_there X Y (faults.Limit kind) is = refl
still_there X Y faults.DeviceFault is = refl
still_there X Y faults.OutOfMemory is = refl

-- ---- folders that are shown or made

pub folder_shown : (t : FileTree) (at : List (List ℕ)) (kind : Kind) → kind ≡ kind_at t at → kind ≡ kinds.Folder → is_folder (entry_at t at) ≡ true
unfolding kind_at
folder_shown t at kind is folder = by (entry_at t at) (sym is ∙ folder)
  where
    by : (entry : Option Entry) → kind_of entry ≡ kinds.Folder → is_folder entry ≡ true
    by None e = absurd cc
    by (Some (entries.File bytes)) e = absurd cc
    by (Some entries.Folder) e = refl
    by (Some entries.Other) e = absurd cc

pub some_shown : (t : FileTree) (at : List (List ℕ)) (kind : Kind) → kind ≡ kind_at t at → kind ≢ kinds.Absent → is_some (entry_at t at) ≡ true
unfolding kind_at
some_shown t at kind is other = by (entry_at t at) is
  where
    by : (entry : Option Entry) → kind ≡ kind_of entry → is_some entry ≡ true
    by None e = absurd (other e)
    by (Some entry) e = refl

pub none_shown : (t : FileTree) (at : List (List ℕ)) (kind : Kind) → kind ≡ kind_at t at → kind ≡ kinds.Absent → is_some (entry_at t at) ≡ true → ⊥
unfolding kind_at
none_shown t at kind is absent some = by (entry_at t at) (sym is ∙ absent) some
  where
    by : (entry : Option Entry) → kind_of entry ≡ kinds.Absent → is_some entry ≡ true → ⊥
    by None e there = false≢true there
    by (Some (entries.File bytes)) e there = cc
    by (Some entries.Folder) e there = cc
    by (Some entries.Other) e there = cc

pub folder_some : (entry : Option Entry) → is_folder entry ≡ true → is_some entry ≡ true
folder_some None e = e
folder_some (Some entry) e = refl

pub made_is_folder : (t : FileTree) (at : List (List ℕ)) → is_folder (entry_at (changed t (changes.FolderMade at)) at) ≡ true
made_is_folder t [] = refl
made_is_folder t (x ∷ xs) =
    ap is_folder (get-changed t (changes.FolderMade (x ∷ xs)) (x ∷ xs)
    ∙ ap (λ same. cond same (Some entries.Folder) (map.get t (x ∷ xs))) ((eq_by_cmp_equiv path_cmp_total).refl (x ∷ xs)))

pub new_folder : (t : FileTree) (at : List (List ℕ)) (answer : Made) → answer ≡ made_folder t at → map.get t at ≡ None → has_folder t (without_last at) ≡ true → answer ≡ mades.New
unfolding made_folder has_place
new_folder t [] answer is none above = absurd cc
new_folder t (x ∷ xs) answer is none above =
    let place : (has_folder t (without_last (x ∷ xs)) && is_none (map.get t (x ∷ xs))) ≡ true = ap (λ f. f && is_none (map.get t (x ∷ xs))) above ∙ ap is_none none in
    is ∙ ap (λ some. cond some mades.Exists (cond (has_folder t (without_last (x ∷ xs)) && is_none (map.get t (x ∷ xs))) mades.New mades.Misplaced)) (ap is_some none)
    ∙ ap (λ fits. cond fits mades.New mades.Misplaced) place

-- ---- the folder above a target

pub target_is_some : (path : List (List ℕ)) → IsTargetPath path → path ≢ []
target_is_some path is none = by is.place
  where
    by : (path ≡ lock_target) ⊎ BeginsWith path vendor_target → ⊥
    by (inl lock) = cc
    by (inr vendor) = let begins = vendor.1 in cc

pub parent_behind : (project target above : List (List ℕ)) → without_last target ≡ Some above → without_last (project ++ target) ≡ Some (project ++ above)
parent_behind project target above is =
    let ends = parent_of target above is in
    ap without_last (ap (λ p. project ++ p) ends.1 ∙ sym (append_assoc project above (ends.0 ∷ []))) ∙ without_last-snoc (project ++ above) ends.0

pub above_target : (project target : List (List ℕ)) → target ≢ []
    → (above : List (List ℕ)) × (without_last target ≡ Some above) × (without_last (project ++ target) ≡ Some (project ++ above))
above_target project target some = by (without_last target) refl
  where
    no_parent : (path : List (List ℕ)) → path ≢ [] → without_last path ≡ None → ⊥
    no_parent [] full e = full refl
    no_parent (x ∷ xs) full e = cc

    by : (parent : Option (List (List ℕ))) → without_last target ≡ parent
        → (above : List (List ℕ)) × (without_last target ≡ Some above) × (without_last (project ++ target) ≡ Some (project ++ above))
    by None e = absurd (no_parent target some e)
    by (Some above) e = (above, e, parent_behind project target above e)

-- ---- the folders of an install

above_old : (project : List (List ℕ)) → without_last (old_path project) ≡ Some (work_path project)
above_old project = ap without_last (sym (append_assoc project (codes ".install" ∷ []) (codes "old" ∷ []))) ∙ without_last-snoc (work_path project) (codes "old")

above_journal : (project : List (List ℕ)) → without_last (journal_path project) ≡ Some (work_path project)
above_journal project = ap without_last (sym (append_assoc project (codes ".install" ∷ []) (codes "journal" ∷ []))) ∙ without_last-snoc (work_path project) (codes "journal")

work_under : (project : List (List ℕ)) → is_root (work_path project) ≡ false
work_under [] = refl
work_under (x ∷ xs) = refl

journal_under : (project : List (List ℕ)) → is_root (journal_path project) ≡ false
journal_under [] = refl
journal_under (x ∷ xs) = refl

module _ (project : List (List ℕ)) (t : FileTree) (tree : IsTree t) where
  pub work_above : is_some (entry_at t (old_path project)) ≡ true → map.get t (work_path project) ≡ Some entries.Folder
  work_above stands =
      let old : is_some (map.get t (old_path project)) ≡ true = ap is_some (sym (entry_is t (old_path project) (old_under project))) ∙ stands in
      let above = ap (has_folder t) (sym (above_old project)) ∙ tree.below_folders (old_path project) old in
      sym (entry_is t (work_path project) (work_under project)) ∙ folder_is (entry_at t (work_path project)) above

  pub old_work : is_folder (entry_at t (old_path project)) ≡ true → map.get t (work_path project) ≡ Some entries.Folder
  old_work stands = work_above (folder_some (entry_at t (old_path project)) stands)

  pub old_project : is_some (entry_at t (old_path project)) ≡ true → is_folder (entry_at t project) ≡ true
  old_project stands =
      ap (has_folder t) (sym (without_last-snoc project (codes ".install"))) ∙ tree.below_folders (work_path project) (ap is_some (work_above stands))

  -- where the journal stands `.install` is a folder
  pub journal_above_old : (journal : Journal) → Stands project journal t → has_folder t (without_last (old_path project)) ≡ true
  journal_above_old journal stands =
      ap (has_folder t) (above_old project) ∙ ap (has_folder t) (sym (above_journal project)) ∙ tree.below_folders (journal_path project) (ap is_some stands.has.there)

pub journal_is_file : (project at : List (List ℕ)) (journal : Journal) (t : FileTree) → at ≡ journal_path project → Stands project journal t → is_file (entry_at t at) ≡ true
journal_is_file project at journal t is stands = ap (λ p. is_file (entry_at t p)) is ∙ ap is_file (entry_is t (journal_path project) (journal_under project) ∙ stands.has.there)

file_is_leaf : (entry : Option Entry) → is_file entry ≡ true → is_leaf entry ≡ true
file_is_leaf None e = absurd cc
file_is_leaf (Some (entries.File bytes)) e = refl
file_is_leaf (Some entries.Folder) e = absurd cc
file_is_leaf (Some entries.Other) e = absurd cc

pub file_has_place : (t : FileTree) (at : List (List ℕ)) → is_file (entry_at t at) ≡ true → has_place t (changes.FileRemoved at) ≡ true
unfolding has_place
file_has_place t at file = file_is_leaf (entry_at t at) file

pub stands_paths : (project : List (List ℕ)) (journal : Journal) (t : FileTree) → Stands project journal t → AreTargetPaths journal.targets
stands_paths project journal t stands = λ i target less. (stands.has.says.is_journal.job.each i target less).place

pub path_of_part : (targets : List Target) (number : ℕ) (target : Target) → AreTargetPaths targets → IsPart targets number target → IsTargetPath target.path
path_of_part targets number target all part =
    subst (λ (x : Target). IsTargetPath x.path) (get_or_from_slice_get targets number target target part) (all number target (slice_get_within targets number target part))

-- ---- they stay

old_entry : (project : List (List ℕ)) (t u : FileTree) → map.get u (old_path project) ≡ map.get t (old_path project) → entry_at u (old_path project) ≡ entry_at t (old_path project)
old_entry project t u same = folder_stays t u (old_path project) same

module _ (project : List (List ℕ)) (number : ℕ) (target : Target) (places : PartPlaces) (are : ArePlaces project number target places) where
  pub made_old : (t v : FileTree) → OnlyMade (target_path project target) t v → entry_at v (old_path project) ≡ entry_at t (old_path project)
  made_old t v made = old_entry project t v
      (made_elsewhere (target_path project target) (old_path project) t v made (work_not_above project (old_path project) number target places are (old_is_work project)))

  module _ (v u : FileTree) (removed : OnlyRemoved places.kept v u) where
    kept_removed : OnlyRemoved (kept_path project number) v u
    kept_removed = subst (λ at. OnlyRemoved at v u) are.kept_is removed

    removed_old : entry_at u (old_path project) ≡ entry_at v (old_path project)
    removed_old = old_entry project v u (removed_else (kept_path project number) (old_path project) v u kept_removed (kept_not_old project number))

    removed_staged : map.get u (staged_path project number) ≡ map.get v (staged_path project number)
    removed_staged = removed_else (kept_path project number) (staged_path project number) v u kept_removed kept_not_staged_itself
      where
        kept_not_staged_itself : behind (kept_path project number) (staged_path project number) ≡ None
        kept_not_staged_itself = ap (behind (kept_path project number)) (sym (append-nil (staged_path project number))) ∙ kept_not_staged project number number []

    removed_target : map.get u (target_path project target) ≡ map.get v (target_path project target)
    removed_target = removed_else (kept_path project number) (target_path project target) v u kept_removed
        (ap (behind (kept_path project number)) (sym (append-nil (target_path project target)))
        ∙ work_not_part project (kept_path project number) (target_path project target ++ []) (kept_is_work project number) (target_is_part project [] target are.is_target))

    parent_stays : has_folder v (without_last (target_path project target)) ≡ true → has_folder u (without_last (target_path project target)) ≡ true
    parent_stays has = by (without_last (target_path project target)) refl has
      where
        by : (above : Option (List (List ℕ))) → without_last (target_path project target) ≡ above → has_folder v above ≡ true → has_folder u above ≡ true
        by None e stands = stands
        by (Some parent) e stands =
            ap is_folder (folder_stays v u parent (removed_else (kept_path project number) parent v u kept_removed
            (work_not_parent project parent (kept_path project number) target are.is_target (kept_is_work project number) e))) ∙ stands

    -- once folders were made and found, and what is kept was removed
    pub folders_ready : (t : FileTree) → OnlyMade (target_path project target) t v
        → (is_kept target.gone (kind_at v places.target) (kind_at v places.staged) ≡ true → is_folder (entry_at v (old_path project)) ≡ true)
        → (target.gone ≡ false → IsThere t places.staged → has_folder v (without_last (target_path project target)) ≡ true) → HasFolders project number target u
    folders_ready t made old parent = record {
      old_folder = λ kept. ap is_folder removed_old
          ∙ old (subst (λ at. is_kept target.gone (kind_at v at) (kind_at v places.staged) ≡ true) (sym are.target_is)
          (subst (λ at. is_kept target.gone (kind_at v (target_path project target)) (kind_at v at) ≡ true) (sym are.staged_is)
          (kept_alike target.gone v u (target_path project target) (staged_path project number)
          (folder_stays v u (target_path project target) removed_target) (folder_stays v u (staged_path project number) removed_staged) kept)));
      parent = λ goes there. parent_stays (parent goes (subst (IsThere t) (sym are.staged_is)
          (ap is_some (sym (made_elsewhere (target_path project target) (staged_path project number) t v made
          (work_not_above project (staged_path project number) number target places are (staged_is_work project number))))
          ∙ ap is_some (sym removed_staged) ∙ there)));
    }

  pub old_prepared : (t u : FileTree) → MakesReady (target_path project target) places.kept t u → entry_at u (old_path project) ≡ entry_at t (old_path project)
  old_prepared t u ready = removed_old ready.between u ready.removed ∙ made_old t ready.between ready.made

  pub old_moved : (t u : FileTree) → ChangesPlaces places t u → entry_at u (old_path project) ≡ entry_at t (old_path project)
  old_moved t u moves =
      old_entry project t u (moves.others (old_path project)
      (ap (λ at. behind at (old_path project)) are.target_is ∙ target_not_work project (old_path project) target are.is_target (old_is_work project))
      (ap (λ at. behind at (old_path project)) are.staged_is ∙ staged_not_old project number)
      (ap (λ at. behind at (old_path project)) are.kept_is ∙ kept_not_old project number))
