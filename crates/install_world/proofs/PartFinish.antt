-- A part that is finished: what goes on the way through its steps.
use Rattle.std.proofs.Common.{◌≡◌, ◌≢◌, ℕ, ◌<◌, ◌≤◌, ◌^◌, Bool, true, false, List, [], ◌∷◌, ◌++◌, Option, Some, None, is_some, refl, sym, ap, ◌∙◌, subst, inl, inr, arith, append_assoc, append-nil}
use Rattle.std.specs.FinMap as map
use Rattle.std.specs.List.{slice_get}
use Rattle.std.proofs.lemmas.Option.{slice_get_within}
use Rattle.path_name.specs.Paths.{without_last}
use Rattle.tree_dev.specs.Trees.{FileTree, behind, entry_at, has_folder, is_folder, kind_at, kind_of}
use Rattle.tree_dev.specs.declared.entry.Kind.{Kind}
use Rattle.tree_dev.specs.declared.entry.Kind.TheVariants as kinds
use Rattle.tree_dev.specs.declared.entry.Entry.{Entry}
use Rattle.tree_dev.specs.declared.entry.Entry.TheVariants as entries
use Rattle.tree_dev.specs.Disk.{Disks, IsOnDisk, reading}
use Rattle.tree_dev.specs.Device.{Meaning}
use Rattle.tree_dev.specs.Projects.{is_within, work_path}
use Rattle.tree_dev.specs.Steady.{EachImage, Through}
use Rattle.tree_dev.proofs.Images.{reading_is_image}
use Rattle.tree_dev.proofs.Stretches.{same_moment, through_then_through}
use Rattle.install_world.specs.InFlight.{IsPart, IsPartDone, kept_path, old_path, staged_path, target_path}
use Rattle.install_world.specs.Moving.{ArePlaces, ChangesPlaces, HasFolders, IsOnWay, Way}
use Rattle.install_world.specs.Removals.{OnlyRemoved, WritesNone}
use Rattle.std.specs.Prelude.{Err}
use Rattle.install_world.specs.Removals as removals
use Rattle.install_world.specs.PartFaults as parts
use Rattle.install_world.specs.declared.removal_fault.RemoveFault.{RemoveFault}
use Rattle.install_world.specs.declared.removal_fault.RemoveFault.TheVariants as removal_faults
use Rattle.install_world.specs.Targets.{AreTargetsApart, IsTargetPath}
use Rattle.install_world.specs.declared.journal.Journal.{Journal}
use Rattle.install_world.specs.declared.moving.PartPlaces.{PartPlaces}
use Rattle.install_world.specs.declared.target.Target.{Target}
use Rattle.install_world.proofs.FlightLaws.{IsMovingBy, few, on_way, part_target}
use Rattle.install_world.proofs.PartDone.{told_still}
use Rattle.install_world.proofs.PartPaths.{kept_is_work, kept_not_staged, staged_apart, staged_is_work, target_is_part, target_not_work, targets_apart, two_parts_apart, work_not_part}

-- ---- on the way

-- the tree as it reads is one that a crash may leave
pub way_reads : (way : Way) (a : Meaning) (t : FileTree) → IsOnDisk a.disks.now t → EachImage a (IsOnWay way) → IsOnWay way t
way_reads way a t on each = subst (IsOnWay way) (sym on.reads) (each (reading a.disks.now) (reading_is_image a.disks.now))

module _ (way : Way) (t : FileTree) (on : IsOnWay way t) where
  moved_by : IsMovingBy way.project way.old way.new way.journal t
  moved_by = on_way way.project way.surroundings way.old way.new t way.journal on.stands (on.small on.stands.text on.stands.there) on.flight

  pub way_target : (number : ℕ) (target : Target) → IsPart way.journal.targets number target → IsTargetPath target.path
  way_target number target part = part_target way.project t way.journal on.stands number target part

  pub way_number : (number : ℕ) (target : Target) → IsPart way.journal.targets number target → number < 2 ^ 64
  way_number number target part =
      let inside = slice_get_within way.journal.targets number target part in
      let all = few way.project t way.journal on.stands (on.small on.stands.text on.stands.there) in
      omega arith

  pub way_parents : (number : ℕ) (target : Target) → IsPart way.journal.targets number target → has_folder t (without_last (target_path way.project target)) ≡ true
  way_parents number target part = moved_by.moving.parents number target (subst (λ (j : Journal). IsPart j.targets number target) (sym moved_by.by) part)

  pub way_old_folder : is_folder (entry_at t (old_path way.project)) ≡ true
  way_old_folder = moved_by.moving.old_folder

  pub way_apart : (i j : ℕ) (first second : Target) → i ≢ j → IsPart way.journal.targets i first → IsPart way.journal.targets j second → AreTargetsApart first second
  way_apart i j first second other one two = two_parts_apart way.journal.targets i j first second on.stands.says.is_journal.job.apart one two other

-- the folders that moves need are there on the way
pub way_folders : (way : Way) (project : List (List ℕ)) (t : FileTree) → way.project ≡ project → IsOnWay way t → (number : ℕ) (target : Target) → IsPart way.journal.targets number target
    → HasFolders project number target t
way_folders way project t same on number target part = subst (λ p. HasFolders p number target t) same (record {
  old_folder = λ kept. way_old_folder way t on;
  parent = λ goes there. way_parents way t on number target part;
})

-- no moment more
pub still_through : (way : Way) (a b : Meaning) → b.disks ≡ a.disks → a.faults ≤ b.faults → EachImage a (IsOnWay way) → Through a b (IsOnWay way)
still_through way a b same faults each = same_moment (IsOnWay way) a b faults same each

-- ---- parts that are done stay so

none_stays : (at path : List (List ℕ)) (t left : FileTree) → OnlyRemoved at t left → map.get t path ≡ None → map.get left path ≡ None
none_stays at path t left removed none = elim (removed.each path) [ inl same ↦ same ∙ none | inr gone ↦ gone.1 ]

pub done_then_removed : (project at : List (List ℕ)) (gone : Bool) (j : ℕ) (other : Target) (t left : FileTree) → OnlyRemoved at t left
    → IsPartDone gone project j other t → IsPartDone gone project j other left
done_then_removed project at true j other t left removed done = none_stays at (target_path project other) t left removed done
done_then_removed project at false j other t left removed done = none_stays at (staged_path project j) t left removed done

module _ (project : List (List ℕ)) (number j : ℕ) (target other : Target) (places : PartPlaces) (are : ArePlaces project number target places) (is_other : IsTargetPath other.path)
    (small : number < 2 ^ 64) (also : j < 2 ^ 64) (differs : number ≢ j) (apart : AreTargetsApart target other) (t now : FileTree) (moves : ChangesPlaces places t now) where
  other_target : map.get now (target_path project other) ≡ map.get t (target_path project other)
  other_target = moves.others (target_path project other)
      (ap (λ at. behind at (target_path project other)) are.target_is ∙ ap (behind (target_path project target)) (sym (append-nil (target_path project other)))
      ∙ targets_apart project [] target other apart)
      (ap (λ at. behind at (target_path project other)) are.staged_is ∙ outside_part (staged_path project number) (staged_is_work project number))
      (ap (λ at. behind at (target_path project other)) are.kept_is ∙ outside_part (kept_path project number) (kept_is_work project number))
    where
      outside_part : (at : List (List ℕ)) → is_within (work_path project) at ≡ true → behind at (target_path project other) ≡ None
      outside_part at work = ap (behind at) (sym (append-nil (target_path project other)))
          ∙ work_not_part project at (target_path project other ++ []) work (target_is_part project [] other is_other)

  other_staged : map.get now (staged_path project j) ≡ map.get t (staged_path project j)
  other_staged = moves.others (staged_path project j)
      (ap (λ at. behind at (staged_path project j)) are.target_is ∙ target_not_work project (staged_path project j) target are.is_target (staged_is_work project j))
      (ap (λ at. behind at (staged_path project j)) are.staged_is ∙ ap (behind (staged_path project number)) (sym (append-nil (staged_path project j)))
      ∙ staged_apart project number j [] small also differs)
      (ap (λ at. behind at (staged_path project j)) are.kept_is ∙ ap (behind (kept_path project number)) (sym (append-nil (staged_path project j)))
      ∙ kept_not_staged project number j [])

  pub done_then_moved : (gone : Bool) → IsPartDone gone project j other t → IsPartDone gone project j other now
  done_then_moved true done = other_target ∙ done
  done_then_moved false done = other_staged ∙ done

-- ---- the places of a part

pub work_child : (project work inner at : List (List ℕ)) (a b d : List ℕ) → work ≡ project ++ a ∷ [] → inner ≡ work ++ b ∷ [] → at ≡ inner ++ d ∷ []
    → at ≡ project ++ (a ∷ b ∷ d ∷ [])
work_child project work inner at a b d is_work is_inner is =
    is ∙ ap (λ p. p ++ d ∷ []) (is_inner ∙ ap (λ p. p ++ b ∷ []) is_work ∙ append_assoc project (a ∷ []) (b ∷ []))
    ∙ append_assoc project (a ∷ b ∷ []) (d ∷ [])

-- ---- the steps of a part

-- no moment more, and then calls through which each image passes
pub parents_then : (way : Way) (a b e : Meaning) (t : FileTree) → a.told ≡ Some t → is_some b.told ≡ is_some a.told → a.faults ≤ b.faults → b.disks ≡ a.disks
    → ((u : FileTree) → b.told ≡ Some u → EachImage b (IsOnWay way) → Through b e (IsOnWay way)) → EachImage a (IsOnWay way) → Through a e (IsOnWay way)
parents_then way a b e t told tells faults same more each =
    let now : (u : FileTree) × (b.told ≡ Some u) = told_still a b t tells told in
    through_then_through (IsOnWay way) a b e (more now.0 now.1) (still_through way a b same faults each)

-- calls through which each image passes, and more of them
pub steps_then : (way : Way) (a b e : Meaning) (t : FileTree) → a.told ≡ Some t → is_some b.told ≡ is_some a.told → Through a b (IsOnWay way)
    → ((u : FileTree) → b.told ≡ Some u → EachImage b (IsOnWay way) → Through b e (IsOnWay way)) → Through a e (IsOnWay way)
steps_then way a b e t told tells first more =
    let now : (u : FileTree) × (b.told ≡ Some u) = told_still a b t tells told in
    through_then_through (IsOnWay way) a b e (more now.0 now.1) first

pub same_reads : (a b : Meaning) (t : FileTree) → IsOnDisk a.disks.now t → b.disks ≡ a.disks → reading b.disks.now ≡ t
same_reads a b t on same = ap (λ (disks : Disks). reading disks.now) same ∙ sym on.reads

pub parents_are : (way : Way) (project : List (List ℕ)) (number : ℕ) (target : Target) (t : FileTree) → way.project ≡ project → IsOnWay way t
    → IsPart way.journal.targets number target → has_folder t (without_last (project ++ target.path)) ≡ true
parents_are way project number target t same on part =
    subst (λ p. has_folder t (without_last (p ++ target.path)) ≡ true) same (way_parents way t on number target part)

-- ---- all parts

pub last_done : (targets : List Target) (number j : ℕ) (last other : Target) (project : List (List ℕ)) (t : FileTree) → number ≡ j → IsPart targets number last → IsPart targets j other
    → IsPartDone last.gone project number last t → IsPartDone other.gone project j other t
last_done targets number j last other project t e part there done =
    let again : slice_get targets number ≡ Some other = ap (slice_get targets) e ∙ there in
    let same : last ≡ other = cc in
    subst (λ n. IsPartDone other.gone project n other t) e (subst (λ (x : Target). IsPartDone x.gone project number x t) same done)

-- what a folder shows is Folder
pub shows_folder : (t : FileTree) (at : List (List ℕ)) (kind : Kind) → kind ≡ kind_at t at → is_folder (entry_at t at) ≡ true → kind ≡ kinds.Folder
unfolding kind_at
shows_folder t at kind is folder = by (entry_at t at) refl
  where
    by : (entry : Option Entry) → entry_at t at ≡ entry → kind ≡ kinds.Folder
    by None e = let none : is_folder (entry_at t at) ≡ false = ap is_folder e in absurd cc
    by (Some (entries.File bytes)) e = let file : is_folder (entry_at t at) ≡ false = ap is_folder e in absurd cc
    by (Some entries.Folder) e = is ∙ ap kind_of e
    by (Some entries.Other) e = let other : is_folder (entry_at t at) ≡ false = ap is_folder e in absurd cc

-- a failure of the device stays one
pub writes_none_removed : (X Y : Type 0) (a b : Meaning) (fault : RemoveFault) → WritesNone a b (removals.is_device_fault {X = X} (Err fault))
    → WritesNone a b (parts.is_device_fault {X = Y} (Err (parts.fault_of_removal fault)))
writes_none_removed X Y a b (removal_faults.Vanished at) is = is
writes_none_removed X Y a b removal_faults.DeviceFault is = is
writes_none_removed X Y a b removal_faults.OutOfMemory is = is
