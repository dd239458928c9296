-- What recovery begins with.
use Rattle.std.proofs.Common.{◌≡◌, ℕ, ◌<◌, ◌≤◌, ◌^◌, arith, cond, Bool, List, [], ◌∷◌, ◌++◌, length, codes, append_assoc, true, false, Option, Some, None, refl, sym, ap, ◌∙◌, subst}
use Rattle.std.specs.Prelude.{Err, nat_lt}
use Rattle.std.proofs.lemmas.Bool.Decides.{nat_tests}
use Rattle.std.specs.FinMap as map
use Rattle.tree_dev.specs.Trees.{FileTree, IsTree, is_folder, kind_at, kind_of, read_at, read_of}
use Rattle.tree_dev.specs.Changes.{is_root}
use Rattle.tree_dev.specs.declared.entry.Kind.{Kind}
use Rattle.tree_dev.specs.declared.entry.Kind.TheVariants as kinds
use Rattle.tree_dev.specs.declared.entry.Entry.{Entry}
use Rattle.tree_dev.proofs.Carried.{nothing_below}
use Rattle.tree_dev.specs.Disk.{Disks, IsImage, IsOnDisk, reading}
use Rattle.tree_dev.specs.Device.{Meaning, OnlyRead, Settles, is_failed}
use Rattle.tree_dev.specs.declared.entry.ReadAnswer.TheVariants as answers
use Rattle.tree_dev.specs.declared.fault.TreeFault.{TreeFault}
use Rattle.tree_dev.specs.declared.fault.TreeFault.TheVariants as tree_faults
use Rattle.tree_dev.specs.Projects.{journal_path, work_path}
use Rattle.tree_dev.specs.Steady.{EachImage}
use Rattle.tree_dev.specs.declared.entry.Entry.TheVariants as entries
use Rattle.tree_dev.proofs.Images.{one_image_settled, reading_is_image}
use Rattle.install_world.specs.InFlight.{Files, HasFiles, IsFinishedProject, IsInFlight, NoJournal}
use Rattle.install_world.specs.JournalText.{Says}
use Rattle.install_world.specs.Moving.{IsOnWay, Way}
use Rattle.install_world.specs.Removals as removals
use Rattle.install_world.specs.Recovery.{ended_by, fault_of_journal, fault_of_part, fault_of_removal, fault_of_tree, is_device_fault, recovered_by, recovered_in}
use Rattle.install_world.specs.declared.recovery_fault.Recovered.{Recovered}
use Rattle.install_world.specs.declared.recovery_fault.Recovered.TheVariants as did
use Rattle.install_world.specs.PartFaults as parts
use Rattle.install_world.proofs.FlightLaws.{finished_is_new}
use Rattle.install_world.specs.declared.journal.Journal.{Journal}
use Rattle.install_world.specs.declared.fault.JournalFault.{JournalFault}
use Rattle.install_world.specs.declared.fault.JournalFault.TheVariants as journal_faults
use Rattle.install_world.specs.declared.recovery_fault.RecoverFault.TheVariants as faults
use Rattle.install_world.specs.declared.part_fault.PartFault.{PartFault}
use Rattle.install_world.specs.declared.part_fault.PartFault.TheVariants as part_faults
use Rattle.install_world.specs.declared.removal_fault.RemoveFault.{RemoveFault}
use Rattle.install_world.specs.declared.removal_fault.RemoveFault.TheVariants as removal_faults

-- the tree as it reads is one that a crash may leave
pub image_reads : (P : FileTree → Type 0) (a : Meaning) (t : FileTree) → IsOnDisk a.disks.now t → EachImage a P → P t
image_reads P a t on each = subst P (sym on.reads) (each (reading a.disks.now) (reading_is_image a.disks.now))

-- after a barrier it is the only one
pub settled_images : (P : FileTree → Type 0) (a b : Meaning) (t : FileTree) → IsOnDisk a.disks.now t → Settles a b → P t → EachImage b P
settled_images P a b t on settles has = λ left image.
    subst P (sym (one_image_settled a.disks left (subst (λ (disks : Disks). IsImage disks.now left) settles.disks image) ∙ sym on.reads)) has

-- calls that read leave the same images
pub images_read : (P : FileTree → Type 0) (a b : Meaning) (failed : Bool) → OnlyRead a b failed → EachImage a P → EachImage b P
images_read P a b failed read each = λ left image. each left (subst (λ (disks : Disks). IsImage disks.now left) read.disks image)

-- the way of a journal that was read
abbrev pub way_of : List (List ℕ) → FileTree → Files → Files → Journal → Way
way_of project surroundings old new journal = record { project = project; surroundings = surroundings; old = old; new = new; journal = journal }

pub way_begins : (project : List (List ℕ)) (surroundings : FileTree) (old new : Files) (journal : Journal) (text : List ℕ) (t : FileTree)
    → IsInFlight project surroundings old new t → map.get t (journal_path project) ≡ Some (entries.File text) → length text < 2 ^ 64 → Says text journal
    → IsOnWay (way_of project surroundings old new journal) t
way_begins project surroundings old new journal text t flight there small says = record {
  flight = flight;
  stands = record { text = text; there = there; says = says };
  small = λ other also. let same : text ≡ other = cc in subst (λ bytes. length bytes < 2 ^ 64) same small;
}

-- failures of the device stay so
pub writes_none_removing : (X Y : Type 0) (a b : Meaning) (fault : RemoveFault) → removals.WritesNone a b (removals.is_device_fault {X = X} (Err fault))
    → removals.WritesNone a b (is_device_fault {X = Y} (Err (fault_of_removal fault)))
writes_none_removing X Y a b (removal_faults.Vanished at) is = is
writes_none_removing X Y a b removal_faults.DeviceFault is = is
writes_none_removing X Y a b removal_faults.OutOfMemory is = is

pub writes_none_parting : (X Y : Type 0) (a b : Meaning) (fault : PartFault) → removals.WritesNone a b (parts.is_device_fault {X = X} (Err fault))
    → removals.WritesNone a b (is_device_fault {X = Y} (Err (fault_of_part fault)))
writes_none_parting X Y a b (part_faults.OtherEntry at) is = is
writes_none_parting X Y a b (part_faults.Vanished at) is = is
writes_none_parting X Y a b part_faults.DeviceFault is = is
writes_none_parting X Y a b part_faults.OutOfMemory is = is

pub bad_journal_of : (fault : JournalFault) (place : ℕ) → fault_of_journal fault ≡ faults.BadJournal place → fault ≡ journal_faults.BadJournal place
bad_journal_of (journal_faults.BadJournal at) place e = cc
bad_journal_of journal_faults.OutOfMemory place e = absurd cc

pub no_bad_part : (fault : PartFault) (place : ℕ) → fault_of_part fault ≡ faults.BadJournal place → ⊥
no_bad_part (part_faults.OtherEntry at) place e = absurd cc
no_bad_part (part_faults.Vanished at) place e = absurd cc
no_bad_part part_faults.DeviceFault place e = absurd cc
no_bad_part part_faults.OutOfMemory place e = absurd cc

pub no_bad_removal : (fault : RemoveFault) (place : ℕ) → fault_of_removal fault ≡ faults.BadJournal place → ⊥
no_bad_removal (removal_faults.Vanished at) place e = absurd cc
no_bad_removal removal_faults.DeviceFault place e = absurd cc
no_bad_removal removal_faults.OutOfMemory place e = absurd cc

pub at_is : (project work at : List (List ℕ)) → work ≡ work_path project → at ≡ work ++ codes "journal" ∷ [] → at ≡ journal_path project
at_is project work at is_work is = is ∙ ap (λ p. p ++ codes "journal" ∷ []) is_work ∙ append_assoc project (codes ".install" ∷ []) (codes "journal" ∷ [])

-- without a journal the finished project is the tree's own
pub own_files : (project : List (List ℕ)) (t : FileTree) (files : Files) → NoJournal project t → IsFinishedProject project t files → HasFiles project t files
own_files project t files none finished = record { each = λ path part. sym (finished.kept none path part) }

-- the finished project is the new one where a journal stands
pub new_files : (project : List (List ℕ)) (surroundings : FileTree) (old new files : Files) (journal : Journal) (text : List ℕ) (t u : FileTree)
    → IsInFlight project surroundings old new t → map.get t (journal_path project) ≡ Some (entries.File text) → length text < 2 ^ 64 → Says text journal
    → IsFinishedProject project t files → HasFiles project u new → HasFiles project u files
new_files project surroundings old new files journal text t u flight there small says finished has = record {
  each = λ path part. has.each path part
      ∙ sym (finished_is_new project surroundings old new files t journal (record { text = text; there = there; says = says }) small flight finished path part);
}

-- a folder that is shown is there
pub folder_is_some : (t : FileTree) (at : List (List ℕ)) (kind : Kind) → kind ≡ kind_at t at → kind ≡ kinds.Folder → is_root at ≡ false → map.get t at ≡ Some entries.Folder
unfolding kind_at
folder_is_some t [] kind is folder under = absurd cc
folder_is_some t (x ∷ xs) kind is folder under = by (map.get t (x ∷ xs)) refl (sym is ∙ folder)
  where
    by : (entry : Option Entry) → map.get t (x ∷ xs) ≡ entry → kind_of (map.get t (x ∷ xs)) ≡ kinds.Folder → map.get t (x ∷ xs) ≡ Some entries.Folder
    by None e k = let none : kind_of (map.get t (x ∷ xs)) ≡ kinds.Absent = ap kind_of e in absurd cc
    by (Some (entries.File bytes)) e k = let file : kind_of (map.get t (x ∷ xs)) ≡ kinds.File = ap kind_of e in absurd cc
    by (Some entries.Folder) e k = e
    by (Some entries.Other) e k = let other : kind_of (map.get t (x ∷ xs)) ≡ kinds.Other = ap kind_of e in absurd cc

pub work_under : (project : List (List ℕ)) → is_root (work_path project) ≡ false
work_under [] = refl
work_under (x ∷ xs) = refl

-- without `.install` there is no journal
pub no_work_no_journal : (project : List (List ℕ)) (t : FileTree) → IsTree t → map.get t (work_path project) ≡ None → NoJournal project t
no_work_no_journal project t tree none = record {
  absent = ap (map.get t) (sym (append_assoc project (codes ".install" ∷ []) (codes "journal" ∷ [])))
      ∙ nothing_below t tree (work_path project) (work_under project) (ap is_folder none) (codes "journal" ∷ []) refl;
}

pub nothing_to_do : (project : List (List ℕ)) (t : FileTree) → map.get t (work_path project) ≡ None → did.NothingToDo ≡ recovered_in project t
unfolding recovered_in
nothing_to_do project t none = sym (ap (λ work. recovered_by work (map.get t (journal_path project))) none)

pub ended_in : (project : List (List ℕ)) (t : FileTree) (found : Recovered) → map.get t (work_path project) ≡ Some entries.Folder → found ≡ ended_by (map.get t (journal_path project))
    → found ≡ recovered_in project t
unfolding recovered_in
ended_in project t found some is = is ∙ sym (ap (λ work. recovered_by work (map.get t (journal_path project))) some)

pub read_failing : (X Y : Type 0) (a b : Meaning) (fault : TreeFault) → OnlyRead a b (is_failed {X = X} (Err fault)) → OnlyRead a b (is_device_fault {X = Y} (Err (fault_of_tree fault)))
read_failing X Y a b tree_faults.Failed is = is
read_failing X Y a b tree_faults.OutOfMemory is = is

pub writes_none_text : (Y : Type 0) (a b : Meaning) (fault : JournalFault) → removals.WritesNone a b false → removals.WritesNone a b (is_device_fault {X = Y} (Err (fault_of_journal fault)))
writes_none_text Y a b (journal_faults.BadJournal at) is = is
writes_none_text Y a b journal_faults.OutOfMemory is = is

-- ---- what reading a file says of it

pub bytes_read : (t : FileTree) (at : List (List ℕ)) (most : ℕ) (text : List ℕ) → answers.Bytes text ≡ read_at t at most
    → (map.get t at ≡ Some (entries.File text)) × (length text ≤ most)
unfolding read_at
bytes_read t [] most text is = absurd cc
bytes_read t (x ∷ xs) most text is = by (map.get t (x ∷ xs)) refl is
  where
    within : (bytes : List ℕ) (long : Bool) → nat_lt most (length bytes) ≡ long → answers.Bytes text ≡ cond long answers.TooLong (answers.Bytes bytes)
        → (bytes ≡ text) × (length text ≤ most)
    within bytes true e same = absurd cc
    within bytes false e same =
        let one : bytes ≡ text = cc in
        (one, subst (λ (b : List ℕ). length b ≤ most) one (grind (arith, nat_tests)))

    by : (entry : Option Entry) → map.get t (x ∷ xs) ≡ entry → answers.Bytes text ≡ read_of most (map.get t (x ∷ xs))
        → (map.get t (x ∷ xs) ≡ Some (entries.File text)) × (length text ≤ most)
    by None e same = let none : read_of most (map.get t (x ∷ xs)) ≡ answers.Absent = ap (read_of most) e in absurd cc
    by (Some (entries.File bytes)) e same =
        let found = within bytes (nat_lt most (length bytes)) refl (same ∙ ap (read_of most) e) in
        (e ∙ ap (λ (b : List ℕ). Some (entries.File b)) found.0, found.1)
    by (Some entries.Folder) e same = let folder : read_of most (map.get t (x ∷ xs)) ≡ answers.NotFile = ap (read_of most) e in absurd cc
    by (Some entries.Other) e same = let other : read_of most (map.get t (x ∷ xs)) ≡ answers.NotFile = ap (read_of most) e in absurd cc

pub absent_read : (t : FileTree) (at : List (List ℕ)) (most : ℕ) → answers.Absent ≡ read_at t at most → map.get t at ≡ None
unfolding read_at
absent_read t [] most is = absurd cc
absent_read t (x ∷ xs) most is = by (map.get t (x ∷ xs)) refl is
  where
    not_long : (bytes : List ℕ) (long : Bool) → answers.Absent ≡ cond long answers.TooLong (answers.Bytes bytes) → ⊥
    not_long bytes true same = absurd cc
    not_long bytes false same = absurd cc

    by : (entry : Option Entry) → map.get t (x ∷ xs) ≡ entry → answers.Absent ≡ read_of most (map.get t (x ∷ xs)) → map.get t (x ∷ xs) ≡ None
    by None e same = e
    by (Some (entries.File bytes)) e same = absurd (not_long bytes (nat_lt most (length bytes)) (same ∙ ap (read_of most) e))
    by (Some entries.Folder) e same = let folder : read_of most (map.get t (x ∷ xs)) ≡ answers.NotFile = ap (read_of most) e in absurd cc
    by (Some entries.Other) e same = let other : read_of most (map.get t (x ∷ xs)) ≡ answers.NotFile = ap (read_of most) e in absurd cc
