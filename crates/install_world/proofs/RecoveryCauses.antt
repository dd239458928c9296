-- Why recovery refuses a tree, in flight or not.
use Rattle.std.proofs.Common.{◌≡◌, ℕ, Bool, true, false, cond, nat_lt, ltb-true, List, [], ◌∷◌, length, Some, None, refl, sym, ap, ◌∙◌, subst, inl, inr}
use Rattle.std.specs.Prelude.{◌⊎◌, Option}
use Rattle.std.specs.FinMap as map
use Rattle.tree_dev.specs.Trees.{FileTree, entry_at, read_at, read_of}
use Rattle.tree_dev.specs.Changes.{is_leaf, is_root}
use Rattle.tree_dev.specs.Projects.{journal_path, work_path}
use Rattle.tree_dev.specs.declared.entry.Entry.{Entry}
use Rattle.tree_dev.specs.declared.entry.Entry.TheVariants as entries
use Rattle.tree_dev.specs.declared.entry.ReadAnswer.{ReadAnswer}
use Rattle.tree_dev.specs.declared.entry.ReadAnswer.TheVariants as answers
use Rattle.tree_dev.specs.declared.limits.LimitKind.{LimitKind}
use Rattle.tree_dev.specs.declared.limits.TheConstants.{FILE_BYTES}
use Rattle.tree_dev.specs.declared.fault.TreeFault.{TreeFault}
use Rattle.tree_dev.specs.declared.fault.TreeFault.TheVariants as tree_faults
use Rattle.install_world.specs.Recovery.{CanBeFinished, IsLong, IsOtherEntry, IsReadable, fault_of_journal, fault_of_part, fault_of_removal, fault_of_tree}
use Rattle.install_world.specs.declared.fault.JournalFault.{JournalFault}
use Rattle.install_world.specs.declared.fault.JournalFault.TheVariants as journal_faults
use Rattle.install_world.specs.JournalText.{Says}
use Rattle.install_world.specs.declared.journal.Journal.{Journal}
use Rattle.install_world.specs.declared.part_fault.PartFault.{PartFault}
use Rattle.install_world.specs.declared.part_fault.PartFault.TheVariants as part_faults
use Rattle.install_world.specs.declared.recovery_fault.RecoverFault.TheVariants as faults
use Rattle.install_world.specs.declared.removal_fault.RemoveFault.{RemoveFault}
use Rattle.install_world.specs.declared.removal_fault.RemoveFault.TheVariants as removal_faults

-- ---- which fault another one is

pub no_other_tree : (fault : TreeFault) (path : List (List ℕ)) → fault_of_tree fault ≡ faults.OtherEntry path → ⊥
no_other_tree tree_faults.Failed path e = absurd cc
no_other_tree tree_faults.OutOfMemory path e = absurd cc

pub no_limit_tree : (fault : TreeFault) (limit : LimitKind) → fault_of_tree fault ≡ faults.Limit limit → ⊥
no_limit_tree tree_faults.Failed limit e = absurd cc
no_limit_tree tree_faults.OutOfMemory limit e = absurd cc

pub no_other_removal : (fault : RemoveFault) (path : List (List ℕ)) → fault_of_removal fault ≡ faults.OtherEntry path → ⊥
no_other_removal (removal_faults.Vanished at) path e = absurd cc
no_other_removal removal_faults.DeviceFault path e = absurd cc
no_other_removal removal_faults.OutOfMemory path e = absurd cc

pub no_limit_removal : (fault : RemoveFault) (limit : LimitKind) → fault_of_removal fault ≡ faults.Limit limit → ⊥
no_limit_removal (removal_faults.Vanished at) limit e = absurd cc
no_limit_removal removal_faults.DeviceFault limit e = absurd cc
no_limit_removal removal_faults.OutOfMemory limit e = absurd cc

pub no_other_journal : (fault : JournalFault) (path : List (List ℕ)) → fault_of_journal fault ≡ faults.OtherEntry path → ⊥
no_other_journal (journal_faults.BadJournal at) path e = absurd cc
no_other_journal journal_faults.OutOfMemory path e = absurd cc

pub no_limit_journal : (fault : JournalFault) (limit : LimitKind) → fault_of_journal fault ≡ faults.Limit limit → ⊥
no_limit_journal (journal_faults.BadJournal at) limit e = absurd cc
no_limit_journal journal_faults.OutOfMemory limit e = absurd cc

pub other_part : (fault : PartFault) (path : List (List ℕ)) → fault_of_part fault ≡ faults.OtherEntry path → fault ≡ part_faults.OtherEntry path
other_part (part_faults.OtherEntry at) path e = cc
other_part (part_faults.Vanished at) path e = absurd cc
other_part part_faults.DeviceFault path e = absurd cc
other_part part_faults.OutOfMemory path e = absurd cc

pub no_limit_part : (fault : PartFault) (limit : LimitKind) → fault_of_part fault ≡ faults.Limit limit → ⊥
no_limit_part (part_faults.OtherEntry at) limit e = absurd cc
no_limit_part (part_faults.Vanished at) limit e = absurd cc
no_limit_part part_faults.DeviceFault limit e = absurd cc
no_limit_part part_faults.OutOfMemory limit e = absurd cc

-- ---- what a reading shows that is no text

module _ (t : FileTree) (answer : ReadAnswer) where
  not_long : (bytes : List ℕ) (long : Bool) → cond long answers.TooLong (answers.Bytes bytes) ≡ answers.NotFile → ⊥
  not_long bytes true e = absurd cc
  not_long bytes false e = absurd cc

  pub no_file_read : (at : List (List ℕ)) → is_root at ≡ false → answer ≡ read_at t at FILE_BYTES → answer ≡ answers.NotFile
      → (is_leaf (entry_at t at) ≡ true) ⊎ (map.get t at ≡ Some entries.Folder)
  unfolding read_at
  no_file_read [] under is no_file = absurd cc
  no_file_read (x ∷ xs) under is no_file = by (map.get t (x ∷ xs)) refl (sym is ∙ no_file)
    where
      by : (entry : Option Entry) → map.get t (x ∷ xs) ≡ entry → read_of FILE_BYTES (map.get t (x ∷ xs)) ≡ answers.NotFile
          → (is_leaf (map.get t (x ∷ xs)) ≡ true) ⊎ (map.get t (x ∷ xs) ≡ Some entries.Folder)
      by None e shown = let absent : read_of FILE_BYTES (map.get t (x ∷ xs)) ≡ answers.Absent = ap (read_of FILE_BYTES) e in absurd cc
      by (Some (entries.File bytes)) e shown = absurd (not_long bytes (nat_lt FILE_BYTES (length bytes)) (sym (ap (read_of FILE_BYTES) e) ∙ shown))
      by (Some entries.Folder) e shown = inr e
      by (Some entries.Other) e shown = inl (ap is_leaf e)

  long_if : (bytes : List ℕ) (long : Bool) → nat_lt FILE_BYTES (length bytes) ≡ long → cond long answers.TooLong (answers.Bytes bytes) ≡ answers.TooLong → nat_lt FILE_BYTES (length bytes) ≡ true
  long_if bytes true e shown = e
  long_if bytes false e shown = absurd cc

  pub long_read : (at : List (List ℕ)) → is_root at ≡ false → answer ≡ read_at t at FILE_BYTES → answer ≡ answers.TooLong → IsLong at t
  unfolding read_at
  long_read [] under is long = absurd cc
  long_read (x ∷ xs) under is long = by (map.get t (x ∷ xs)) refl (sym is ∙ long)
    where
      by : (entry : Option Entry) → map.get t (x ∷ xs) ≡ entry → read_of FILE_BYTES (map.get t (x ∷ xs)) ≡ answers.TooLong → IsLong (x ∷ xs) t
      by None e shown = let absent : read_of FILE_BYTES (map.get t (x ∷ xs)) ≡ answers.Absent = ap (read_of FILE_BYTES) e in absurd cc
      by (Some (entries.File bytes)) e shown = record {
        text = bytes;
        there = e;
        long = ltb-true FILE_BYTES (length bytes) (long_if bytes (nat_lt FILE_BYTES (length bytes)) refl (sym (ap (read_of FILE_BYTES) e) ∙ shown));
      }
      by (Some entries.Folder) e shown = let folder : read_of FILE_BYTES (map.get t (x ∷ xs)) ≡ answers.NotFile = ap (read_of FILE_BYTES) e in absurd cc
      by (Some entries.Other) e shown = let other : read_of FILE_BYTES (map.get t (x ∷ xs)) ≡ answers.NotFile = ap (read_of FILE_BYTES) e in absurd cc

pub other_entry : (project path : List (List ℕ)) (t : FileTree) → path ≡ journal_path project → (is_leaf (entry_at t path) ≡ true) ⊎ (map.get t path ≡ Some entries.Folder)
    → IsOtherEntry project path t
other_entry project path t is (inl leaf) = record { kind = inl leaf }
other_entry project path t is (inr folder) = record { kind = inr (is, folder) }

-- ---- what recovery goes on with

module _ (project : List (List ℕ)) (t : FileTree) where
  no_text : (text : List ℕ) → map.get t (journal_path project) ≡ None → map.get t (journal_path project) ≡ Some (entries.File text) → ⊥
  no_text text none there = cc

  pub without_work : map.get t (work_path project) ≡ None → map.get t (journal_path project) ≡ None → CanBeFinished project t
  without_work no_work none = record { work = inl no_work; readable = record { either = inl none }; says = λ text there. absurd (no_text text none there) }

  pub without_text : map.get t (work_path project) ≡ Some entries.Folder → map.get t (journal_path project) ≡ None → CanBeFinished project t
  without_text folder none = record { work = inr folder; readable = record { either = inl none }; says = λ text there. absurd (no_text text none there) }

  pub with_text : (text : List ℕ) → map.get t (work_path project) ≡ Some entries.Folder → map.get t (journal_path project) ≡ Some (entries.File text) → IsReadable (journal_path project) t
      → (journal : Journal) → Says text journal → CanBeFinished project t
  with_text text folder there readable journal says = record {
    work = inr folder;
    readable = readable;
    says = λ other also.
        let same : text ≡ other = cc in
        (journal, subst (λ bytes. Says bytes journal) same says);
  }
