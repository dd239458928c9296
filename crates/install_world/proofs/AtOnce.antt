-- With what recovery is refused before it does anything.
use Rattle.std.proofs.Common.{◌≡◌, ℕ, ◌<◌, arith, true, false, Bool, cond, nat_lt, length, List, [], ◌∷◌, codes, Option, Some, None, is_some, refl, sym, ap, ◌∙◌, subst, inl, inr, append_assoc}
use Rattle.std.specs.Prelude.{◌⊎◌, Result, Err}
use Rattle.std.specs.FinMap as map
use Rattle.std.proofs.lemmas.Bool.{false≢true}
use Rattle.tree_dev.specs.Trees.{FileTree, IsTree, is_folder, read_at, read_of}
use Rattle.tree_dev.specs.Changes.{is_file, is_leaf, is_root}
use Rattle.tree_dev.specs.Device.{Meaning, OnlyRead, only_read_on}
use Rattle.tree_dev.specs.Projects.{journal_path, work_path}
use Rattle.tree_dev.specs.declared.entry.Entry.{Entry}
use Rattle.tree_dev.specs.declared.entry.Entry.TheVariants as entries
use Rattle.tree_dev.specs.declared.entry.ReadAnswer.{ReadAnswer}
use Rattle.tree_dev.specs.declared.entry.ReadAnswer.TheVariants as answers
use Rattle.tree_dev.specs.declared.limits.LimitKind.TheVariants.{FileBytes}
use Rattle.tree_dev.specs.declared.limits.TheConstants.{FILE_BYTES}
use Rattle.tree_dev.specs.declared.fault.TreeFault.{TreeFault}
use Rattle.tree_dev.specs.declared.fault.TreeFault.TheVariants as tree_faults
use Rattle.tree_dev.proofs.Carried.{nothing_below}
use Rattle.install_world.specs.AtOnce.{IsDueAtOnce, IsNoFile, IsRefusedBy, IsStopped, IsUnreadable, RefusesAtOnce}
use Rattle.install_world.specs.JournalText.{IsBadJournal}
use Rattle.install_world.specs.Recovery.{HasBadJournal, IsReadable, fault_of_journal, fault_of_tree, is_device_fault, is_refused}
use Rattle.install_world.specs.declared.fault.JournalFault.{JournalFault}
use Rattle.install_world.specs.declared.fault.JournalFault.TheVariants as journal_faults
use Rattle.install_world.specs.declared.recovery_fault.RecoverFault.{RecoverFault}
use Rattle.install_world.specs.declared.recovery_fault.RecoverFault.TheVariants as faults
use Rattle.install_world.proofs.RecoveryCauses.{long_read}
use Rattle.install_world.proofs.RecoveryRules.{no_work_no_journal, work_under}
use Rattle.install_world.proofs.WayMoves.{entry_is}

-- ---- answers

pub free_tree : (Y : Type 0) (due : RecoverFault) (fault : TreeFault) → IsRefusedBy {X = Y} due (Err (fault_of_tree fault))
free_tree Y due tree_faults.Failed = tt
free_tree Y due tree_faults.OutOfMemory = tt

pub refused_text : (Y : Type 0) (place : ℕ) (fault : JournalFault) → ((at : ℕ) → fault ≡ journal_faults.BadJournal at → at ≡ place)
    → IsRefusedBy {X = Y} (faults.BadJournal place) (Err (fault_of_journal fault))
refused_text Y place (journal_faults.BadJournal at) one = ap faults.BadJournal (one at refl)
refused_text Y place journal_faults.OutOfMemory one = tt

pub read_text_only : (Y : Type 0) (a b : Meaning) (fault : JournalFault) → OnlyRead a b false → OnlyRead a b (is_device_fault {X = Y} (Err (fault_of_journal fault)))
read_text_only Y a b (journal_faults.BadJournal at) read = read
read_text_only Y a b journal_faults.OutOfMemory read = read

-- a refusal that is passed on
pub refused_on : (X Y : Type 0) (due : RecoverFault) (a b : Meaning) (fault : RecoverFault) → RefusesAtOnce {X = X} due a b (Err fault) → RefusesAtOnce {X = Y} due a b (Err fault)
refused_on X Y due a b (faults.BadJournal at) is = record { answer = is.answer; only_read = is.only_read }
refused_on X Y due a b (faults.OtherEntry at) is = record { answer = is.answer; only_read = is.only_read }
refused_on X Y due a b (faults.Vanished at) is = record { answer = is.answer; only_read = is.only_read }
refused_on X Y due a b (faults.Limit kind) is = record { answer = is.answer; only_read = is.only_read }
refused_on X Y due a b faults.DeviceFault is = record { answer = is.answer; only_read = is.only_read }
refused_on X Y due a b faults.OutOfMemory is = record { answer = is.answer; only_read = is.only_read }

-- of what can be read nothing is refused
pub free_refused : (X Y : Type 0) (due : RecoverFault) (a b : Meaning) (fault : RecoverFault) → is_refused {X = X} (Err fault) ≡ false → OnlyRead a b (is_device_fault {X = X} (Err fault))
    → RefusesAtOnce {X = Y} due a b (Err fault)
free_refused X Y due a b (faults.BadJournal at) free read = absurd cc
free_refused X Y due a b (faults.OtherEntry at) free read = absurd cc
free_refused X Y due a b (faults.Vanished at) free read = absurd cc
free_refused X Y due a b (faults.Limit kind) free read = absurd cc
free_refused X Y due a b faults.DeviceFault free read = record { answer = tt; only_read = read }
free_refused X Y due a b faults.OutOfMemory free read = record { answer = tt; only_read = read }

-- a refusal that comes after reading
pub refused_after : {X : Type 0} (due other : RecoverFault) → due ≡ other → (a b d : Meaning) (result : Result X RecoverFault) → OnlyRead a b false → RefusesAtOnce other b d result
    → RefusesAtOnce due a d result
refused_after due other same a b d result read refuses = record {
  answer = subst (λ (fault : RecoverFault). IsRefusedBy fault result) (sym same) refuses.answer;
  only_read = only_read_on read refuses.only_read;
}

-- ---- a file

module _ (at : List (List ℕ)) (t : FileTree) (fault : RecoverFault) where
  pub readable_is_free : IsReadable at t → IsUnreadable at t fault → ⊥
  readable_is_free readable (inl other) = elim readable.either [
    | inl none ↦ false≢true (sym (ap is_some none) ∙ other.1.there)
    | inr file ↦ false≢true (sym other.1.kind ∙ ap is_file file.1)
  ]
  readable_is_free readable (inr long) = elim readable.either [
    | inl none ↦ (let there = long.1.there in cc)
    | inr file ↦ (
        let there = long.1.there in
        let one = file.1 in
        let same : long.1.text ≡ file.0 = cc in
        let few = file.2 in
        let many = subst (λ (bytes : List ℕ). FILE_BYTES < length bytes) same long.1.long in
        omega (arith, few, many))
  ]

  not_shown : (bytes : List ℕ) (long : Bool) → cond long answers.TooLong (answers.Bytes bytes) ≡ answers.NotFile → ⊥
  not_shown bytes true e = absurd cc
  not_shown bytes false e = absurd cc

  pub other_is_due : (answer : ReadAnswer) → is_root at ≡ false → answer ≡ read_at t at FILE_BYTES → answer ≡ answers.NotFile → IsUnreadable at t fault
      → faults.OtherEntry at ≡ fault
  unfolding read_at
  other_is_due answer under is no_file (inl other) = sym other.0
  other_is_due answer under is no_file (inr long) =
      absurd (not_shown long.1.text (nat_lt FILE_BYTES (length long.1.text)) (sym (is ∙ ap (read_of FILE_BYTES) (entry_is t at under ∙ long.1.there)) ∙ no_file))

  pub no_file_shown : (answer : ReadAnswer) → is_root at ≡ false → answer ≡ read_at t at FILE_BYTES → answer ≡ answers.NotFile → IsNoFile at t
  unfolding read_at
  no_file_shown answer under is no_file = by (map.get t at) refl (sym (is ∙ ap (read_of FILE_BYTES) (entry_is t at under)) ∙ no_file)
    where
      by : (entry : Option Entry) → map.get t at ≡ entry → read_of FILE_BYTES (map.get t at) ≡ answers.NotFile → IsNoFile at t
      by None e shown = let absent : read_of FILE_BYTES (map.get t at) ≡ answers.Absent = ap (read_of FILE_BYTES) e in absurd cc
      by (Some (entries.File bytes)) e shown = absurd (not_shown bytes (nat_lt FILE_BYTES (length bytes)) (sym (ap (read_of FILE_BYTES) e) ∙ shown))
      by (Some entries.Folder) e shown = record { there = ap is_some e; kind = ap is_file e }
      by (Some entries.Other) e shown = record { there = ap is_some e; kind = ap is_file e }

  pub long_is_due : (answer : ReadAnswer) → is_root at ≡ false → answer ≡ read_at t at FILE_BYTES → answer ≡ answers.TooLong → IsUnreadable at t fault
      → faults.Limit (FileBytes at) ≡ fault
  long_is_due answer under is too_long (inl other) =
      let long = long_read t answer at under is too_long in
      absurd (false≢true (sym other.1.kind ∙ ap is_file long.there))
  long_is_due answer under is too_long (inr long) = sym long.0

-- ---- `.install` and the journal in it

no_folder : (entry : Option Entry) → is_leaf entry ≡ true → is_folder entry ≡ false
no_folder None leaf = refl
no_folder (Some (entries.File bytes)) leaf = refl
no_folder (Some entries.Folder) leaf = absurd (false≢true leaf)
no_folder (Some entries.Other) leaf = refl

module _ (project : List (List ℕ)) (t : FileTree) (fault : RecoverFault) where
  abbrev IsBadAtOnce : Type 0
  IsBadAtOnce = (place : ℕ) × (fault ≡ faults.BadJournal place) × HasBadJournal project t place × IsReadable (journal_path project) t

  -- nothing is due of a journal that is absent
  no_journal_free : map.get t (journal_path project) ≡ None → IsUnreadable (journal_path project) t fault ⊎ IsBadAtOnce → ⊥
  no_journal_free none (inl unreadable) = readable_is_free (journal_path project) t fault (record { either = inl none }) unreadable
  no_journal_free none (inr bad) = let there = bad.2.there in cc

  pub nothing_is_due : IsTree t → map.get t (work_path project) ≡ None → IsDueAtOnce project t fault → ⊥
  nothing_is_due tree none (inl work) = false≢true (sym (ap is_leaf none) ∙ work.1)
  nothing_is_due tree none (inr journal) = no_journal_free (no_work_no_journal project t tree none).absent journal

  pub work_is_due : IsTree t → is_leaf (map.get t (work_path project)) ≡ true → IsDueAtOnce project t fault → faults.OtherEntry (work_path project) ≡ fault
  work_is_due tree leaf (inl work) = sym work.0
  work_is_due tree leaf (inr journal) = absurd (no_journal_free
      (ap (map.get t) (sym (append_assoc project (codes ".install" ∷ []) (codes "journal" ∷ [])))
      ∙ nothing_below t tree (work_path project) (work_under project) (no_folder (map.get t (work_path project)) leaf) (codes "journal" ∷ []) refl)
      journal)

  module _ (folder : map.get t (work_path project) ≡ Some entries.Folder) where
    pub journal_is_due : IsDueAtOnce project t fault → IsUnreadable (journal_path project) t fault ⊎ IsBadAtOnce
    journal_is_due (inl work) = absurd (false≢true (sym (ap is_leaf folder) ∙ work.1))
    journal_is_due (inr journal) = journal

    pub nothing_is_due_without : map.get t (journal_path project) ≡ None → IsDueAtOnce project t fault → ⊥
    nothing_is_due_without none due = no_journal_free none (journal_is_due due)

    pub text_is_bad : (text : List ℕ) → map.get t (journal_path project) ≡ Some (entries.File text) → IsReadable (journal_path project) t → IsDueAtOnce project t fault
        → (place : ℕ) × (fault ≡ faults.BadJournal place) × IsBadJournal text place
    text_is_bad text there readable due = elim (journal_is_due due) [
      | inl unreadable ↦ absurd (readable_is_free (journal_path project) t fault readable unreadable)
      | inr bad ↦ (
          let also = bad.2.there in
          let same : bad.2.text ≡ text = cc in
          (bad.0, bad.1, subst (λ (bytes : List ℕ). IsBadJournal bytes bad.0) same bad.2.bad))
    ]

-- another entry where the journal goes
pub other_stops : (project : List (List ℕ)) (t : FileTree) (path : List (List ℕ)) → path ≡ journal_path project → IsNoFile (journal_path project) t → IsStopped project t path
other_stops project t path is no_file = inl (inr (inl (inl (ap faults.OtherEntry is, no_file))))

pub same_text : (t : FileTree) (at : List (List ℕ)) (first second : List ℕ) → map.get t at ≡ Some (entries.File first) → map.get t at ≡ Some (entries.File second) → first ≡ second
same_text t at first second one two = cc
