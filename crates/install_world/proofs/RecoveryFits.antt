-- Recovery of a tree in flight refuses nothing.
use Rattle.std.proofs.Common.{◌≡◌, ℕ, ◌≤◌, Bool, true, false, cond, nat_lt, ltb-true, List, [], ◌∷◌, length, Some, None, refl, ap, ◌∙◌, subst, inl, inr, arith}
use Rattle.std.specs.Prelude.{◌⊎◌, Err}
use Rattle.std.specs.FinMap as map
use Rattle.tree_dev.specs.Trees.{FileTree, kind_at, kind_of, read_at, read_of}
use Rattle.tree_dev.specs.Changes.{is_root}
use Rattle.tree_dev.specs.Projects.{journal_path}
use Rattle.tree_dev.specs.declared.entry.Entry.TheVariants.{File, Folder}
use Rattle.tree_dev.specs.declared.entry.Kind.{Kind}
use Rattle.tree_dev.specs.declared.entry.Kind.TheVariants as kinds
use Rattle.tree_dev.specs.declared.entry.ReadAnswer.{ReadAnswer}
use Rattle.tree_dev.specs.declared.entry.ReadAnswer.TheVariants as answers
use Rattle.tree_dev.specs.declared.limits.TheConstants.{FILE_BYTES}
use Rattle.tree_dev.specs.declared.fault.TreeFault.{TreeFault}
use Rattle.tree_dev.specs.declared.fault.TreeFault.TheVariants as tree_faults
use Rattle.install_world.specs.Emptied as removals
use Rattle.install_world.specs.InFlight.{Files, HasFiles, IsInFlight, IsMoving, NoJournal}
use Rattle.install_world.specs.JournalText.{IsBadJournal, Says}
use Rattle.install_world.specs.PartFaults as parts
use Rattle.install_world.specs.Recovery.{CanRecover, IsReadable, fault_of_journal, fault_of_part, fault_of_removal, fault_of_tree, is_refused}
use Rattle.install_world.specs.declared.fault.JournalFault.{JournalFault}
use Rattle.install_world.specs.declared.fault.JournalFault.TheVariants as journal_faults
use Rattle.install_world.specs.declared.part_fault.PartFault.{PartFault}
use Rattle.install_world.specs.declared.part_fault.PartFault.TheVariants as part_faults
use Rattle.install_world.specs.declared.recovery_fault.RecoverFault.{RecoverFault}
use Rattle.install_world.specs.declared.recovery_fault.RecoverFault.TheVariants as faults
use Rattle.install_world.specs.declared.removal_fault.RemoveFault.{RemoveFault}
use Rattle.install_world.specs.declared.removal_fault.RemoveFault.TheVariants as removal_faults
use Rattle.install_world.proofs.WayMoves.{entry_is}

-- ---- faults

pub refused_tree : (Y : Type 0) (fault : TreeFault) → is_refused {X = Y} (Err (fault_of_tree fault)) ≡ false
refused_tree Y tree_faults.Failed = refl
refused_tree Y tree_faults.OutOfMemory = refl

pub refused_removal : (X Y : Type 0) (fault : RemoveFault) → removals.is_vanished {X = X} (Err fault) ≡ false → is_refused {X = Y} (Err (fault_of_removal fault)) ≡ false
refused_removal X Y (removal_faults.Vanished at) is = absurd cc
refused_removal X Y removal_faults.DeviceFault is = refl
refused_removal X Y removal_faults.OutOfMemory is = refl

pub refused_part : (X Y : Type 0) (fault : PartFault) → parts.is_unfit {X = X} (Err fault) ≡ false → is_refused {X = Y} (Err (fault_of_part fault)) ≡ false
refused_part X Y (part_faults.OtherEntry at) is = absurd cc
refused_part X Y (part_faults.Vanished at) is = absurd cc
refused_part X Y part_faults.DeviceFault is = refl
refused_part X Y part_faults.OutOfMemory is = refl

pub refused_journal : (Y : Type 0) (fault : JournalFault) → ((place : ℕ) → fault ≡ journal_faults.BadJournal place → ⊥) → is_refused {X = Y} (Err (fault_of_journal fault)) ≡ false
refused_journal Y (journal_faults.BadJournal at) good = absurd (good at refl)
refused_journal Y journal_faults.OutOfMemory good = refl

-- ---- the journal

module _ (t : FileTree) (at : List (List ℕ)) (under : is_root at ≡ false) (readable : IsReadable at t) (answer : ReadAnswer) (is : answer ≡ read_at t at FILE_BYTES) where
  no_more : (text : List ℕ) → length text ≤ FILE_BYTES → (many : Bool) → nat_lt FILE_BYTES (length text) ≡ many → many ≡ false
  no_more text few true e = absurd (let more = ltb-true FILE_BYTES (length text) e in omega (arith, more, few))
  no_more text few false e = refl

  read_as : (answer ≡ answers.Absent) ⊎ ((text : List ℕ) × (answer ≡ answers.Bytes text))
  unfolding read_at
  read_as = elim readable.either [
    | inl none ↦ inl (is ∙ ap (read_of FILE_BYTES) (entry_is t at under ∙ none))
    | inr file ↦ inr (
      file.0,
      is ∙ ap (read_of FILE_BYTES) (entry_is t at under ∙ file.1)
          ∙ ap (λ many. cond many answers.TooLong (answers.Bytes file.0)) (no_more file.0 file.2 (nat_lt FILE_BYTES (length file.0)) refl),
    )
  ]

  pub no_folder_read : answer ≡ answers.NotFile → ⊥
  no_folder_read wrong = elim read_as [ inl absent ↦ cc | inr bytes ↦ (let shown = bytes.1 in cc) ]

  pub not_too_long : answer ≡ answers.TooLong → ⊥
  not_too_long wrong = elim read_as [ inl absent ↦ cc | inr bytes ↦ (let shown = bytes.1 in cc) ]

-- the journal of a tree in flight can be read
pub journal_readable : (project : List (List ℕ)) (surroundings : FileTree) (old new : Files) (t : FileTree) → IsInFlight project surroundings old new t → CanRecover project t
    → IsReadable (journal_path project) t
journal_readable project surroundings old new t flight can = record { either = by flight.state }
  where
    by : (NoJournal project t × (HasFiles project t old ⊎ HasFiles project t new)) ⊎ IsMoving project old new t
        → (map.get t (journal_path project) ≡ None) ⊎ ((text : List ℕ) × (map.get t (journal_path project) ≡ Some (File text)) × (length text ≤ FILE_BYTES))
    by (inl none) = inl none.0.absent
    by (inr moving) = inr (moving.stands.text, moving.stands.there, can.journal moving.stands.text moving.stands.there)

-- and is not bad
pub journal_not_bad : (project : List (List ℕ)) (surroundings : FileTree) (old new : Files) (t : FileTree) (text : List ℕ) (place : ℕ) → IsInFlight project surroundings old new t
    → map.get t (journal_path project) ≡ Some (File text) → IsBadJournal text place → ⊥
journal_not_bad project surroundings old new t text place flight there bad = by flight.state
  where
    by : (NoJournal project t × (HasFiles project t old ⊎ HasFiles project t new)) ⊎ IsMoving project old new t → ⊥
    by (inl none) = let one = none.0.absent in cc
    by (inr moving) =
        let two = moving.stands.there in
        let same : moving.stands.text ≡ text = cc in
        bad.no_text (moving.journal, subst (λ bytes. Says bytes moving.journal) same moving.stands.says)

pub journal_under : (project : List (List ℕ)) → is_root (journal_path project) ≡ false
journal_under [] = refl
journal_under (x ∷ xs) = refl

-- a fault that is passed on
pub refused_again : (X Y : Type 0) (fault : RecoverFault) → is_refused {X = X} (Err fault) ≡ false → is_refused {X = Y} (Err fault) ≡ false
refused_again X Y (faults.BadJournal at) is = absurd cc
refused_again X Y (faults.OtherEntry at) is = absurd cc
refused_again X Y (faults.Vanished at) is = absurd cc
refused_again X Y (faults.Limit kind) is = absurd cc
refused_again X Y faults.DeviceFault is = refl
refused_again X Y faults.OutOfMemory is = refl

-- ---- `.install`

pub work_by_kind : (t : FileTree) (at : List (List ℕ)) (kind : Kind) → is_root at ≡ false → kind ≡ kind_at t at → (map.get t at ≡ None) ⊎ (map.get t at ≡ Some Folder)
    → (kind ≡ kinds.Absent) ⊎ (kind ≡ kinds.Folder)
unfolding kind_at
work_by_kind t at kind under is either = elim either [
  | inl none ↦ inl (is ∙ ap kind_of (entry_is t at under ∙ none))
  | inr folder ↦ inr (is ∙ ap kind_of (entry_is t at under ∙ folder))
]
