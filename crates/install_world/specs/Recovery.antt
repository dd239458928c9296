-- What recovery makes of a project, and its faults.
use Rattle.std.specs.Prelude.{◌≡◌, ◌⊎◌, ◌≤◌, ◌<◌, ℕ, List, length, Bool, true, false, Option, None, Some, Result, Ok, Err}
use Rattle.std.specs.FinMap as map
use Rattle.tree_dev.specs.Trees.{FileTree, entry_at}
use Rattle.tree_dev.specs.Changes.{is_leaf}
use Rattle.tree_dev.specs.Projects.{journal_path, work_path}
use Rattle.tree_dev.specs.declared.entry.Entry.{Entry}
use Rattle.install_world.specs.InFlight.{Files, HasFiles, HasSurroundings, NoJournal}
use Rattle.install_world.specs.JournalText.{IsBadJournal, Says}
use Rattle.install_world.specs.declared.journal.Journal.{Journal}
use Rattle.install_world.specs.Moving.{IsOnWay, Way}
use Rattle.tree_dev.specs.declared.entry.Entry.TheVariants.{File, Folder}
use Rattle.tree_dev.specs.declared.limits.TheConstants.{FILE_BYTES}
use Rattle.install_world.specs.declared.recovery_fault.Recovered.{Recovered}
use Rattle.install_world.specs.declared.recovery_fault.Recovered.TheVariants as did
use Rattle.tree_dev.specs.declared.fault.TreeFault.{TreeFault}
use Rattle.tree_dev.specs.declared.fault.TreeFault.TheVariants as tree_faults
use Rattle.install_world.specs.declared.fault.JournalFault.{JournalFault}
use Rattle.install_world.specs.declared.fault.JournalFault.TheVariants as journal_faults
use Rattle.install_world.specs.declared.part_fault.PartFault.{PartFault}
use Rattle.install_world.specs.declared.part_fault.PartFault.TheVariants as part_faults
use Rattle.install_world.specs.declared.recovery_fault.RecoverFault.{RecoverFault}
use Rattle.install_world.specs.declared.recovery_fault.RecoverFault.TheVariants as faults
use Rattle.install_world.specs.declared.removal_fault.RemoveFault.{RemoveFault}
use Rattle.install_world.specs.declared.removal_fault.RemoveFault.TheVariants as removal_faults

abbrev pub fault_of_tree : TreeFault → RecoverFault
fault_of_tree tree_faults.Failed = faults.DeviceFault
fault_of_tree tree_faults.OutOfMemory = faults.OutOfMemory

abbrev pub fault_of_removal : RemoveFault → RecoverFault
fault_of_removal (removal_faults.Vanished at) = faults.Vanished at
fault_of_removal removal_faults.DeviceFault = faults.DeviceFault
fault_of_removal removal_faults.OutOfMemory = faults.OutOfMemory

abbrev pub fault_of_part : PartFault → RecoverFault
fault_of_part (part_faults.OtherEntry at) = faults.OtherEntry at
fault_of_part (part_faults.Vanished at) = faults.Vanished at
fault_of_part part_faults.DeviceFault = faults.DeviceFault
fault_of_part part_faults.OutOfMemory = faults.OutOfMemory

abbrev pub fault_of_journal : JournalFault → RecoverFault
fault_of_journal (journal_faults.BadJournal at) = faults.BadJournal at
fault_of_journal journal_faults.OutOfMemory = faults.OutOfMemory

abbrev pub is_device_fault : {X : Type 0} → Result X RecoverFault → Bool
is_device_fault (Ok x) = false
is_device_fault (Err (faults.BadJournal at)) = false
is_device_fault (Err (faults.OtherEntry at)) = false
is_device_fault (Err (faults.Vanished at)) = false
is_device_fault (Err (faults.Limit kind)) = false
is_device_fault (Err faults.DeviceFault) = true
is_device_fault (Err faults.OutOfMemory) = false

-- No journal stands, and the project is the new one of a way.
pub record IsNewProject (way : Way) (t : FileTree) : Type 0 where
  pub no_journal : NoJournal way.project t
  pub files : HasFiles way.project t way.new
  pub outside : HasSurroundings way.project way.surroundings t

-- On the way by its journal, or at its end.
abbrev pub IsEnding : Way → FileTree → Type 0
IsEnding way t = IsOnWay way t ⊎ IsNewProject way t

-- No journal stands, and the project has these files.
pub record IsRecovered (project : List (List ℕ)) (files : Files) (t : FileTree) : Type 0 where
  pub no_journal : NoJournal project t
  pub has_files : HasFiles project t files

-- What recovery is to do: nothing without `.install`; to take it away where no journal stands; else to finish the job.
abbrev pub ended_by : Option Entry → Recovered
ended_by None = did.Removed
ended_by (Some journal) = did.Finished

abbrev pub recovered_by : Option Entry → Option Entry → Recovered
recovered_by None journal = did.NothingToDo
recovered_by (Some work) journal = ended_by journal

unfoldable pub recovered_in : List (List ℕ) → FileTree → Recovered
recovered_in project t = recovered_by (map.get t (work_path project)) (map.get t (journal_path project))

-- The file at `.install/journal` says no journal, and is bad at this place.
pub record HasBadJournal (project : List (List ℕ)) (t : FileTree) (place : ℕ) : Type 0 where
  pub text : List ℕ
  pub there : map.get t (journal_path project) ≡ Some (File text)
  pub bad : IsBadJournal text place

-- Something stood where it must not, or did not stand where it must.
abbrev pub is_refused : {X : Type 0} → Result X RecoverFault → Bool
is_refused (Ok x) = false
is_refused (Err (faults.BadJournal at)) = true
is_refused (Err (faults.OtherEntry at)) = true
is_refused (Err (faults.Vanished at)) = true
is_refused (Err (faults.Limit kind)) = true
is_refused (Err faults.DeviceFault) = false
is_refused (Err faults.OutOfMemory) = false

-- An entry was not as earlier calls left it.
abbrev pub is_vanished : {X : Type 0} → Result X RecoverFault → Bool
is_vanished (Ok x) = false
is_vanished (Err (faults.BadJournal at)) = false
is_vanished (Err (faults.OtherEntry at)) = false
is_vanished (Err (faults.Vanished at)) = true
is_vanished (Err (faults.Limit kind)) = false
is_vanished (Err faults.DeviceFault) = false
is_vanished (Err faults.OutOfMemory) = false

-- A file is at a path, of no more bytes than a file may have, or nothing is.
pub record IsReadable (at : List (List ℕ)) (t : FileTree) : Type 0 where
  pub either : (map.get t at ≡ None) ⊎ ((text : List ℕ) × (map.get t at ≡ Some (File text)) × (length text ≤ FILE_BYTES))

-- What recovery goes on with: `.install` is a folder or absent, and at its journal nothing is, or a file of no more bytes than
-- a file may have, whose text says a journal.
pub record CanBeFinished (project : List (List ℕ)) (t : FileTree) : Type 0 where
  pub work : (map.get t (work_path project) ≡ None) ⊎ (map.get t (work_path project) ≡ Some Folder)
  pub readable : IsReadable (journal_path project) t
  pub says : (text : List ℕ) → map.get t (journal_path project) ≡ Some (File text) → (journal : Journal) × Says text journal

-- Another kind of entry stands at a path than recovery needs there: it is no folder, or a folder stands where the journal goes.
pub record IsOtherEntry (project path : List (List ℕ)) (t : FileTree) : Type 0 where
  pub kind : (is_leaf (entry_at t path) ≡ true) ⊎ ((path ≡ journal_path project) × (map.get t path ≡ Some Folder))

-- The file at a path has more bytes than a file may have.
pub record IsLong (at : List (List ℕ)) (t : FileTree) : Type 0 where
  pub text : List ℕ
  pub there : map.get t at ≡ Some (File text)
  pub long : FILE_BYTES < length text

-- `.install` is a folder or absent, and a journal in it has no more bytes than a file may have.
pub record CanRecover (project : List (List ℕ)) (t : FileTree) : Type 0 where
  pub work : (map.get t (work_path project) ≡ None) ⊎ (map.get t (work_path project) ≡ Some Folder)
  pub journal : (text : List ℕ) → map.get t (journal_path project) ≡ Some (File text) → length text ≤ FILE_BYTES
