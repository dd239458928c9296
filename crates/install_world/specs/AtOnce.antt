-- With what recovery is refused before it does anything.
use Rattle.std.specs.Prelude.{◌≡◌, ◌⊎◌, ℕ, List, true, false, Result, Ok, Err}
use Rattle.std.specs.FinMap as map
use Rattle.tree_dev.specs.Trees.{FileTree}
use Rattle.tree_dev.specs.Changes.{is_file, is_leaf}
use Rattle.tree_dev.specs.Device.{Meaning, OnlyRead}
use Rattle.tree_dev.specs.Projects.{journal_path, work_path}
use Rattle.tree_dev.specs.declared.limits.LimitKind.TheVariants.{FileBytes}
use Rattle.install_world.specs.Blocked.{IsBlocked, IsFirstBlocked}
use Rattle.install_world.specs.InFlight.{HasJournal, IsPart, IsThere}
use Rattle.install_world.specs.declared.journal.Journal.{Journal}
use Rattle.install_world.specs.declared.target.Target.{Target}
use Rattle.install_world.specs.Recovery.{HasBadJournal, IsLong, IsReadable, is_device_fault}
use Rattle.install_world.specs.declared.recovery_fault.RecoverFault.{RecoverFault}
use Rattle.install_world.specs.declared.recovery_fault.RecoverFault.TheVariants as faults

-- Something that is no file is at a path.
pub record IsNoFile (at : List (List ℕ)) (t : FileTree) : Type 0 where
  pub there : IsThere t at
  pub kind : is_file (map.get t at) ≡ false

-- The file at a path is refused: something else is there, or it has more bytes than a file may have.
abbrev pub IsUnreadable : List (List ℕ) → FileTree → RecoverFault → Type 0
IsUnreadable at t fault = ((fault ≡ faults.OtherEntry at) × IsNoFile at t) ⊎ ((fault ≡ faults.Limit (FileBytes at)) × IsLong at t)

-- The refusal that is due over a tree before anything is done: `.install` is there and no folder; or the journal in it is no
-- file, or too long; or it can be read and is bad at a place. At most one is due.
abbrev pub IsDueAtOnce : List (List ℕ) → FileTree → RecoverFault → Type 0
IsDueAtOnce project t fault = ((fault ≡ faults.OtherEntry (work_path project)) × (is_leaf (map.get t (work_path project)) ≡ true))
    ⊎ (IsUnreadable (journal_path project) t fault
    ⊎ ((place : ℕ) × (fault ≡ faults.BadJournal place) × HasBadJournal project t place × IsReadable (journal_path project) t))

-- Another entry stands at a path than recovery needs there: at `.install` or its journal; or of the parts of a journal that stands
-- it stops the first that is stopped.
abbrev pub IsStopped : List (List ℕ) → FileTree → List (List ℕ) → Type 0
IsStopped project t path = IsDueAtOnce project t (faults.OtherEntry path)
    ⊎ ((journal : Journal) × HasJournal project t journal × IsFirstBlocked project journal.targets t path)

-- No part of a journal that stands is stopped.
abbrev pub NothingStops : List (List ℕ) → FileTree → Type 0
NothingStops project t = (journal : Journal) → HasJournal project t journal → (number : ℕ) (target : Target) → IsPart journal.targets number target → (path : List (List ℕ))
    → IsBlocked project number target t path → ⊥

-- This refusal is answered, or a fault of the device or want of memory.
abbrev pub IsRefusedBy : {X : Type 0} → RecoverFault → Result X RecoverFault → Type 0
IsRefusedBy due (Ok x) = ⊥
IsRefusedBy due (Err (faults.BadJournal at)) = faults.BadJournal at ≡ due
IsRefusedBy due (Err (faults.OtherEntry at)) = faults.OtherEntry at ≡ due
IsRefusedBy due (Err (faults.Vanished at)) = faults.Vanished at ≡ due
IsRefusedBy due (Err (faults.Limit kind)) = faults.Limit kind ≡ due
IsRefusedBy due (Err faults.DeviceFault) = Unit {0}
IsRefusedBy due (Err faults.OutOfMemory) = Unit {0}

-- The same, and the tree was only read.
pub record RefusesAtOnce {X : Type 0} (due : RecoverFault) (before now : Meaning) (result : Result X RecoverFault) : Type 0 where
  pub answer : IsRefusedBy due result
  pub only_read : OnlyRead before now (is_device_fault result)
