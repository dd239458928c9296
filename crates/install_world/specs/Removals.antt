-- Calls that write nothing, and those that remove entries at and below one path and change nothing else.
use Rattle.std.specs.Prelude.{◌≡◌, ℕ, ◌≤◌, ◌⊎◌, List, Bool, true, false, IsTrue, None, is_some, Result, Ok, Err}
use Rattle.std.specs.FinMap as map
use Rattle.tree_dev.specs.Trees.{FileTree}
use Rattle.tree_dev.specs.Disk.{IsImage, IsLater, LeftSince, moment, reading}
use Rattle.tree_dev.specs.Device.{Meaning, Rose}
use Rattle.tree_dev.specs.Projects.{is_within}
use Rattle.tree_dev.specs.Steady.{IsWhole}
use Rattle.tree_dev.specs.declared.fault.TreeFault.{TreeFault}
use Rattle.tree_dev.specs.declared.fault.TreeFault.TheVariants as tree_faults
use Rattle.install_world.specs.declared.removal_fault.RemoveFault.{RemoveFault}
use Rattle.install_world.specs.declared.removal_fault.RemoveFault.TheVariants as faults

abbrev pub fault_of_tree : TreeFault → RemoveFault
fault_of_tree tree_faults.Failed = faults.DeviceFault
fault_of_tree tree_faults.OutOfMemory = faults.OutOfMemory

abbrev pub is_device_fault : {X : Type 0} → Result X RemoveFault → Bool
is_device_fault (Ok x) = false
is_device_fault (Err (faults.Vanished at)) = false
is_device_fault (Err faults.DeviceFault) = true
is_device_fault (Err faults.OutOfMemory) = false

-- Calls that write no file lie between: whether a tree is told stays, no write is pending where none was, the count of
-- calls of `write` is as it was, and that of faults has not fallen. failed says whether the last call failed: then it rose.
pub record WritesNone (before now : Meaning) (failed : Bool) : Type 0 where
  pub tells : is_some now.told ≡ is_some before.told
  pub whole : IsWhole before.disks.now → IsWhole now.disks.now
  pub faults : before.faults ≤ now.faults
  pub writes : now.writes ≡ before.writes
  pub cause : IsTrue failed → Rose before.faults now.faults

-- Each entry is as it was, or lay at or below a path and is gone.
pub record OnlyRemoved (at : List (List ℕ)) (was left : FileTree) : Type 0 where
  pub each : (path : List (List ℕ)) → (map.get left path ≡ map.get was path) ⊎ ((is_within at path ≡ true) × (map.get left path ≡ None))

-- Entries at and below a path were removed, and nothing else changed: whatever a crash at any moment between may
-- leave is, but for these, something that a crash before may leave; and so is the tree as it reads.
pub record Removes (at : List (List ℕ)) (before now : Meaning) : Type 0 where
  pub later : IsLater before.disks now.disks
  pub each : (left : FileTree) → LeftSince now.disks (moment before.disks) left → (was : FileTree) × IsImage before.disks.now was × OnlyRemoved at was left
  pub reads : OnlyRemoved at (reading before.disks.now) (reading now.disks.now)
  pub faults : before.faults ≤ now.faults
