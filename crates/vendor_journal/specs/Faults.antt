-- The faults of claims and of commits.
use Rattle.std.specs.Prelude.{Bool, true, false, Result, Ok, Err}
use Rattle.install_world.specs.declared.removal_fault.RemoveFault.{RemoveFault}
use Rattle.install_world.specs.declared.removal_fault.RemoveFault.TheVariants as removal_faults
use Rattle.vendor_journal.specs.declared.commit_fault.CommitFault.{CommitFault}
use Rattle.vendor_journal.specs.declared.commit_fault.CommitFault.TheVariants as commit_faults
use Rattle.vendor_journal.specs.declared.hold_fault.ClaimFault.{ClaimFault}
use Rattle.vendor_journal.specs.declared.hold_fault.ClaimFault.TheVariants as faults

abbrev pub fault_of_removal : RemoveFault → ClaimFault
fault_of_removal (removal_faults.Vanished at) = faults.Vanished at
fault_of_removal removal_faults.DeviceFault = faults.DeviceFault
fault_of_removal removal_faults.OutOfMemory = faults.OutOfMemory

abbrev pub is_device_fault : {X : Type 0} → Result X ClaimFault → Bool
is_device_fault (Ok x) = false
is_device_fault (Err faults.Unfinished) = false
is_device_fault (Err (faults.Vanished at)) = false
is_device_fault (Err faults.DeviceFault) = true
is_device_fault (Err faults.OutOfMemory) = false

abbrev pub is_commit_fault : {X : Type 0} → Result X CommitFault → Bool
is_commit_fault (Ok x) = false
is_commit_fault (Err commit_faults.DeviceFault) = true
is_commit_fault (Err (commit_faults.Vanished place)) = false

abbrev pub is_vanished : {X : Type 0} → Result X CommitFault → Bool
is_vanished (Ok x) = false
is_vanished (Err commit_faults.DeviceFault) = false
is_vanished (Err (commit_faults.Vanished place)) = true

-- an entry vanished, or a claim is refused for what stands at its place
abbrev pub is_lost : {X : Type 0} → Result X ClaimFault → Bool
is_lost (Ok x) = false
is_lost (Err faults.Unfinished) = true
is_lost (Err (faults.Vanished at)) = true
is_lost (Err faults.DeviceFault) = false
is_lost (Err faults.OutOfMemory) = false
