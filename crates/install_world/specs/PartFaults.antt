-- The faults of parts that are not finished.
use Rattle.std.specs.Prelude.{Bool, true, false, Result, Ok, Err}
use Rattle.install_world.specs.declared.part_fault.PartFault.{PartFault}
use Rattle.install_world.specs.declared.part_fault.PartFault.TheVariants as faults
use Rattle.install_world.specs.declared.removal_fault.RemoveFault.{RemoveFault}
use Rattle.install_world.specs.declared.removal_fault.RemoveFault.TheVariants as removal_faults

abbrev pub fault_of_removal : RemoveFault → PartFault
fault_of_removal (removal_faults.Vanished at) = faults.Vanished at
fault_of_removal removal_faults.DeviceFault = faults.DeviceFault
fault_of_removal removal_faults.OutOfMemory = faults.OutOfMemory

abbrev pub is_device_fault : {X : Type 0} → Result X PartFault → Bool
is_device_fault (Ok x) = false
is_device_fault (Err (faults.OtherEntry at)) = false
is_device_fault (Err (faults.Vanished at)) = false
is_device_fault (Err faults.DeviceFault) = true
is_device_fault (Err faults.OutOfMemory) = false

-- an entry was not as it must be
abbrev pub is_unfit : {X : Type 0} → Result X PartFault → Bool
is_unfit (Ok x) = false
is_unfit (Err (faults.OtherEntry at)) = true
is_unfit (Err (faults.Vanished at)) = true
is_unfit (Err faults.DeviceFault) = false
is_unfit (Err faults.OutOfMemory) = false

-- an entry was not as earlier calls left it
abbrev pub is_vanished : {X : Type 0} → Result X PartFault → Bool
is_vanished (Ok x) = false
is_vanished (Err (faults.OtherEntry at)) = false
is_vanished (Err (faults.Vanished at)) = true
is_vanished (Err faults.DeviceFault) = false
is_vanished (Err faults.OutOfMemory) = false
