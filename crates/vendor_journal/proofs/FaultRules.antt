-- Failures of the device stay so.
use Rattle.std.proofs.Common.{◌≡◌, false, refl}
use Rattle.std.specs.Prelude.{Err}
use Rattle.install_world.specs.Emptied as emptied
use Rattle.tree_dev.specs.Device.{Meaning}
use Rattle.install_world.specs.Removals as removals
use Rattle.install_world.specs.declared.removal_fault.RemoveFault.{RemoveFault}
use Rattle.install_world.specs.declared.removal_fault.RemoveFault.TheVariants as removal_faults
use Rattle.vendor_journal.specs.Faults.{fault_of_removal, is_device_fault, is_lost}

pub writes_none_released : (X Y : Type 0) (a b : Meaning) (fault : RemoveFault) → removals.WritesNone a b (removals.is_device_fault {X = X} (Err fault))
    → removals.WritesNone a b (is_device_fault {X = Y} (Err (fault_of_removal fault)))
writes_none_released X Y a b (removal_faults.Vanished at) is = is
writes_none_released X Y a b removal_faults.DeviceFault is = is
writes_none_released X Y a b removal_faults.OutOfMemory is = is

pub lost_removal : (X Y : Type 0) (fault : RemoveFault) → emptied.is_vanished {X = X} (Err fault) ≡ false → is_lost {X = Y} (Err (fault_of_removal fault)) ≡ false
lost_removal X Y (removal_faults.Vanished at) is = absurd cc
lost_removal X Y removal_faults.DeviceFault is = refl
lost_removal X Y removal_faults.OutOfMemory is = refl
