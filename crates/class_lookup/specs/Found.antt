-- What a look-up answers.
use Rattle.std.specs.Prelude.{ℕ, List, Option, Some, None, Bool, true, false, Result, Ok, Err}
use Rattle.class_lookup.specs.declared.fault.LookupFault.{LookupFault}
use Rattle.class_lookup.specs.declared.fault.LookupFault.TheVariants as faults
use Rattle.class_lookup.specs.declared.search.Found.{Found}
use Rattle.class_lookup.specs.declared.search.Found.TheVariants as answers

abbrev pub found_file : Found → Option (List (List ℕ))
found_file (answers.File path) = Some path
found_file answers.Nothing = None

-- whether a look-up answered that the device failed
abbrev pub is_device_fault : {X : Type 0} → Result X LookupFault → Bool
is_device_fault (Ok x) = false
is_device_fault (Err faults.DeviceFault) = true
is_device_fault (Err faults.BadName) = false
is_device_fault (Err faults.OutOfMemory) = false
