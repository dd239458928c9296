-- Why a job is not staged, and what is known of each answer.
use Rattle.std.specs.Prelude.{◌≡◌, ℕ, Bool, true, false, Result, Ok, Err, MatchResult}
use Rattle.tree_dev.specs.declared.fault.TreeFault.{TreeFault}
use Rattle.tree_dev.specs.declared.fault.TreeFault.TheVariants as trees
use Rattle.stage_job.specs.declared.fault.StageFault.{StageFault}
use Rattle.stage_job.specs.declared.fault.StageFault.TheVariants as faults

abbrev pub fault_of_tree : TreeFault → StageFault
fault_of_tree trees.Failed = faults.DeviceFault
fault_of_tree trees.OutOfMemory = faults.OutOfMemory

-- the device failed
abbrev pub is_device_fault : {X : Type 0} → Result X StageFault → Bool
is_device_fault (Ok x) = false
is_device_fault (Err faults.DeviceFault) = true
is_device_fault (Err faults.OutOfMemory) = false
is_device_fault (Err (faults.MissingPath text)) = false
is_device_fault (Err (faults.OtherEntry path)) = false
is_device_fault (Err (faults.Limit kind)) = false
is_device_fault (Err (faults.Vanished path)) = false

-- an entry vanished
abbrev pub is_vanished : {X : Type 0} → Result X StageFault → Bool
is_vanished (Ok x) = false
is_vanished (Err faults.DeviceFault) = false
is_vanished (Err faults.OutOfMemory) = false
is_vanished (Err (faults.MissingPath text)) = false
is_vanished (Err (faults.OtherEntry path)) = false
is_vanished (Err (faults.Limit kind)) = false
is_vanished (Err (faults.Vanished path)) = true

-- the answer of a check that refuses
abbrev pub refused : StageFault → Result ℕ StageFault
refused fault = Err fault

-- The fault is the one that is wanted. A fault of the device and want of memory may come at any place.
abbrev pub Refuses : StageFault → Result ℕ StageFault → Type 0
Refuses faults.DeviceFault wanted = Unit {0}
Refuses faults.OutOfMemory wanted = Unit {0}
Refuses (faults.MissingPath text) wanted = wanted ≡ Err (faults.MissingPath text)
Refuses (faults.OtherEntry path) wanted = wanted ≡ Err (faults.OtherEntry path)
Refuses (faults.Limit kind) wanted = wanted ≡ Err (faults.Limit kind)
Refuses (faults.Vanished path) wanted = wanted ≡ Err (faults.Vanished path)

-- The answer is the one that is wanted: so many entries may still be listed, or the fault. A fault of the device and
-- want of memory may come at any place.
abbrev pub Answers : {X : Type 0} → Result ℕ StageFault → ℕ → Result X StageFault → Type 0
Answers wanted left result = MatchResult result (λ _. wanted ≡ Ok left) (λ fault. Refuses fault wanted)
