-- Why a search for classes ends, and what is known of each answer.
use Rattle.std.specs.Prelude.{◌≡◌, ℕ, Bool, true, false, List, Vec, Result, Ok, Err}
use Rattle.std.specs.declared.alloc.Global.{Global}
use Rattle.tree_dev.specs.declared.fault.TreeFault.{TreeFault}
use Rattle.tree_dev.specs.declared.fault.TreeFault.TheVariants as trees
use Rattle.class_walk.specs.Walks.{Walked, AreScansOf}
use Rattle.class_walk.specs.declared.fault.WalkFault.{WalkFault}
use Rattle.class_walk.specs.declared.fault.WalkFault.TheVariants as faults
use Rattle.class_walk.specs.declared.job.Scanned.{Scanned}

abbrev pub fault_of_tree : TreeFault → WalkFault
fault_of_tree trees.Failed = faults.DeviceFault
fault_of_tree trees.OutOfMemory = faults.OutOfMemory

-- the device failed
abbrev pub is_device_fault : {X : Type 0} → Result X WalkFault → Bool
is_device_fault (Ok x) = false
is_device_fault (Err faults.DeviceFault) = true
is_device_fault (Err faults.OutOfMemory) = false
is_device_fault (Err (faults.ClassmapMissing path)) = false
is_device_fault (Err (faults.OtherEntry path)) = false
is_device_fault (Err (faults.Limit kind)) = false
is_device_fault (Err (faults.Vanished path)) = false

-- an entry was shown and then was gone
abbrev pub is_vanished : {X : Type 0} → Result X WalkFault → Bool
is_vanished (Ok x) = false
is_vanished (Err (faults.Vanished path)) = true
is_vanished (Err faults.DeviceFault) = false
is_vanished (Err faults.OutOfMemory) = false
is_vanished (Err (faults.ClassmapMissing path)) = false
is_vanished (Err (faults.OtherEntry path)) = false
is_vanished (Err (faults.Limit kind)) = false

-- The fault is the one that is wanted. A fault of the device and want of memory may come at any place.
abbrev pub Refuses : WalkFault → Result Walked WalkFault → Type 0
Refuses faults.DeviceFault wanted = Unit {0}
Refuses faults.OutOfMemory wanted = Unit {0}
Refuses (faults.ClassmapMissing path) wanted = wanted ≡ Err (faults.ClassmapMissing path)
Refuses (faults.OtherEntry path) wanted = wanted ≡ Err (faults.OtherEntry path)
Refuses (faults.Limit kind) wanted = wanted ≡ Err (faults.Limit kind)
Refuses (faults.Vanished path) wanted = wanted ≡ Err (faults.Vanished path)

-- what was found is what is wanted, and as many entries are left
abbrev pub Tells : Walked → List Scanned → ℕ → Type 0
Tells walked found left = AreScansOf walked.found found × (walked.left ≡ left)

-- The answer is the one that is wanted: these files and so many entries, or the fault.
abbrev pub Ends : {X : Type 0} → Result Walked WalkFault → List Scanned → ℕ → Result X WalkFault → Type 0
Ends wanted found left (Ok x) = (walked : Walked) × (wanted ≡ Ok walked) × Tells walked found left
Ends wanted found left (Err fault) = Refuses fault wanted

-- the same from what was found before
abbrev pub Goes : {X : Type 0} → (Walked → Result Walked WalkFault) → List Scanned → ℕ → List Scanned → ℕ → Result X WalkFault → Type 0
Goes step found left after rest result = (walked : Walked) → Tells walked found left → Ends (step walked) after rest result

-- the files that all jobs scanned
abbrev pub Answers : Result Walked WalkFault → ℕ → Result (Vec Scanned Global) WalkFault → Type 0
Answers wanted left (Ok found) = (walked : Walked) × (wanted ≡ Ok walked) × Tells walked found.items left
Answers wanted left (Err fault) = Refuses fault wanted
