-- Faults of walks, as refusals.
use Rattle.std.proofs.Common.{◌≡◌, Err, IsTrue, refl, ap, inl, inr}
use Rattle.std.specs.Prelude.{◌⊎◌, Result}
use Rattle.class_walk.specs.Faults as walks
use Rattle.class_walk.specs.Walks.{Walked}
use Rattle.class_walk.specs.declared.fault.WalkFault.{WalkFault}
use Rattle.class_walk.specs.declared.fault.WalkFault.TheVariants as faults
use Rattle.run_answers.specs.Faults.{is_free, is_of_device}
use Rattle.table_files.specs.WalkRefusals.{or_not_walked, refusal_of_walk}

-- a walk is refused for a fault of the device exactly where that is what it answers
pub walk_device : (X : Type 0) (fault : WalkFault) → walks.is_device_fault {X = X} (Err fault) ≡ is_of_device (refusal_of_walk fault)
walk_device X faults.DeviceFault = refl
walk_device X faults.OutOfMemory = refl
walk_device X (faults.ClassmapMissing path) = refl
walk_device X (faults.OtherEntry path) = refl
walk_device X (faults.Limit kind) = refl
walk_device X (faults.Vanished path) = refl

pub walk_told : (wanted : Result Walked WalkFault) (fault : WalkFault) → walks.Refuses fault wanted → IsTrue (is_free (refusal_of_walk fault)) ⊎ (or_not_walked wanted ≡ Err (refusal_of_walk fault))
walk_told wanted faults.DeviceFault is = inl refl
walk_told wanted faults.OutOfMemory is = inl refl
walk_told wanted (faults.ClassmapMissing path) is = inr (ap or_not_walked is)
walk_told wanted (faults.OtherEntry path) is = inr (ap or_not_walked is)
walk_told wanted (faults.Limit kind) is = inr (ap or_not_walked is)
walk_told wanted (faults.Vanished path) is = inr (ap or_not_walked is)
