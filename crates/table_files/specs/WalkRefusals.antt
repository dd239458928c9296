-- Why classes are not found, as refusals.
use Rattle.std.specs.Prelude.{Result, Ok, Err}
use Rattle.class_walk.specs.declared.fault.WalkFault.{WalkFault}
use Rattle.class_walk.specs.declared.fault.WalkFault.TheVariants as walks
use Rattle.run_answers.specs.declared.refusal.Place.TheVariants.{Entry}
use Rattle.run_answers.specs.declared.refusal.Refusal.{Refusal}
use Rattle.run_answers.specs.declared.refusal.Refusal.TheVariants as refusals

abbrev pub refusal_of_walk : WalkFault → Refusal
refusal_of_walk (walks.ClassmapMissing at) = refusals.ClassmapMissing at
refusal_of_walk (walks.OtherEntry at) = refusals.OtherEntry at
refusal_of_walk (walks.Limit limit) = refusals.Limit limit
refusal_of_walk (walks.Vanished at) = refusals.Vanished (Entry at)
refusal_of_walk walks.DeviceFault = refusals.DeviceFault
refusal_of_walk walks.OutOfMemory = refusals.OutOfMemory

abbrev pub or_not_walked : {X : Type 0} → Result X WalkFault → Result X Refusal
or_not_walked (Ok x) = Ok x
or_not_walked (Err fault) = Err (refusal_of_walk fault)
