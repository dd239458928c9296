-- Faults of the steps of an install as refusals.
use Rattle.std.specs.Prelude.{Result, Ok, Err}
use Rattle.install_world.specs.declared.recovery_fault.RecoverFault.{RecoverFault}
use Rattle.install_world.specs.declared.recovery_fault.RecoverFault.TheVariants as recoveries
use Rattle.stage_job.specs.declared.fault.StageFault.{StageFault}
use Rattle.stage_job.specs.declared.fault.StageFault.TheVariants as stages
use Rattle.vendor_journal.specs.declared.commit_fault.CommitFault.{CommitFault}
use Rattle.vendor_journal.specs.declared.commit_fault.CommitFault.TheVariants as commits
use Rattle.vendor_journal.specs.declared.hold_fault.ClaimFault.{ClaimFault}
use Rattle.vendor_journal.specs.declared.hold_fault.ClaimFault.TheVariants as claims
use Rattle.run_answers.specs.declared.refusal.Place.TheVariants.{Entry, Part}
use Rattle.run_answers.specs.declared.refusal.Refusal.{Refusal}
use Rattle.run_answers.specs.declared.refusal.Refusal.TheVariants as refusals

abbrev pub refusal_of_claim : ClaimFault → Refusal
refusal_of_claim claims.Unfinished = refusals.Unfinished
refusal_of_claim (claims.Vanished at) = refusals.Vanished (Entry at)
refusal_of_claim claims.DeviceFault = refusals.DeviceFault
refusal_of_claim claims.OutOfMemory = refusals.OutOfMemory

abbrev pub refusal_of_commit : CommitFault → Refusal
refusal_of_commit (commits.Vanished number) = refusals.Vanished (Part number)
refusal_of_commit commits.DeviceFault = refusals.DeviceFault

abbrev pub refusal_of_staging : StageFault → Refusal
refusal_of_staging (stages.MissingPath text) = refusals.MissingPath text
refusal_of_staging (stages.OtherEntry at) = refusals.OtherEntry at
refusal_of_staging (stages.Limit limit) = refusals.Limit limit
refusal_of_staging (stages.Vanished at) = refusals.Vanished (Entry at)
refusal_of_staging stages.DeviceFault = refusals.DeviceFault
refusal_of_staging stages.OutOfMemory = refusals.OutOfMemory

abbrev pub refusal_of_recovery : RecoverFault → Refusal
refusal_of_recovery (recoveries.BadJournal at) = refusals.BadJournal at
refusal_of_recovery (recoveries.OtherEntry at) = refusals.OtherEntry at
refusal_of_recovery (recoveries.Vanished at) = refusals.Vanished (Entry at)
refusal_of_recovery (recoveries.Limit limit) = refusals.Limit limit
refusal_of_recovery recoveries.DeviceFault = refusals.DeviceFault
refusal_of_recovery recoveries.OutOfMemory = refusals.OutOfMemory

abbrev pub or_not_staged : {X : Type 0} → Result X StageFault → Result X Refusal
or_not_staged (Ok x) = Ok x
or_not_staged (Err fault) = Err (refusal_of_staging fault)
