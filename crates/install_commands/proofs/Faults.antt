-- Faults of the steps of an install, as refusals.
use Rattle.std.proofs.Common.{◌≡◌, false, Result, Err, IsTrue, refl, sym, ap, ◌∙◌, inl, inr, arith}
use Rattle.std.specs.Prelude.{◌⊎◌, ◌≤◌, ℕ}
use Rattle.std.proofs.lemmas.Bool.{false≢true}
use Rattle.tree_dev.specs.Device.{Rose}
use Rattle.stage_job.specs.Faults as stages
use Rattle.stage_job.specs.declared.fault.StageFault.{StageFault}
use Rattle.stage_job.specs.declared.fault.StageFault.TheVariants as stage_faults
use Rattle.vendor_journal.specs.Faults as journals
use Rattle.vendor_journal.specs.declared.commit_fault.CommitFault.{CommitFault}
use Rattle.vendor_journal.specs.declared.commit_fault.CommitFault.TheVariants as commits
use Rattle.vendor_journal.specs.declared.hold_fault.ClaimFault.{ClaimFault}
use Rattle.vendor_journal.specs.declared.hold_fault.ClaimFault.TheVariants as claims
use Rattle.run_answers.specs.Faults.{is_free, is_of_device}
use Rattle.run_answers.specs.declared.refusal.Refusal.{Refusal}
use Rattle.install_commands.specs.Refusals.{or_not_staged, refusal_of_claim, refusal_of_commit, refusal_of_staging}

-- a fault of a release that isn't lost
pub free_or_lost : (fault : ClaimFault) → journals.is_lost {X = Unit {0}} (Err fault) ≡ false → IsTrue (is_free (refusal_of_claim fault))
free_or_lost claims.Unfinished kept = absurd (false≢true (sym kept))
free_or_lost (claims.Vanished at) kept = absurd (false≢true (sym kept))
free_or_lost claims.DeviceFault kept = refl
free_or_lost claims.OutOfMemory kept = refl

-- a refusal for a fault of the device is one
pub claim_device : (fault : ClaimFault) → IsTrue (is_of_device (refusal_of_claim fault)) → IsTrue (journals.is_device_fault {X = Unit {0}} (Err fault))
claim_device claims.Unfinished failed = failed
claim_device (claims.Vanished at) failed = failed
claim_device claims.DeviceFault failed = refl
claim_device claims.OutOfMemory failed = failed

pub free_or_vanished : (fault : CommitFault) → journals.is_vanished {X = Unit {0}} (Err fault) ≡ false → IsTrue (is_free (refusal_of_commit fault))
free_or_vanished (commits.Vanished number) kept = absurd (false≢true (sym kept))
free_or_vanished commits.DeviceFault kept = refl

pub commit_device : (fault : CommitFault) → IsTrue (is_of_device (refusal_of_commit fault)) → IsTrue (journals.is_commit_fault {X = Unit {0}} (Err fault))
commit_device (commits.Vanished number) failed = failed
commit_device commits.DeviceFault failed = refl

-- staging is refused for a fault of the device exactly where that is what it answers
pub staging_device : (fault : StageFault) → stages.is_device_fault {X = Unit {0}} (Err fault) ≡ is_of_device (refusal_of_staging fault)
staging_device stage_faults.DeviceFault = refl
staging_device stage_faults.OutOfMemory = refl
staging_device (stage_faults.MissingPath text) = refl
staging_device (stage_faults.OtherEntry path) = refl
staging_device (stage_faults.Limit kind) = refl
staging_device (stage_faults.Vanished path) = refl

pub staging_told : (wanted : Result ℕ StageFault) (fault : StageFault) → stages.Refuses fault wanted
    → IsTrue (is_free (refusal_of_staging fault)) ⊎ (or_not_staged wanted ≡ Err (refusal_of_staging fault))
staging_told wanted stage_faults.DeviceFault is = inl refl
staging_told wanted stage_faults.OutOfMemory is = inl refl
staging_told wanted (stage_faults.MissingPath text) is = inr (ap or_not_staged is)
staging_told wanted (stage_faults.OtherEntry path) is = inr (ap or_not_staged is)
staging_told wanted (stage_faults.Limit kind) is = inr (ap or_not_staged is)
staging_told wanted (stage_faults.Vanished path) is = inr (ap or_not_staged is)

-- a refusal that is not free is not passed for one
pub not_free : {P : Type 0} (refusal : Refusal) → IsTrue (is_free refusal) → is_free refusal ≡ false → P
not_free refusal free other = absurd (false≢true (sym other ∙ free))

-- ---- counts of faults

pub rose_after : (a b d : ℕ) → a ≤ b → Rose b d → Rose a d
rose_after a b d le rose = omega (arith, le, rose)

pub rose_before : (a b d : ℕ) → Rose a b → b ≤ d → Rose a d
rose_before a b d rose le = omega (arith, rose, le)
