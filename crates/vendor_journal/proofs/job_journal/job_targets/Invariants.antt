use Rattle.std.proofs.Common.{◌≡◌, ℕ, ◌<◌, take}
use Rattle.std.specs.Prelude.{Some}
use Rattle.std.specs.List.{slice_get}
use Rattle.path_name.specs.Paths.{IsPath}
use Rattle.stage_job.specs.declared.job.Part.{Part}
use Rattle.vendor_journal.specs.JobTargets.{targets_of}
use Rattle.vendor_journal.proofs.job_journal.job_targets.Given as goal

abbrev pub invariant-loop-part : goal.invariant-loop-part
invariant-loop-part l = record {
  are : l.targets.items ≡ targets_of (take l.part-index l.fn.parts);
  paths : (number : ℕ) (part : Part) → number < l.part-index → slice_get l.fn.parts number ≡ Some part → IsPath part.target;
}
