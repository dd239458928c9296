use Rattle.std.proofs.Common.{◌≡◌, filter, take}
use Rattle.stage_job.specs.Checked.{passes_top}
use Rattle.stage_job.proofs.mirror.copied_names.Given as goal

abbrev pub invariant-loop-name : goal.invariant-loop-name
invariant-loop-name l = l.kept.items ≡ filter passes_top (take l.name-index l.names)
