use Rattle.std.proofs.Common.{◌≡◌, take}
use Rattle.std.specs.List.{flat_map}
use Rattle.autoload_build.specs.Steps.{listed_by, seen}
use Rattle.autoload_build.proofs.jobs.jobs.Given as goal

abbrev pub invariant-loop-source : goal.invariant-loop-source
invariant-loop-source l = l.jobs.items ≡ flat_map listed_by (seen (take l.source-index l.sources))
