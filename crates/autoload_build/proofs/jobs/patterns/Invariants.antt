use Rattle.std.proofs.Common.{◌≡◌, take}
use Rattle.std.specs.List.{flat_map}
use Rattle.autoload_build.specs.Steps.{excluded_by, seen}
use Rattle.autoload_build.proofs.jobs.patterns.Given as goal

abbrev pub invariant-loop-source : goal.invariant-loop-source
invariant-loop-source l = l.patterns.items ≡ flat_map excluded_by (seen (take l.source-index l.sources))
