use Rattle.std.proofs.Common.{◌≡◌, ◌++◌, take}
use Rattle.std.specs.List.{flat_map}
use Rattle.psr_routes.specs.Routes.{prefixes_of}
use Rattle.autoload_build.specs.Jobs.{jobs_of_prefix}
use Rattle.autoload_build.specs.Steps.{source_of}
use Rattle.autoload_build.proofs.jobs.put_source.Given as goal

abbrev pub invariant-loop-dirs : goal.invariant-loop-dirs
invariant-loop-dirs l = l.jobs.items ≡ l.fn.jobs.items ++ flat_map (jobs_of_prefix l.kind (source_of l.source)) (take l.dirs-index (prefixes_of l.kind l.source.rules.now))
