use Rattle.std.proofs.Common.{◌≡◌, ◌++◌, take}
use Rattle.autoload_build.specs.Jobs.{jobs_of_kind}
use Rattle.autoload_build.specs.Steps.{seen}
use Rattle.autoload_build.proofs.jobs.put_kind.Given as goal

abbrev pub invariant-loop-source : goal.invariant-loop-source
invariant-loop-source l = l.jobs.items ≡ l.fn.jobs.items ++ jobs_of_kind l.kind (seen (take l.source-index l.sources))
