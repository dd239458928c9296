use Rattle.std.proofs.Common.{◌≡◌, ◌++◌, map, take}
use Rattle.class_walk.specs.declared.job.WalkRule.TheVariants as rules
use Rattle.autoload_build.specs.Jobs.{job_of}
use Rattle.autoload_build.specs.Steps.{source_of}
use Rattle.autoload_build.proofs.jobs.put_listed.Given as goal

abbrev pub invariant-loop-path : goal.invariant-loop-path
invariant-loop-path l = l.jobs.items ≡ l.fn.jobs.items ++ map (job_of rules.Listed (source_of l.source)) (take l.path-index l.source.rules.now.classmap)
