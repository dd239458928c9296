use Rattle.std.proofs.Common.{◌≡◌, ◌++◌, map, take}
use Rattle.autoload_build.specs.Jobs.{job_of, rule_of}
use Rattle.autoload_build.specs.Steps.{source_of}
use Rattle.autoload_build.proofs.jobs.put_prefix.Given as goal

abbrev pub invariant-loop-folder : goal.invariant-loop-folder
invariant-loop-folder l = l.jobs.items ≡ l.fn.jobs.items ++ map (job_of (rule_of l.kind l.dirs.prefix) (source_of l.source)) (take l.folder-index l.dirs.folders)
