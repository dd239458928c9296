use Rattle.std.proofs.Common.{◌≡◌, ◌++◌, map, take}
use Rattle.class_walk.specs.Patterns.{pattern_of}
use Rattle.autoload_build.proofs.jobs.put_patterns.Given as goal

abbrev pub invariant-loop-text : goal.invariant-loop-text
invariant-loop-text l = l.patterns.items ≡ l.fn.patterns.items ++ map (λ text. pattern_of l.source.folder.now text) (take l.text-index l.source.rules.now.exclude)
