use Rattle.std.proofs.Common.{◌≡◌, filter, take}
use Rattle.class_walk.specs.Walks.{counts}
use Rattle.class_walk.proofs.counted.those_that_count.Given as goal

abbrev pub invariant-loop-name : goal.invariant-loop-name
invariant-loop-name l = l.names.items ≡ filter (counts l.rule l.tail) (take l.name-index l.declared)
