use Rattle.std.proofs.Common.{◌≡◌, ◌++◌, map, drop}
use Rattle.plan_rules.specs.Validity.{chosen}
use Rattle.std.specs.List.{AllByRecursion}
use Rattle.lock_file.specs.PlanLocks.{locked_of}
use Rattle.lock_file.specs.Rereading.{HasPath}
use Rattle.lock_file.proofs.plan_lock.locked.Given as goal

abbrev pub invariant-loop-number : goal.invariant-loop-number
invariant-loop-number l = record {
  items : l.list.items ++ map locked_of (chosen (drop l.number l.marks) (drop l.number l.candidates)) ≡ map locked_of (chosen l.marks l.candidates);
  paths : AllByRecursion HasPath l.list.items;
}
