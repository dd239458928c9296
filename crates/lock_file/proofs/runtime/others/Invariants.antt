use Rattle.std.proofs.Common.{◌≡◌, take}
use Rattle.lock_file.specs.PlanLocks.{others}
use Rattle.lock_file.proofs.runtime.others.Given as goal

abbrev pub invariant-loop-number : goal.invariant-loop-number
invariant-loop-number l = l.list.items ≡ others (take l.number-index l.members) l.marks
