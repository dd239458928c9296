use Rattle.std.proofs.Common.{◌≡◌, take}
use Rattle.plan_rules.specs.Sets.{set_of}
use Rattle.lock_file.proofs.runtime.marks.Given as goal

abbrev pub invariant-loop-number : goal.invariant-loop-number
invariant-loop-number l = l.marks.items ≡ set_of l.count (take l.number-index l.numbers)
