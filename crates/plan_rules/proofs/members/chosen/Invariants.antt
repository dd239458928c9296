use Rattle.std.proofs.Common.{◌≡◌, ◌++◌, map, drop}
use Rattle.plan_rules.specs.Validity.{chosen}
use Rattle.plan_rules.proofs.members.chosen.Given as goal

abbrev pub invariant-loop-number : goal.invariant-loop-number
invariant-loop-number l = map (λ member. member.now) l.list.items ++ chosen (drop l.number l.marks) (drop l.number l.candidates) ≡ chosen l.marks l.candidates
