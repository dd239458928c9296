use Rattle.std.proofs.Common.{◌≡◌, take}
use Rattle.plan_solve.specs.Search.{chosen}
use Rattle.plan_solve.proofs.solving.selection.Given as goal

abbrev pub invariant-loop-choice : goal.invariant-loop-choice
invariant-loop-choice l = l.members.items ≡ chosen (take l.choice-index l.choices)
