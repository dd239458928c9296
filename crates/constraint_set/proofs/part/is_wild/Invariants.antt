use Rattle.std.proofs.Common.{◌≡◌, length}
use Rattle.constraint_set.specs.Parts.{are_wild}
use Rattle.constraint_set.proofs.part.is_wild.Given as goal

abbrev pub invariant-loop-rest : goal.invariant-loop-rest
invariant-loop-rest l = are_wild l.rest ≡ are_wild l.text

abbrev pub decreases-loop-rest : goal.decreases-loop-rest
decreases-loop-rest l = length l.rest
