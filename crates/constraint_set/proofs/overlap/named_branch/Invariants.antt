use Rattle.std.proofs.Common.{◌≡◌, drop}
use Rattle.constraint_set.specs.Ends.{first_branch}
use Rattle.constraint_set.proofs.overlap.named_branch.Given as goal

abbrev pub invariant-loop-comparison : goal.invariant-loop-comparison
invariant-loop-comparison l = first_branch (drop l.comparison-index l.comparisons) ≡ first_branch l.comparisons
