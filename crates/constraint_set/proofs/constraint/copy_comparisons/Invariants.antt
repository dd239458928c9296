use Rattle.std.proofs.Common.{◌≡◌, take}
use Rattle.constraint_set.proofs.constraint.copy_comparisons.Given as goal

abbrev pub invariant-loop-comparison : goal.invariant-loop-comparison
invariant-loop-comparison l = l.copies.items ≡ take l.comparison-index l.comparisons
