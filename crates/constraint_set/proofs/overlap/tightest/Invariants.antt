use Rattle.std.proofs.Common.{◌≡◌, drop}
use Rattle.std.specs.Option.{option_map}
use Rattle.constraint_set.specs.Ends.{limit_of, tightest_of}
use Rattle.constraint_set.proofs.overlap.tightest.Given as goal

abbrev pub invariant-loop-comparison : goal.invariant-loop-comparison
invariant-loop-comparison l = tightest_of l.side (option_map limit_of l.end) (drop l.comparison-index l.comparisons) ≡ tightest_of l.side (option_map limit_of l.fn.so_far) l.comparisons
