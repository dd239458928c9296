use Rattle.std.proofs.Common.{◌≡◌, ◌++◌}
use Rattle.plan_rules.specs.Ranks.{numbers_of}
use Rattle.plan_rules.proofs.preferred.numbers.Given as goal

abbrev pub invariant-loop-rank : goal.invariant-loop-rank
invariant-loop-rank l = l.list.items ++ numbers_of l.rank-iterator ≡ numbers_of l.ranks.keys
