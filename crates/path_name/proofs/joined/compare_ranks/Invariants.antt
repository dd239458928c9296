use Rattle.std.proofs.Common.{◌≡◌, drop}
use Rattle.path_name.specs.Joined.{joined_cmp}
use Rattle.path_name.proofs.joined.compare_ranks.Given as goal

abbrev pub invariant-loop-i : goal.invariant-loop-i
invariant-loop-i l = joined_cmp (drop l.i l.a) (drop l.i l.b) ≡ joined_cmp l.a l.b
