use Rattle.std.proofs.Common.{◌≡◌, ◌++◌, drop}
use Rattle.pkg_pool.specs.Patterns.{fixed_part, wild_part}
use Rattle.pkg_pool.proofs.expand.enter_fixed.Given as goal

abbrev pub invariant-loop-at : goal.invariant-loop-at
invariant-loop-at l = record {
  entered : l.folder ++ fixed_part (drop l.at l.segments) ≡ l.fn.folder ++ fixed_part l.segments;
  rest : wild_part (drop l.at l.segments) ≡ wild_part l.segments;
}
