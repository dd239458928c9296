use Rattle.std.proofs.Common.{◌≡◌, ◌≤◌, false, drop}
use Rattle.tree_dev.specs.Device.{OnlyRead, OfTold}
use Rattle.pkg_pool.specs.Patterns.{pattern_expanded}
use Rattle.pkg_pool.proofs.expand.pattern_expanded.Given as goal

abbrev pub invariant-loop-segment : goal.invariant-loop-segment
invariant-loop-segment g l = record {
  only : OnlyRead (g.T.Tree.meaning l.fn.tree) (g.T.Tree.meaning l.tree) false;
  falls : l.left.left ≤ l.fn.left.left;
  told : OfTold (g.T.Tree.meaning l.fn.tree) (λ t. pattern_expanded t l.origin (drop l.segment-index l.pattern) (record { paths = l.folders.items; left = l.left.left })
      ≡ pattern_expanded t l.origin l.pattern (record { paths = l.fn.folders.items; left = l.fn.left.left }));
}
