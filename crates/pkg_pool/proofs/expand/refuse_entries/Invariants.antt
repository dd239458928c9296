use Rattle.std.proofs.Common.{◌≡◌, false, drop}
use Rattle.tree_dev.specs.Device.{OnlyRead, OfTold}
use Rattle.pkg_pool.specs.Patterns.{none_is_there}
use Rattle.pkg_pool.proofs.expand.refuse_entries.Given as goal

abbrev pub invariant-loop-path : goal.invariant-loop-path
invariant-loop-path g l = record {
  only : OnlyRead (g.T.Tree.meaning l.fn.tree) (g.T.Tree.meaning l.tree) false;
  told : OfTold (g.T.Tree.meaning l.fn.tree) (λ t. none_is_there t l.origin (drop l.path-index l.paths) ≡ none_is_there t l.origin l.paths);
}
