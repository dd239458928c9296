use Rattle.std.proofs.Common.{◌≡◌, drop, find, false}
use Rattle.tree_dev.specs.Device.{OnlyRead, OfTold}
use Rattle.class_lookup.specs.Lookup.{has_file}
use Rattle.class_lookup.proofs.search.first_file.Given as goal

abbrev pub invariant-loop-path : goal.invariant-loop-path
invariant-loop-path g l = record {
  only : OnlyRead (g.T.Tree.meaning l.fn.tree) (g.T.Tree.meaning l.tree) false;
  rest : OfTold (g.T.Tree.meaning l.fn.tree) (λ t. find (has_file t) (drop l.path-index l.paths) ≡ find (has_file t) l.paths);
}
