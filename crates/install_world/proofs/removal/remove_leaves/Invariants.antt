use Rattle.std.proofs.Common.{false}
use Rattle.tree_dev.specs.Device.{OfTold}
use Rattle.install_world.proofs.LeavesGone.{RemovesFirst}
use Rattle.install_world.specs.Removals.{Removes, WritesNone}
use Rattle.install_world.proofs.removal.remove_leaves.Given as goal

abbrev pub invariant-loop-name : goal.invariant-loop-name
invariant-loop-name g l =
    let meaning = g.T.Tree.meaning in
    record {
      writes_none : WritesNone (meaning l.fn.tree) (meaning l.tree) false;
      removes : Removes l.fn.at (meaning l.fn.tree) (meaning l.tree);
      first : OfTold (meaning l.fn.tree) (λ t. OfTold (meaning l.tree) (RemovesFirst l.fn.at l.fn.folder l.name-items l.name-index l.fn.ahead.items l.ahead.items t));
    }
