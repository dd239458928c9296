use Rattle.std.proofs.Common.{◌≡◌, false}
use Rattle.std.specs.Ordering.{is_gt}
use Rattle.path_name.specs.Orders.{path_cmp}
use Rattle.tree_dev.specs.Moves.{Carries}
use Rattle.tree_dev.proofs.Walking.{AreBefore, left_from}
use Rattle.tree_dev.proofs.renaming.carried_below.Given as goal

abbrev pub invariant-loop-path : goal.invariant-loop-path
invariant-loop-path l = record {
  carries : Carries l.fn.files l.fn.from l.fn.to l.carried.left.items l.carried.arrived.items;
  before : AreBefore l.fn.files l.fn.from l.at l.carried.left.items;
  low : is_gt (path_cmp l.fn.from l.at) ≡ false;
}

abbrev pub decreases-loop-path : goal.decreases-loop-path
decreases-loop-path l = left_from l.fn.files l.at
