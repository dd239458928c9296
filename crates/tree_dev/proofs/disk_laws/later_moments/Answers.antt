use Rattle.tree_dev.proofs.Moments.{later_itself, later_on, later_by_change, later_by_barrier, later_moment}
use Rattle.tree_dev.proofs.disk_laws.later_moments.Goals as goal

pub returns : goal.returns
returns c = record {
  itself = later_itself;
  on = later_on;
  change = later_by_change;
  barrier = later_by_barrier;
  number = later_moment;
}
