use Rattle.tree_dev.specs.Steady.{HasAt}
use Rattle.tree_dev.proofs.Stretches.{through_then_through}
use Rattle.tree_dev.proofs.Whole.{throughout}
use Rattle.tree_dev.proofs.disk_loops.move_all.Goals as goal

pub loop-at-init : goal.loop-at-init
loop-at-init g c = record { whole = c.requires.whole; through = λ entry each. search (throughout, each) }

pub returns-in_err-move_one : goal.returns-in_err-move_one
returns-in_err-move_one g c = record {
  through = λ entry each. through_then_through (HasAt c.args.kept.now entry) _ _ _ (c.move_one.ensures.through entry) (c.loop-at.invariant.through entry each);
}

pub returns-then-not-branch : goal.returns-then-not-branch
returns-then-not-branch g c = record {
  through = λ entry each. through_then_through (HasAt c.args.kept.now entry) _ _ _ (c.move_one.ensures.through entry) (c.loop-at.invariant.through entry each);
}

pub loop-at-preserved : goal.loop-at-preserved
loop-at-preserved g c = record {
  whole = c.move_one.ensures.whole;
  through = λ entry each. through_then_through (HasAt c.args.kept.now entry) _ _ _ (c.move_one.ensures.through entry) (c.loop-at.invariant.through entry each);
}

pub returns : goal.returns
returns g c = record {
  through = λ entry each. search (throughout, c.barrier.ensures.moments, c.loop-at.invariant.through entry each);
}
