use Rattle.tree_dev.proofs.SteadyRules.{steadily, steady_then_steady}
use Rattle.tree_dev.proofs.disk_loops.copy_all.Goals as goal

pub loop-to-init : goal.loop-to-init
loop-to-init g c = search steadily

pub returns-in_err-copy_one : goal.returns-in_err-copy_one
returns-in_err-copy_one g c = search (steady_then_steady, c.copy_one.ensures, c.loop-to.invariant)

pub returns-then-not-branch : goal.returns-then-not-branch
returns-then-not-branch g c = search (steady_then_steady, c.copy_one.ensures, c.loop-to.invariant)

pub loop-to-preserved : goal.loop-to-preserved
loop-to-preserved g c = search (steady_then_steady, c.copy_one.ensures, c.loop-to.invariant)

pub returns-in_err-barrier : goal.returns-in_err-barrier
returns-in_err-barrier g c = search (steadily, c.barrier.ensures.moments, c.loop-to.invariant)

pub returns : goal.returns
returns g c = search (steadily, c.barrier.ensures.moments, c.loop-to.invariant)
