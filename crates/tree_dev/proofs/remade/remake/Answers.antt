use Rattle.tree_dev.proofs.Remaking.{can_next, on_way_last, on_way_next}
use Rattle.tree_dev.proofs.remade.remake.Goals as goal

pub after-requires : goal.after-requires
after-requires c = can_next c.args.steps.now c.loop-step.step-index c.loop-step.disk c.loop-step.invariant c.step-item.result c.step-item.is c.loop-step-test.true

pub loop-step-preserved : goal.loop-step-preserved
loop-step-preserved c = on_way_next c.args.steps.now c.loop-step.step-index c.loop-step.disk c.loop-step.invariant c.step-item.result c.step-item.is c.loop-step-test.true c.in_ok-disk.disk c.in_ok-disk.ensures

pub returns : goal.returns
returns c = on_way_last c.args.steps.now c.loop-step.step-index c.loop-step.disk c.loop-step.invariant c.loop-step-test.false
