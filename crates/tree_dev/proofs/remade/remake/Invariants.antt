use Rattle.tree_dev.proofs.Remaking.{IsOnWay}
use Rattle.tree_dev.proofs.remade.remake.Given as goal

abbrev pub invariant-loop-step : goal.invariant-loop-step
invariant-loop-step l = IsOnWay l.steps l.step-index l.disk
