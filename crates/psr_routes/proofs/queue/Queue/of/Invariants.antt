use Rattle.psr_routes.specs.Waiting.{Holds}
use Rattle.psr_routes.proofs.queue.Queue.of.Given as goal

abbrev pub invariant-loop-place : goal.invariant-loop-place
invariant-loop-place l = Holds l.needs l.queue l.place
