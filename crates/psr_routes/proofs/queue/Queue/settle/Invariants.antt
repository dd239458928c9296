use Rattle.std.proofs.Common.{◌≡◌, length}
use Rattle.psr_routes.specs.Waiting.{Waits}
use Rattle.psr_routes.proofs.queue.Queue.settle.Given as goal

abbrev pub invariant-loop-place : goal.invariant-loop-place
invariant-loop-place l = record {
  waits : Waits l.needs l.self l.self.unseen.items;
  rest : l.self.rest ≡ l.fn.self.rest;
}

abbrev pub decreases-loop-place : goal.decreases-loop-place
decreases-loop-place l = length l.self.unseen.items
