use Rattle.std.proofs.Common.{◌≡◌, ℕ, ◌-◌, ◌<◌, ◌≤◌, false, length, get_or}
use Rattle.psr_routes.specs.Waiting.{is_awaited}
use Rattle.psr_routes.proofs.queue.Queue.first_awaited.Given as goal

abbrev pub invariant-loop-at : goal.invariant-loop-at
invariant-loop-at l = record {
  from : l.from ≤ l.at;
  within : l.at ≤ length l.required;
  passed : (k : ℕ) → l.from ≤ k → k < l.at → is_awaited l.self.bearers.items l.number (get_or l.required k 0) ≡ false;
}

abbrev pub decreases-loop-at : goal.decreases-loop-at
decreases-loop-at l = length l.required - l.at
