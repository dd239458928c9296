use Rattle.std.proofs.Common.{◌≡◌, ℕ, [], length}
use Rattle.psr_routes.specs.Numbers.{list_at}
use Rattle.psr_routes.proofs.queue.empty_lists.Given as goal

abbrev pub invariant-loop : goal.invariant-loop
invariant-loop l = record {
  count : length l.lists.items ≡ l.counter;
  each : (at : ℕ) → list_at l.lists.items at ≡ [];
}
