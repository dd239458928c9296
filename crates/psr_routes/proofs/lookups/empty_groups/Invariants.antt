use Rattle.std.proofs.Common.{◌≡◌, ℕ, length, []}
use Rattle.psr_routes.specs.Groups.{group_at}
use Rattle.psr_routes.proofs.lookups.empty_groups.Given as goal

abbrev pub invariant-loop : goal.invariant-loop
invariant-loop l = record {
  count : length l.groups.items ≡ l.counter;
  each : (len : ℕ) → group_at l.groups.items len ≡ [];
}
