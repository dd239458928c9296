use Rattle.std.proofs.Common.{◌≡◌, ℕ, length, []}
use Rattle.class_lookup.specs.Groups.{group_at}
use Rattle.class_lookup.proofs.groups.empty_groups.Given as goal

abbrev pub invariant-loop : goal.invariant-loop
invariant-loop l = record {
  count : length l.groups.items ≡ l.counter;
  each : (len : ℕ) → group_at l.groups.items len ≡ [];
}
