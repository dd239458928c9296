use Rattle.std.proofs.Common.{◌≡◌, ℕ, false, length, slice_index_or}
use Rattle.class_walk.proofs.matching.states_at_end.Given as goal

abbrev pub invariant-loop : goal.invariant-loop
invariant-loop l = record {
  long : length l.states.items ≡ l.index;
  each : (k : ℕ) → slice_index_or l.states.items k false ≡ false;
}
