use Rattle.std.proofs.Common.{◌≡◌, ℕ, ◌+◌, ◌≤◌, length, take}
use Rattle.class_lookup.specs.Groups.{table_rows_at, group_at}
use Rattle.class_lookup.proofs.groups.groups_of.Given as goal

abbrev pub invariant-loop-row : goal.invariant-loop-row
invariant-loop-row l = record {
  count : length l.groups.items ≡ length l.name + 1;
  each : (len : ℕ) → len ≤ length l.name → group_at l.groups.items len ≡ table_rows_at (take l.row-index l.rows) l.name len;
}
