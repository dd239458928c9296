use Rattle.std.proofs.Common.{◌≡◌, ℕ, ◌+◌, ◌≤◌, length, take}
use Rattle.class_paths.specs.Candidates.{of_kind, rows_at}
use Rattle.psr_routes.specs.Groups.{group_at}
use Rattle.psr_routes.proofs.lookups.groups_of.Given as goal

abbrev pub invariant-loop-row : goal.invariant-loop-row
invariant-loop-row l = record {
  count : length l.groups.items ≡ length l.name + 1;
  each : (len : ℕ) → len ≤ length l.name → group_at l.groups.items len ≡ rows_at (of_kind l.kind (take l.row-index l.rows)) l.name len;
}
