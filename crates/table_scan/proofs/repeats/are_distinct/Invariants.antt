use Rattle.std.proofs.Common.{◌≡◌, map, take}
use Rattle.table_scan.proofs.repeats.are_distinct.Given as goal

abbrev pub invariant-loop-row : goal.invariant-loop-row
invariant-loop-row g l = map (λ key. key.now) l.keys.items ≡ map g.R.Keyed.key_of (take l.row-index l.rows)
