use Rattle.std.proofs.Common.{◌≡◌, map, length}
use Rattle.table_scan.specs.Repeats.{are_strict, are_strict_behind}
use Rattle.table_scan.proofs.repeats.are_strict.Given as goal

abbrev pub invariant-loop-next : goal.invariant-loop-next
invariant-loop-next g l = are_strict_behind l.order l.last (map g.R.Keyed.key_of l.rest) ≡ are_strict l.order (map g.R.Keyed.key_of l.fn.rows)

abbrev pub decreases-loop-next : goal.decreases-loop-next
decreases-loop-next g l = length l.rest
