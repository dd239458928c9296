use Rattle.std.proofs.Common.{◌≡◌, map, length}
use Rattle.std.specs.declared.cmp.Ordering.TheVariants.{Less}
use Rattle.table_scan.specs.Repeats.{are_strict, are_strict_behind}
use Rattle.table_scan.proofs.repeats.rise.Given as goal

abbrev pub invariant-loop-next : goal.invariant-loop-next
invariant-loop-next l = are_strict_behind Less l.last (map (λ key. key.now) l.rest) ≡ are_strict Less (map (λ key. key.now) l.fn.keys)

abbrev pub decreases-loop-next : goal.decreases-loop-next
decreases-loop-next l = length l.rest
