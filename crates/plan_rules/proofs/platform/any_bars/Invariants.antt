use Rattle.std.proofs.Common.{◌≡◌, map, not, drop}
use Rattle.std.specs.List.{list_any}
use Rattle.plan_rules.specs.Breaking.{suits}
use Rattle.plan_rules.proofs.platform.any_bars.Given as goal

abbrev pub invariant-loop-row : goal.invariant-loop-row
invariant-loop-row l = list_any (λ row. not (suits l.link row)) (map (λ row. row.now) (drop l.row-index l.rows)) ≡ list_any (λ row. not (suits l.link row)) (map (λ row. row.now) l.rows)
