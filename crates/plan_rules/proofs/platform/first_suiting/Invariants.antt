use Rattle.std.proofs.Common.{◌≡◌, map, find, drop}
use Rattle.plan_rules.specs.Breaking.{suits}
use Rattle.plan_rules.proofs.platform.first_suiting.Given as goal

abbrev pub invariant-loop-row : goal.invariant-loop-row
invariant-loop-row l = find (suits l.link) (map (λ row. row.now) (drop l.row-index l.rows)) ≡ find (suits l.link) (map (λ row. row.now) l.rows)
