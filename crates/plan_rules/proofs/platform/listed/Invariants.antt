use Rattle.std.proofs.Common.{◌≡◌, ◌++◌, ℕ, List, map, filter, drop}
use Rattle.path_name.specs.Orders.{bytes_are_equal}
use Rattle.plan_rules.specs.Offers.{rows_at}
use Rattle.plan_rules.proofs.platform.listed.Given as goal

abbrev pub invariant-loop-row : goal.invariant-loop-row
invariant-loop-row l = (name : List ℕ) → map (λ row. row.now) (rows_at l.lists name) ++ filter (λ row. bytes_are_equal row.name name) (drop l.row-index l.rows) ≡ filter (λ row. bytes_are_equal row.name name) l.rows
