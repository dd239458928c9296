use Rattle.std.proofs.Common.{◌≡◌, ◌++◌, length}
use Rattle.psr_routes.specs.PackageOrder.{ordered}
use Rattle.psr_routes.specs.Sources.{seen, rules_below}
use Rattle.psr_routes.proofs.rows.put_members.Given as goal

abbrev pub invariant-loop-at : goal.invariant-loop-at
invariant-loop-at l = seen l.sources.items ++ rules_below (ordered l.members) l.at ≡ seen l.fn.sources.items ++ rules_below (ordered l.members) (length l.order)
