use Rattle.std.proofs.Common.{◌≡◌, ◌++◌, length}
use Rattle.psr_routes.specs.Groups.{paths_below}
use Rattle.psr_routes.proofs.lookups.put_groups.Given as goal

abbrev pub invariant-loop-len : goal.invariant-loop-len
invariant-loop-len l = l.paths.items ++ paths_below l.groups l.name l.len ≡ l.fn.paths.items ++ paths_below l.groups l.name (length l.groups)
