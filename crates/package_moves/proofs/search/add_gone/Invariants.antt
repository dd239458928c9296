use Rattle.std.proofs.Common.{◌≡◌, ◌++◌, map, take}
use Rattle.package_moves.specs.Needed.{gone_part}
use Rattle.package_moves.proofs.search.add_gone.Given as goal

abbrev pub invariant-loop-path : goal.invariant-loop-path
invariant-loop-path l = l.parts.items ≡ l.fn.parts.items ++ map gone_part (take l.path-index l.unneeded)
