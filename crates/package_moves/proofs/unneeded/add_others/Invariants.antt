use Rattle.std.proofs.Common.{◌≡◌, ◌++◌, take}
use Rattle.package_moves.specs.Needed.{needs_in, others_in}
use Rattle.package_moves.proofs.unneeded.add_others.Given as goal

abbrev pub invariant-loop-name : goal.invariant-loop-name
invariant-loop-name l = l.unneeded.items ≡ l.fn.unneeded.items ++ others_in (needs_in l.needed) l.folder (take l.name-index l.names)
