use Rattle.std.proofs.Common.{take}
use Rattle.package_moves.specs.Needed.{AreSameNeeds, needs_in, needs_of}
use Rattle.package_moves.proofs.needed.Needed.of.Given as goal

abbrev pub invariant-loop-part : goal.invariant-loop-part
invariant-loop-part l = AreSameNeeds (needs_in l.needed) (needs_of (take l.part-index l.wanted))
