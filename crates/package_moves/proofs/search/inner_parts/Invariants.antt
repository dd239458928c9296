use Rattle.std.proofs.Common.{◌≡◌, filter_map, take}
use Rattle.package_moves.specs.Joined.{inner_below}
use Rattle.package_moves.proofs.search.inner_parts.Given as goal

abbrev pub invariant-loop-part : goal.invariant-loop-part
invariant-loop-part l = l.inner.items ≡ filter_map (inner_below l.folder) (take l.part-index l.wanted)
