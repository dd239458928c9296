use Rattle.std.proofs.Common.{◌≡◌, ◌++◌, ◌∷◌, drop}
use Rattle.package_moves.specs.Joined.{left_outside, vendor_part}
use Rattle.package_moves.proofs.search.whole_parts.Given as goal

abbrev pub invariant-loop-number : goal.invariant-loop-number
invariant-loop-number l = l.parts.items ++ left_outside (drop l.number l.wanted) (drop l.number l.standing) ≡ vendor_part l.wanted ∷ left_outside l.wanted l.standing
