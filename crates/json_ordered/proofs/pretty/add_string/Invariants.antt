use Rattle.std.proofs.Common.{◌≡◌, ◌∷◌, [], ◌++◌, length}
use Rattle.std.specs.List.{flat_map}
use Rattle.json_ordered.specs.JsonTexts.{pretty_byte}
use Rattle.json_ordered.proofs.pretty.add_string.Given as goal

abbrev pub invariant-loop-byte : goal.invariant-loop-byte
invariant-loop-byte l = l.out.items ++ flat_map pretty_byte l.rest ≡ (l.fn.out.items ++ 34 ∷ []) ++ flat_map pretty_byte l.fn.text

abbrev pub decreases-loop-byte : goal.decreases-loop-byte
decreases-loop-byte l = length l.rest
