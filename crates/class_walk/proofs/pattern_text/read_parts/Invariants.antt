use Rattle.std.proofs.Common.{◌≡◌, ◌++◌, length}
use Rattle.class_walk.specs.Patterns.{parts_of}
use Rattle.class_walk.proofs.pattern_text.read_parts.Given as goal

abbrev pub invariant-loop-byte : goal.invariant-loop-byte
invariant-loop-byte l = l.parts.items ++ parts_of l.rest ≡ parts_of l.text

abbrev pub decreases-loop-byte : goal.decreases-loop-byte
decreases-loop-byte l = length l.rest
