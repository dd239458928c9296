use Rattle.std.proofs.Common.{◌≡◌, ◌++◌, map, take}
use Rattle.class_paths.specs.PathTexts.{slashed}
use Rattle.class_paths.proofs.row_places.push_slashed.Given as goal

abbrev pub invariant-loop-byte : goal.invariant-loop-byte
invariant-loop-byte l = l.text.items ≡ l.fn.text.items ++ map slashed (take l.byte-index l.bytes)
