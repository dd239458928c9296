use Rattle.std.proofs.Common.{◌≡◌, ◌++◌, map, take}
use Rattle.class_paths.specs.PathTexts.{parted}
use Rattle.class_paths.proofs.row_places.push_parted.Given as goal

abbrev pub invariant-loop-byte : goal.invariant-loop-byte
invariant-loop-byte l = l.text.items ≡ l.fn.text.items ++ map parted (take l.byte-index l.bytes)
