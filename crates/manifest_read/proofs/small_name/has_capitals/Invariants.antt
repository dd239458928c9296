use Rattle.std.proofs.Common.{◌≡◌, take}
use Rattle.path_name.specs.Bytes.{lowered}
use Rattle.manifest_read.proofs.small_name.has_capitals.Given as goal

abbrev pub invariant-loop-byte : goal.invariant-loop-byte
invariant-loop-byte l = lowered (take l.byte-index l.text) ≡ take l.byte-index l.text
