use Rattle.std.proofs.Common.{◌≡◌, drop}
use Rattle.path_name.specs.Bytes.{lowered}
use Rattle.path_name.specs.Orders.{byte_cmp}
use Rattle.manifest_read.proofs.small_name.compare_lowered.Given as goal

abbrev pub invariant-loop-byte : goal.invariant-loop-byte
invariant-loop-byte l = byte_cmp (lowered (drop l.byte-index l.a)) (lowered l.rest) ≡ byte_cmp (lowered l.a) (lowered l.b)
