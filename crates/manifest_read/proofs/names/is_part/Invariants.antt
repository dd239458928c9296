use Rattle.std.proofs.Common.{◌≡◌, Some, drop}
use Rattle.manifest_read.specs.Names.{is_part, is_part_from}
use Rattle.manifest_read.proofs.names.is_part.Given as goal

abbrev pub invariant-loop-byte : goal.invariant-loop-byte
invariant-loop-byte l = is_part_from l.double (Some l.reached) (drop l.byte-index l.text) ≡ is_part l.double l.text
