use Rattle.std.proofs.Common.{◌≡◌, ◌++◌, drop}
use Rattle.manifest_read.specs.Pointers.{escaped}
use Rattle.manifest_read.proofs.pointer.push_token.Given as goal

abbrev pub invariant-loop-byte : goal.invariant-loop-byte
invariant-loop-byte l = l.pointer.items ++ escaped (drop l.byte-index l.token) ≡ l.fn.pointer.items ++ escaped l.token
