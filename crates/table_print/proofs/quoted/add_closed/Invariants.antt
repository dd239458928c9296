use Rattle.std.proofs.Common.{◌≡◌, ◌++◌, length}
use Rattle.table_scan.specs.QuotedTexts.{escaped}
use Rattle.table_print.proofs.quoted.add_closed.Given as goal

abbrev pub invariant-loop-byte : goal.invariant-loop-byte
invariant-loop-byte l = l.out.items ++ escaped l.rest ≡ l.fn.out.items ++ escaped l.fn.text

abbrev pub decreases-loop-byte : goal.decreases-loop-byte
decreases-loop-byte l = length l.rest
