use Rattle.std.proofs.Common.{◌≡◌, ◌≤◌, length}
use Rattle.table_scan.specs.TableTokens.{in_front, unquoted}
use Rattle.table_scan.proofs.quoted.closed_text.Given as goal

abbrev pub invariant-loop-bytes : goal.invariant-loop-bytes
invariant-loop-bytes l = record {
  so_far : in_front l.bytes.items (unquoted l.rest) ≡ unquoted l.fn.text;
  within : length l.rest ≤ length l.fn.text;
}

abbrev pub decreases-loop-bytes : goal.decreases-loop-bytes
decreases-loop-bytes l = length l.rest
