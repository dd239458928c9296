use Rattle.std.proofs.Common.{◌≡◌, ◌≤◌, length}
use Rattle.table_scan.specs.TableTokens.{behind_block}
use Rattle.table_scan.proofs.gap.behind_block.Given as goal

abbrev pub invariant-loop-star : goal.invariant-loop-star
invariant-loop-star l = record {
  same : behind_block l.rest ≡ behind_block l.fn.text;
  within : length l.rest ≤ length l.fn.text;
}

abbrev pub decreases-loop-star : goal.decreases-loop-star
decreases-loop-star l = length l.rest
