use Rattle.std.proofs.Common.{◌≡◌, ◌≤◌, length}
use Rattle.table_scan.specs.TableTokens.{tokens}
use Rattle.table_scan.proofs.gap.after_gaps.Given as goal

abbrev pub invariant-loop-after : goal.invariant-loop-after
invariant-loop-after l = record {
  same : tokens l.rest ≡ tokens l.fn.text;
  within : length l.rest ≤ length l.fn.text;
}

abbrev pub decreases-loop-after : goal.decreases-loop-after
decreases-loop-after l = length l.rest
