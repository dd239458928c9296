use Rattle.std.proofs.Common.{◌≤◌, ◌-◌, length}
use Rattle.table_scan.proofs.Numbers.{DigitsSoFar}
use Rattle.table_scan.proofs.number.digits_len.Given as goal

abbrev pub invariant-loop-len : goal.invariant-loop-len
invariant-loop-len l = record {
  within : l.len ≤ length l.text;
  most : l.len ≤ 20;
  so_far : DigitsSoFar l.text l.len;
}

abbrev pub decreases-loop-len : goal.decreases-loop-len
decreases-loop-len l = 20 - l.len
