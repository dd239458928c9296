use Rattle.std.proofs.Common.{◌≡◌, ◌+◌, ◌-◌, ◌≤◌, length, drop}
use Rattle.std.specs.List.{prefix_len}
use Rattle.json_ordered.proofs.scan.run_len_from.Given as goal

abbrev pub invariant-loop-len : goal.invariant-loop-len
invariant-loop-len g l = record {
  same : l.from + prefix_len g.T.ByteTest.passes (drop l.from l.text) ≡ l.len + prefix_len g.T.ByteTest.passes (drop l.len l.text);
  within : l.len ≤ length l.text;
}

abbrev pub decreases-loop-len : goal.decreases-loop-len
decreases-loop-len g l = length l.text - l.len
