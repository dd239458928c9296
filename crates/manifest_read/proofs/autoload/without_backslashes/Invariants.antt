use Rattle.std.proofs.Common.{◌≡◌, ◌≤◌, ◌+◌, ◌-◌, length, drop}
use Rattle.std.specs.List.{prefix_len}
use Rattle.manifest_read.specs.Autoloads.{is_backslash}
use Rattle.manifest_read.proofs.autoload.without_backslashes.Given as goal

abbrev pub invariant-loop-start : goal.invariant-loop-start
invariant-loop-start l = record {
  within : l.start ≤ length l.text;
  so_far : l.start + prefix_len is_backslash (drop l.start l.text) ≡ prefix_len is_backslash l.text;
}

abbrev pub decreases-loop-start : goal.decreases-loop-start
decreases-loop-start l = length l.text - l.start
