use Rattle.std.proofs.Common.{◌≡◌, ◌+◌, ◌≤◌, ◌-◌, length, drop}
use Rattle.std.specs.List.{prefix_len}
use Rattle.autoload_build.specs.Steps.{has_prefix}
use Rattle.autoload_build.proofs.prefixes.run_len.Given as goal

abbrev pub invariant-loop-len : goal.invariant-loop-len
invariant-loop-len l = record {
  within : l.len ≤ length l.routes;
  rest : l.len + prefix_len (has_prefix l.prefix) (drop l.len l.routes) ≡ prefix_len (has_prefix l.prefix) l.routes;
}

abbrev pub decreases-loop-len : goal.decreases-loop-len
decreases-loop-len l = length l.routes - l.len
