use Rattle.std.proofs.Common.{◌≡◌, ◌≤◌, ◌-◌, List, length, drop}
use Rattle.std.specs.Borrow.{Bor}
use Rattle.class_paths.specs.declared.types.Route.{Route}
use Rattle.autoload_build.specs.Jobs.{by_falling_key}
use Rattle.autoload_build.specs.Steps.{lent_prefix}
use Rattle.autoload_build.proofs.PrefixRows.{IsBuilt}
use Rattle.autoload_build.proofs.prefixes.rows_of_runs.Given as goal

abbrev pub invariant-loop-at : goal.invariant-loop-at
invariant-loop-at l = record {
  within : l.at ≤ length l.routes;
  built : (before : List (Bor Route)) → l.routes ≡ by_falling_key lent_prefix before → IsBuilt before (drop l.at l.routes) l.table.items;
}

abbrev pub decreases-loop-at : goal.decreases-loop-at
decreases-loop-at l = length l.routes - l.at
