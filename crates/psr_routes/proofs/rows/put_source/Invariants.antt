use Rattle.std.proofs.Common.{◌≡◌, ◌++◌, take}
use Rattle.std.specs.List.{flat_map}
use Rattle.psr_routes.specs.Routes.{rows_of_prefix, prefixes_of}
use Rattle.psr_routes.proofs.rows.put_source.Given as goal

abbrev pub invariant-loop-dirs : goal.invariant-loop-dirs
invariant-loop-dirs l = l.rows.items ≡ l.fn.rows.items ++ flat_map (rows_of_prefix l.kind l.folder) (take l.dirs-index (prefixes_of l.kind l.rules))
