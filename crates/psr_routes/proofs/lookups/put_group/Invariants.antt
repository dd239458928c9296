use Rattle.std.proofs.Common.{◌≡◌, ◌++◌, map, take}
use Rattle.class_paths.specs.RowPath.{row_path_of}
use Rattle.psr_routes.proofs.lookups.put_group.Given as goal

abbrev pub invariant-loop-row : goal.invariant-loop-row
invariant-loop-row l = l.paths.items ≡ l.fn.paths.items ++ map (λ row. row_path_of row l.name) (map (λ row. row.now) (take l.row-index l.group))
