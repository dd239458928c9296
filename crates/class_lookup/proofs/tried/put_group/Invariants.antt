use Rattle.std.proofs.Common.{◌≡◌, ◌++◌, drop, map}
use Rattle.class_paths.specs.declared.types.RouteKind.TheVariants.{Psr4}
use Rattle.class_lookup.specs.Groups.{in_rows}
use Rattle.class_lookup.proofs.tried.put_group.Given as goal

abbrev pub invariant-loop-row : goal.invariant-loop-row
invariant-loop-row l = l.paths.items ++ in_rows Psr4 (map (λ row. row.now) (drop l.row-index l.group)) l.name ≡ l.fn.paths.items ++ in_rows Psr4 (map (λ row. row.now) l.group) l.name
