use Rattle.std.proofs.Common.{◌≡◌, ◌++◌, drop}
use Rattle.class_lookup.specs.Lookup.{psr0_candidates}
use Rattle.class_lookup.proofs.tried.put_psr0.Given as goal

abbrev pub invariant-loop-row : goal.invariant-loop-row
invariant-loop-row l = l.paths.items ++ psr0_candidates (drop l.row-index l.rows) l.name ≡ l.fn.paths.items ++ psr0_candidates l.rows l.name
