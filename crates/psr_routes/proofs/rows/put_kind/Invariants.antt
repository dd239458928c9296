use Rattle.std.proofs.Common.{◌≡◌, ◌++◌, take}
use Rattle.psr_routes.specs.Sources.{seen, rows_by}
use Rattle.psr_routes.proofs.rows.put_kind.Given as goal

abbrev pub invariant-loop-source : goal.invariant-loop-source
invariant-loop-source l = l.rows.items ≡ l.fn.rows.items ++ rows_by l.kind (seen (take l.source-index l.sources))
