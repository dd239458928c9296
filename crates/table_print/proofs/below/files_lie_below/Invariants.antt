use Rattle.std.proofs.Common.{take, All}
use Rattle.table_print.specs.Printable.{HasFileBelow}
use Rattle.table_print.proofs.below.files_lie_below.Given as goal

abbrev pub invariant-loop-row : goal.invariant-loop-row
invariant-loop-row l = All (HasFileBelow l.project) (take l.row-index l.rows)
