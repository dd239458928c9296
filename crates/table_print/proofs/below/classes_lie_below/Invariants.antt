use Rattle.std.proofs.Common.{take, All}
use Rattle.table_print.specs.Printable.{HasClassBelow}
use Rattle.table_print.proofs.below.classes_lie_below.Given as goal

abbrev pub invariant-loop-row : goal.invariant-loop-row
invariant-loop-row l = All (HasClassBelow l.project) (take l.row-index l.rows)
