use Rattle.std.proofs.Common.{take, All}
use Rattle.table_print.specs.Printable.{IsBelow}
use Rattle.table_print.proofs.below.paths_lie_below.Given as goal

abbrev pub invariant-loop-path : goal.invariant-loop-path
invariant-loop-path l = All (IsBelow l.project) (take l.path-index l.paths)
