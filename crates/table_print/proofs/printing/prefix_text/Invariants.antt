use Rattle.std.proofs.Common.{◌≡◌, ◌++◌, take, All}
use Rattle.std.specs.List.{flat_map}
use Rattle.table_print.specs.TablePrinting.{prefix_row_text}
use Rattle.table_print.specs.Parts.{table_start, HasSegments}
use Rattle.table_print.proofs.printing.prefix_text.Given as goal

abbrev pub invariant-loop-row : goal.invariant-loop-row
invariant-loop-row l = record {
  text : l.out.items ≡ table_start l.fn.file ++ flat_map (prefix_row_text l.roots.project.now) (take l.row-index l.rows);
  segments : All HasSegments (take l.row-index l.rows);
}
