use Rattle.std.proofs.Common.{◌≡◌, ◌++◌, take, All}
use Rattle.std.specs.List.{flat_map}
use Rattle.table_scan.specs.declared.types.TableFile.TheVariants as files
use Rattle.table_print.specs.TablePrinting.{file_row_text}
use Rattle.table_print.specs.Parts.{table_start, HasFileSegments}
use Rattle.table_print.proofs.printing.file_text.Given as goal

abbrev pub invariant-loop-row : goal.invariant-loop-row
invariant-loop-row l = record {
  text : l.out.items ≡ table_start files.Files ++ flat_map (file_row_text l.roots.project.now) (take l.row-index l.rows);
  segments : All HasFileSegments (take l.row-index l.rows);
}
