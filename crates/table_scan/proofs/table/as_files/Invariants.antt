use Rattle.std.proofs.Common.{◌≡◌, map}
use Rattle.table_scan.specs.TableFaults.{file_row}
use Rattle.table_scan.proofs.table.as_files.Given as goal

abbrev pub invariant-loop-row : goal.invariant-loop-row
invariant-loop-row l = l.files.items ≡ map file_row l.yielded
