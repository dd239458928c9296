use Rattle.std.proofs.Common.{◌≡◌, ◌++◌, take, All}
use Rattle.path_name.specs.Paths.{IsPath}
use Rattle.table_print.specs.TablePrinting.{folders_text}
use Rattle.table_print.proofs.rows.add_folders.Given as goal

abbrev pub invariant-loop-i : goal.invariant-loop-i
invariant-loop-i l = record {
  text : l.out.items ≡ l.fn.out.items ++ folders_text l.roots.project.now (take l.i l.folders);
  segments : All IsPath (take l.i l.folders);
}
