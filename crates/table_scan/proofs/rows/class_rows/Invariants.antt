use Rattle.std.proofs.Common.{◌≡◌, [], length}
use Rattle.table_scan.specs.TableTokens.{tokens}
use Rattle.table_scan.specs.TableGrammar.{is_any}
use Rattle.table_scan.specs.TableFaults.{class_row}
use Rattle.table_scan.specs.TableReading.{front_from, path_next, At_root, table_next, At_row}
use Rattle.table_scan.proofs.rows.class_rows.Given as goal

abbrev pub invariant-loop-behind : goal.invariant-loop-behind
invariant-loop-behind l =
    front_from (table_next is_any class_row At_root (path_next l.fn.roots.project.now)) (At_row l.rows.items) (tokens l.rest) ≡ front_from (table_next is_any class_row At_root (path_next l.fn.roots.project.now)) (At_row []) (tokens l.fn.text)

abbrev pub decreases-loop-behind : goal.decreases-loop-behind
decreases-loop-behind l = length l.rest
