use Rattle.std.proofs.Common.{◌≡◌, [], length}
use Rattle.table_scan.specs.Keys.{allows}
use Rattle.table_scan.specs.TableTokens.{tokens}
use Rattle.table_scan.specs.TableFaults.{prefix_row}
use Rattle.table_scan.specs.TableReading.{front_from, folders_next, At_array, table_next, At_row}
use Rattle.table_scan.proofs.rows.prefix_rows.Given as goal

abbrev pub invariant-loop-behind : goal.invariant-loop-behind
invariant-loop-behind l =
    front_from (table_next (allows l.fn.keys) prefix_row At_array (folders_next l.fn.roots.project.now)) (At_row l.rows.items) (tokens l.rest) ≡ front_from (table_next (allows l.fn.keys) prefix_row At_array (folders_next l.fn.roots.project.now)) (At_row []) (tokens l.fn.text)

abbrev pub decreases-loop-behind : goal.decreases-loop-behind
decreases-loop-behind l = length l.rest
