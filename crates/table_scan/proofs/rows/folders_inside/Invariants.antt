use Rattle.std.proofs.Common.{◌≡◌, ◌≤◌, [], length}
use Rattle.table_scan.specs.TableTokens.{tokens}
use Rattle.table_scan.specs.TableReading.{front_from, folders_next, At_folder}
use Rattle.table_scan.proofs.rows.folders_inside.Given as goal

abbrev pub invariant-loop-behind : goal.invariant-loop-behind
invariant-loop-behind l = record {
  so_far : front_from (folders_next l.fn.roots.project.now) (At_folder l.folders.items) (tokens l.rest) ≡ front_from (folders_next l.fn.roots.project.now) (At_folder []) (tokens l.fn.text);
  within : length l.rest ≤ length l.fn.text;
}

abbrev pub decreases-loop-behind : goal.decreases-loop-behind
decreases-loop-behind l = length l.rest
