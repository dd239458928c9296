use Rattle.std.proofs.Common.{◌≡◌, ℕ, List, map, take}
use Rattle.std.specs.List.{list_any}
use Rattle.std.specs.BTreeSet.{contains}
use Rattle.path_name.specs.Orders.{path_cmp, paths_are_equal}
use Rattle.autoload_build.specs.BuiltTables.{first_of_each}
use Rattle.autoload_build.specs.Steps.{lent}
use Rattle.autoload_build.proofs.prefixes.folders_of.Given as goal

abbrev pub invariant-loop-route : goal.invariant-loop-route
invariant-loop-route l = record {
  folders : l.folders.items ≡ first_of_each paths_are_equal (map (λ row. row.folder) (lent (take l.route-index l.group)));
  seen : (path : List (List ℕ)) → contains path_cmp l.seen path ≡ list_any (paths_are_equal path) l.folders.items;
}
