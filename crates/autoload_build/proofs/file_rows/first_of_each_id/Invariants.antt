use Rattle.std.proofs.Common.{◌≡◌, ℕ, List}
use Rattle.std.specs.List.{list_any}
use Rattle.std.specs.BTreeSet.{contains}
use Rattle.path_name.specs.Orders.{byte_cmp, bytes_are_equal}
use Rattle.autoload_build.specs.BuiltTables.{first_of_each}
use Rattle.autoload_build.specs.Steps.{has_same_id}
use Rattle.autoload_build.proofs.file_rows.first_of_each_id.Given as goal

abbrev pub invariant-loop-row : goal.invariant-loop-row
invariant-loop-row l = record {
  kept : l.kept.items ≡ first_of_each has_same_id l.yielded;
  known : (id : List ℕ) → contains byte_cmp l.known id ≡ list_any (λ row. bytes_are_equal id row.id) l.kept.items;
}
