use Rattle.std.proofs.Common.{◌≡◌, ℕ, List, [], map}
use Rattle.std.specs.BTreeMap.{get}
use Rattle.path_name.specs.Orders.{byte_cmp}
use Rattle.table_scan.specs.Repeats.{place_of}
use Rattle.table_scan.specs.TableGrammar as grammar
use Rattle.table_scan.proofs.repeats.put_all.Given as goal

abbrev pub invariant-loop-row : goal.invariant-loop-row
invariant-loop-row g l = record {
  kept : l.kept.items ≡ grammar.put_all g.R.Keyed.key_of [] l.yielded;
  places : (key : List ℕ) → get byte_cmp l.places key ≡ place_of key (map g.R.Keyed.key_of l.kept.items);
}
