use Rattle.std.proofs.Common.{◌≡◌, ◌++◌, ◌≤◌, length}
use Rattle.tree_dev.specs.Trees.{names_in}
use Rattle.tree_dev.specs.Listing.{IsNameOrNothing}
use Rattle.tree_dev.proofs.NamesIn.{names_after}
use Rattle.tree_dev.proofs.listing.names.Given as goal

abbrev pub invariant-loop-last : goal.invariant-loop-last
invariant-loop-last l = record {
  items : l.names.items ++ names_after l.last (names_in l.fn.files l.fn.folder) ≡ names_in l.fn.files l.fn.folder;
  last : IsNameOrNothing l.last;
  few : length l.names.items ≤ l.most;
}

abbrev pub decreases-loop-last : goal.decreases-loop-last
decreases-loop-last l = length (names_after l.last (names_in l.fn.files l.fn.folder))
