use Rattle.std.proofs.Common.{◌≤◌, ◌-◌, ◌*◌, ℕ, List, false, length, drop, Result}
use Rattle.tree_dev.specs.Device.{OfTold, OnlyRead}
use Rattle.class_walk.specs.Faults.{Goes}
use Rattle.class_walk.specs.Searches.{names_reached, search_of}
use Rattle.class_walk.specs.Walks.{each_walked}
use Rattle.class_walk.specs.declared.fault.WalkFault.{WalkFault}
use Rattle.class_walk.specs.declared.job.Scanned.{Scanned}
use Rattle.class_walk.proofs.walking.+walk.Given as goal

-- an entry asks for what lies below it, a folder for its names, and a name for its entry
abbrev pub decreases-walk_entry : goal.decreases-walk_entry
decreases-walk_entry g l = 4 * (65 - length l.tail.now)

abbrev pub decreases-walk_folder : goal.decreases-walk_folder
decreases-walk_folder g l = 4 * (65 - length l.tail.now) - 1

abbrev pub decreases-walk_names : goal.decreases-walk_names
decreases-walk_names g l = 4 * (65 - length l.tail.now) - 2

abbrev pub decreases-walk_name : goal.decreases-walk_name
decreases-walk_name g l = 4 * (65 - length l.tail.now) - 3

-- what the names that are left give is what all give
abbrev pub invariant-walk_names-loop-name : goal.invariant-walk_names-loop-name
invariant-walk_names-loop-name g l =
    let meaning = g.T.Tree.meaning in
    record {
      only : OnlyRead (meaning l.fn.tree) (meaning l.tree) false;
      goes : OfTold (meaning l.fn.tree) (λ t. (after : List Scanned) (rest : ℕ) (r : Result (Unit {0}) WalkFault)
          → Goes (each_walked t (search_of l.search) (names_reached t l.search.job.now l.tail (drop l.name-index l.names))) l.walked.found.items l.walked.left after rest r
          → Goes (each_walked t (search_of l.search) (names_reached t l.search.job.now l.tail l.names)) l.fn.walked.found.items l.fn.walked.left after rest r);
      entries : l.walked.left ≤ l.fn.walked.left;
    }
