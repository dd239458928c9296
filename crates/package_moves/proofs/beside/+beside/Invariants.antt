use Rattle.std.proofs.Common.{◌≡◌, ◌≤◌, ◌+◌, ◌*◌, false, drop, take}
use Rattle.tree_dev.specs.Device.{OfTold, OnlyRead}
use Rattle.stage_job.specs.Checked.{each_checked, entry_checked}
use Rattle.package_moves.specs.Beside.{AreAlike, IsWalked}
use Rattle.package_moves.specs.Counted.{beside_count, each_count}
use Rattle.package_moves.proofs.beside.+beside.Given as goal

-- an entry asks for the folder that it is, a folder for what is beside it, and that for its names
abbrev pub decreases-walk_entry : goal.decreases-walk_entry
decreases-walk_entry g l = 4 * l.levels

abbrev pub decreases-walk_folder : goal.decreases-walk_folder
decreases-walk_folder g l = 4 * l.levels + 3

abbrev pub decreases-walk_listed : goal.decreases-walk_listed
decreases-walk_listed g l = 4 * l.levels + 2

abbrev pub decreases-walk_names : goal.decreases-walk_names
decreases-walk_names g l = 4 * l.levels + 1

-- what is wanted is what is wanted of the names that are left; those so far are counted, and are alike or not
abbrev pub invariant-walk_names-loop-name : goal.invariant-walk_names-loop-name
invariant-walk_names-loop-name g l =
    let meaning = g.T.Tree.meaning in
    record {
      only : OnlyRead (meaning l.fn.tree) (meaning l.tree) false;
      checked : OfTold (meaning l.fn.tree) (λ t. each_checked (entry_checked l.levels t) l.from (drop l.name-index l.names) l.counts.left.left ≡ each_checked (entry_checked l.levels t) l.from l.names l.fn.counts.left.left);
      walked : OfTold (meaning l.fn.tree) (λ t. IsWalked (each_count (beside_count l.levels t) l.from l.to (take l.name-index l.names)) (AreAlike t l.from l.to (take l.name-index l.names)) l.same l.fn.counts l.counts l.alike);
      entries : l.counts.left.left ≤ l.fn.counts.left.left;
    }
