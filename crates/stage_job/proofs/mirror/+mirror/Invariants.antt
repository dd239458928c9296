use Rattle.std.proofs.Common.{◌≡◌, ◌≤◌, ◌+◌, ◌*◌, ℕ, List, false, drop, take}
use Rattle.tree_dev.specs.Device.{OfTold}
use Rattle.stage_job.specs.Checked.{each_checked, entry_checked}
use Rattle.stage_job.specs.Copied.{IsInNew, names_entry}
use Rattle.stage_job.specs.Staged.{KeepsTelling, Puts, Staging}
use Rattle.stage_job.specs.Written.{after_more, files_of_names}
use Rattle.stage_job.proofs.mirror.+mirror.Given as goal

-- an entry asks for the folder that it is, and a folder for its names
abbrev pub decreases-mirror_entry : goal.decreases-mirror_entry
decreases-mirror_entry g l = 3 * l.levels

abbrev pub decreases-mirror_folder : goal.decreases-mirror_folder
decreases-mirror_folder g l = 3 * l.levels + 2

abbrev pub decreases-mirror_names : goal.decreases-mirror_names
decreases-mirror_names g l = 3 * l.levels + 1

-- the names so far are copied, and what is wanted is what is wanted of those that are left
abbrev pub invariant-mirror_names-loop-name : goal.invariant-mirror_names-loop-name
invariant-mirror_names-loop-name g l =
    let meaning = g.T.Tree.meaning in
    record {
      staging : (project : List (List ℕ)) → IsInNew project l.to → Staging project (meaning l.fn.tree) (meaning l.tree) false;
      tells : KeepsTelling (meaning l.fn.tree) (meaning l.tree);
      checked : OfTold (meaning l.fn.tree) (λ t. each_checked (entry_checked l.levels t) l.from (drop l.name-index l.names) l.left.left ≡ each_checked (entry_checked l.levels t) l.from l.names l.fn.left.left);
      put : OfTold (meaning l.fn.tree) (λ t. OfTold (meaning l.tree) (Puts l.to (names_entry t l.from (take l.name-index l.names)) t));
      writes : OfTold (meaning l.fn.tree) (λ t. after_more (meaning l.tree).writes (files_of_names l.levels t l.from (drop l.name-index l.names)) ≡ after_more (meaning l.fn.tree).writes (files_of_names l.levels t l.from l.names));
      entries : l.left.left ≤ l.fn.left.left;
    }
