use Rattle.std.proofs.Common.{◌≡◌, ◌≤◌, ℕ, List, false, drop, take}
use Rattle.tree_dev.specs.Device.{OfTold}
use Rattle.stage_job.specs.Checked.{inner_checked}
use Rattle.stage_job.specs.Copied.{IsInNew}
use Rattle.stage_job.specs.Jobs.{folder_entry}
use Rattle.stage_job.specs.Staged.{KeepsTelling, Puts, Staging}
use Rattle.stage_job.specs.Written.{after_more, inner_files}
use Rattle.stage_job.proofs.part.stage_folder.Given as goal

-- the first parts stand, and what is wanted is what is wanted of those that are left
abbrev pub invariant-loop-part : goal.invariant-loop-part
invariant-loop-part g l =
    let meaning = g.T.Tree.meaning in
    record {
      staging : (project : List (List ℕ)) → IsInNew project l.to → Staging project (meaning l.fn.tree) (meaning l.tree) false;
      tells : KeepsTelling (meaning l.fn.tree) (meaning l.tree);
      checked : OfTold (meaning l.fn.tree) (λ t. inner_checked t l.target (drop l.part-index l.inner) l.left.left ≡ inner_checked t l.target l.inner l.fn.left.left);
      put : OfTold (meaning l.fn.tree) (λ t. OfTold (meaning l.tree) (Puts l.to (folder_entry t (take l.part-index l.inner)) t));
      writes : OfTold (meaning l.fn.tree) (λ t. after_more (meaning l.tree).writes (inner_files t (drop l.part-index l.inner)) ≡ after_more (meaning l.fn.tree).writes (inner_files t l.inner));
      entries : l.left.left ≤ l.fn.left.left;
    }
