use Rattle.std.proofs.Common.{◌≡◌, ◌≤◌, false, drop}
use Rattle.std.specs.Prelude.{sum_by}
use Rattle.tree_dev.specs.Device.{OfTold}
use Rattle.stage_job.specs.Checked.{job_checked}
use Rattle.stage_job.specs.Staged.{KeepsTelling, Staging}
use Rattle.stage_job.specs.Staging.{PutsParts}
use Rattle.stage_job.specs.Written.{after_more, part_files}
use Rattle.stage_job.proofs.whole.stage_parts.Given as goal

-- the first parts are staged, and what is wanted is what is wanted of those that are left
abbrev pub invariant-loop-number : goal.invariant-loop-number
invariant-loop-number g l =
    let meaning = g.T.Tree.meaning in
    record {
      staging : Staging l.project (meaning l.fn.tree) (meaning l.tree) false;
      tells : KeepsTelling (meaning l.fn.tree) (meaning l.tree);
      checked : OfTold (meaning l.fn.tree) (λ t. job_checked l.project t (drop l.number l.parts) l.left.left ≡ job_checked l.project t l.parts l.fn.left.left);
      put : OfTold (meaning l.fn.tree) (λ t. OfTold (meaning l.tree) (PutsParts l.project l.parts l.number t));
      writes : OfTold (meaning l.fn.tree) (λ t. after_more (meaning l.tree).writes (sum_by (λ part. part_files t part.from) (drop l.number l.parts)) ≡ after_more (meaning l.fn.tree).writes (sum_by (λ part. part_files t part.from) l.parts));
      entries : l.left.left ≤ l.fn.left.left;
    }
