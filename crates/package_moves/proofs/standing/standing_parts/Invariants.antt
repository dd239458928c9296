use Rattle.std.proofs.Common.{◌≡◌, ◌≤◌, false, length, drop, take}
use Rattle.tree_dev.specs.Device.{OfTold, OnlyRead}
use Rattle.stage_job.specs.Checked.{job_checked}
use Rattle.package_moves.specs.Beside.{AreCounted}
use Rattle.package_moves.specs.Counted.{targets_count}
use Rattle.package_moves.specs.Found.{AreStanding}
use Rattle.package_moves.proofs.standing.standing_parts.Given as goal

abbrev pub invariant-loop-part : goal.invariant-loop-part
invariant-loop-part g l =
    let meaning = g.T.Tree.meaning in
    record {
      only : OnlyRead (meaning l.fn.tree) (meaning l.tree) false;
      checked : OfTold (meaning l.fn.tree) (λ t. job_checked l.project t (drop l.part-index l.wanted) l.counts.left.left ≡ job_checked l.project t l.wanted l.fn.counts.left.left);
      counted : OfTold (meaning l.fn.tree) (λ t. AreCounted (targets_count l.project t (take l.part-index l.wanted)) l.fn.counts l.counts);
      flags : OfTold (meaning l.fn.tree) (λ t. l.counts.passed ≡ false → AreStanding l.project t (take l.part-index l.wanted) l.flags.items);
      count : length l.flags.items ≡ l.part-index;
      entries : l.counts.left.left ≤ l.fn.counts.left.left;
    }
