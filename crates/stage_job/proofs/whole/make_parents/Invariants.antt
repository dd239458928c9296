use Rattle.std.proofs.Common.{◌≡◌, false, take}
use Rattle.tree_dev.specs.Device.{OfTold}
use Rattle.stage_job.specs.Staged.{KeepsTelling, Staging}
use Rattle.stage_job.specs.Staging.{PutsParents}
use Rattle.stage_job.proofs.whole.make_parents.Given as goal

-- the folders above the first targets are made
abbrev pub invariant-loop-part : goal.invariant-loop-part
invariant-loop-part g l =
    let meaning = g.T.Tree.meaning in
    record {
      staging : Staging l.project (meaning l.fn.tree) (meaning l.tree) false;
      tells : KeepsTelling (meaning l.fn.tree) (meaning l.tree);
      made : OfTold (meaning l.fn.tree) (λ t. OfTold (meaning l.tree) (PutsParents l.project (take l.part-index l.parts) t));
      writes : (meaning l.tree).writes ≡ (meaning l.fn.tree).writes;
    }
