use Rattle.std.proofs.Common.{◌≡◌, ◌++◌, ℕ, List, false, take}
use Rattle.tree_dev.specs.Device.{OfTold}
use Rattle.stage_job.specs.Above.{CanMakeWay, MakesFolders}
use Rattle.stage_job.specs.Staged.{KeepsTelling, Staging}
use Rattle.stage_job.proofs.above.make_way.Given as goal

-- the folders of the first names are made, and the path has come as far
abbrev pub invariant-loop-name : goal.invariant-loop-name
invariant-loop-name g l =
    let meaning = g.T.Tree.meaning in
    record {
      staging : (project : List (List ℕ)) → CanMakeWay project l.base l.names → Staging project (meaning l.fn.tree) (meaning l.tree) false;
      tells : KeepsTelling (meaning l.fn.tree) (meaning l.tree);
      at : l.at ≡ l.base ++ take l.name-index l.names;
      made : OfTold (meaning l.fn.tree) (λ t. OfTold (meaning l.tree) (MakesFolders l.base (take l.name-index l.names) t));
      writes : (meaning l.tree).writes ≡ (meaning l.fn.tree).writes;
    }
