use Rattle.std.proofs.Common.{◌≡◌, ◌≤◌, false, drop}
use Rattle.std.specs.List.{enumerate_from}
use Rattle.tree_dev.specs.Device.{OfTold, OnlyRead}
use Rattle.class_walk.specs.Faults.{Tells}
use Rattle.class_walk.specs.Walks as walks
use Rattle.class_walk.specs.Walks.{class_scan, jobs_walked}
use Rattle.class_walk.proofs.jobs.walk.Given as goal

-- what the jobs that are left give, from what was found so far, is what all give
abbrev pub invariant-loop-number : goal.invariant-loop-number
invariant-loop-number g l =
    let meaning = g.T.Tree.meaning in
    record {
      only : OnlyRead (meaning l.fn.tree) (meaning l.tree) false;
      goes : OfTold (meaning l.fn.tree) (λ t. (walked : walks.Walked) × Tells walked l.walked.found.items l.walked.left
          × (class_scan t l.jobs l.exclude l.fn.left.left ≡ jobs_walked t l.exclude (enumerate_from l.number (drop l.number l.jobs)) walked));
      entries : l.walked.left ≤ l.fn.left.left;
    }
