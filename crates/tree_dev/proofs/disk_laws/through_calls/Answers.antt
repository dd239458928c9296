use Rattle.std.proofs.Common.{◌≡◌, Bool, true}
use Rattle.tree_dev.specs.Trees.{FileTree}
use Rattle.tree_dev.proofs.Stretches.{through_ends, through_from, through_on}
use Rattle.tree_dev.proofs.Whole.{through_then_barrier, through_then_change, through_then_read}
use Rattle.tree_dev.proofs.disk_laws.through_calls.Goals as goal

abbrev passes : (FileTree → Bool) → FileTree → Type 0
passes test t = test t ≡ true

pub returns : goal.returns
returns c = record {
  start = λ test. through_from (passes test);
  on = λ test. through_on (passes test);
  ends = λ test. through_ends (passes test);
  read = λ test. through_then_read (passes test);
  barrier = λ test. through_then_barrier (passes test);
  change = λ test. through_then_change (passes test);
}
