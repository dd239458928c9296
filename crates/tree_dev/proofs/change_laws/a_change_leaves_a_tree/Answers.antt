use Rattle.tree_dev.proofs.TreesAfter.{change_keeps}
use Rattle.tree_dev.proofs.change_laws.a_change_leaves_a_tree.Goals as goal

pub returns : goal.returns
returns c = λ t change. change_keeps t change
