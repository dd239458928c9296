use Rattle.tree_dev.proofs.TreeKept.{put_keeps}
use Rattle.tree_dev.proofs.laws.put_leaves_a_tree.Goals as goal

pub returns : goal.returns
returns c = λ t path entry. put_keeps t path entry
