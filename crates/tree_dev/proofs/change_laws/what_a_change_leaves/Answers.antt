use Rattle.tree_dev.proofs.Changed.{get-changed}
use Rattle.tree_dev.proofs.change_laws.what_a_change_leaves.Goals as goal

pub returns : goal.returns
returns c = λ t change path. get-changed t change path
