use Rattle.tree_dev.proofs.Apart.{others_stay}
use Rattle.tree_dev.proofs.change_laws.a_change_leaves_others.Goals as goal

pub returns : goal.returns
returns c = λ t change path. others_stay t change path
