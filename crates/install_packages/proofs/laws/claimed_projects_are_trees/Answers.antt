use Rattle.install_packages.proofs.ClaimedTrees.{claimed_tree}
use Rattle.install_packages.proofs.laws.claimed_projects_are_trees.Goals as goal

pub returns : goal.returns
returns c = λ at ways start u new tree few. claimed_tree at start tree new.folder new.unclaimed few
