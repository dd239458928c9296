use Rattle.tree_dev.proofs.Unwritten.{image_is_tree}
use Rattle.tree_dev.proofs.disk_laws.images_are_trees.Goals as goal

pub returns : goal.returns
returns c = image_is_tree
