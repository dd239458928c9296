use Rattle.tree_dev.proofs.Images.{left_with_change}
use Rattle.tree_dev.proofs.disk_laws.change_adds_its_images.Goals as goal

pub returns : goal.returns
returns c = left_with_change
