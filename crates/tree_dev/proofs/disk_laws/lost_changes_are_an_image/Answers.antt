use Rattle.tree_dev.proofs.Images.{image_of_fewer}
use Rattle.tree_dev.proofs.disk_laws.lost_changes_are_an_image.Goals as goal

pub returns : goal.returns
returns c = image_of_fewer
