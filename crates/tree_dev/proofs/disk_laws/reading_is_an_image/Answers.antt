use Rattle.tree_dev.proofs.Images.{reading_is_image}
use Rattle.tree_dev.proofs.disk_laws.reading_is_an_image.Goals as goal

pub returns : goal.returns
returns c = reading_is_image
