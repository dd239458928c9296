use Rattle.tree_dev.proofs.Whole.{image_was_read, settled_is_whole, whole_on}
use Rattle.tree_dev.proofs.disk_laws.whole_images_were_read.Goals as goal

pub returns : goal.returns
returns c = record { read = image_was_read; barrier = settled_is_whole; change = whole_on }
