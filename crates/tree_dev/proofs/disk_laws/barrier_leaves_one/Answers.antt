use Rattle.tree_dev.proofs.Images.{one_image_settled}
use Rattle.tree_dev.proofs.disk_laws.barrier_leaves_one.Goals as goal

pub returns : goal.returns
returns c = one_image_settled
