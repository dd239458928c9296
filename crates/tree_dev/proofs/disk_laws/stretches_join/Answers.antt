use Rattle.tree_dev.proofs.Moments.{since_parts}
use Rattle.tree_dev.specs.Disk.{moment}
use Rattle.tree_dev.proofs.disk_laws.stretches_join.Goals as goal

pub returns : goal.returns
returns c = λ a b d left first second was. since_parts b d (moment a) left second was
