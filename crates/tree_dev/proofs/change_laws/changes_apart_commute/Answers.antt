use Rattle.tree_dev.proofs.Apart.{commute}
use Rattle.tree_dev.proofs.change_laws.changes_apart_commute.Goals as goal

pub returns : goal.returns
returns c = λ t first second. commute t first second
