use Rattle.tree_dev.specs.Device.{only_read_on}
use Rattle.tree_dev.proofs.laws.two_readings_are_one.Goals as goal

pub returns : goal.returns
returns c = λ a b d failed first second. only_read_on first second
