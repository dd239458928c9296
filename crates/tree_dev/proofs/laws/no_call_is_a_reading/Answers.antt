use Rattle.tree_dev.specs.Device.{only_read_refl}
use Rattle.tree_dev.proofs.laws.no_call_is_a_reading.Goals as goal

pub returns : goal.returns
returns c = only_read_refl
