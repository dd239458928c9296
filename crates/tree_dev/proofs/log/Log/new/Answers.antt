use Rattle.tree_dev.proofs.Logs.{recorded_nothing, sound_nothing}
use Rattle.tree_dev.proofs.log.Log.new.Goals as goal

pub invariant_of-result : goal.invariant_of-result
invariant_of-result c = rw c.new.ensures.items sound_nothing

pub returns : goal.returns
returns c = rw c.new.ensures.items recorded_nothing
