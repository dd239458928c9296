use Rattle.tree_dev.proofs.Remaking.{can_make_none}
use Rattle.tree_dev.proofs.remade.Remade.put.Goals as goal

pub invariant_of-result : goal.invariant_of-result
invariant_of-result c = rw c.new.ensures.items (can_make_none c.put.new.files)
