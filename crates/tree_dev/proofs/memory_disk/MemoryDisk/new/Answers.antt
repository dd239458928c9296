use Rattle.tree_dev.proofs.Kept.{kept_new}
use Rattle.tree_dev.proofs.memory_disk.MemoryDisk.new.Goals as goal

pub invariant_of-result : goal.invariant_of-result
invariant_of-result c = rw (c.new.ensures, c.new-2.ensures) kept_new
