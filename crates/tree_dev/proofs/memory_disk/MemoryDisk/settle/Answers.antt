use Rattle.tree_dev.proofs.Kept.{kept_after_barrier}
use Rattle.tree_dev.proofs.memory_disk.MemoryDisk.settle.Goals as goal

pub invariant_of-self : goal.invariant_of-self
invariant_of-self c = kept_after_barrier c.settle.result c.self.inside.files c.self.inside.log c.settle.new.self c.settle.ensures.ok c.settle.ensures.err c.self.invariant
