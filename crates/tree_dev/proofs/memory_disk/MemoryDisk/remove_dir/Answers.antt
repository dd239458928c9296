use Rattle.tree_dev.proofs.Kept.{kept_tree}
use Rattle.tree_dev.proofs.memory_disk.MemoryDisk.remove_dir.Goals as goal

pub can_remove_dir-requires : goal.can_remove_dir-requires
can_remove_dir-requires c = kept_tree c.self.inside.files c.self.inside.log c.self.invariant
