use Rattle.std.proofs.Common.{length}
use Rattle.install_world.proofs.FoldersInOrder.{AreShared}
use Rattle.install_world.proofs.removal.in_order.Given as goal

abbrev pub invariant-folders : goal.invariant-folders
invariant-folders l = AreShared l.fn.folders.items l.folders.items l.ordered

abbrev pub decreases-folders : goal.decreases-folders
decreases-folders l = length l.folders.items
