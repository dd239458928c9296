use Rattle.install_world.proofs.FoldersInOrder.{shared_all, shared_on, shared_start}
use Rattle.install_world.proofs.LeavesGone.{none_left}
use Rattle.install_world.proofs.removal.in_order.Goals as goal

pub folders-init : goal.folders-init
folders-init c = shared_start c.args.folders.items c.new-ordered.result c.new-ordered.ensures.empty

pub folders-preserved : goal.folders-preserved
folders-preserved c =
    shared_on c.args.folders.items c.folders.folders.items c.pop.new.self.items c.folders.ordered c.insert.new.self c.in-Some.folder c.in-Some.ensures.items
    c.folders.invariant c.in_ok-insert.ensures.updates.0

pub returns : goal.returns
returns c =
    shared_all c.args.folders.items c.folders.folders.items c.folders.ordered
    (none_left c.folders.folders.items c.pop.new.self.items _ c.in_default.ensures.items c.in_default.ensures.rest c.in_default.ensures.cases.0)
    c.folders.invariant
