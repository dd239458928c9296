use Rattle.std.proofs.Common.{reverse}
use Rattle.tree_dev.proofs.Remaking.{can_make_more, pushed}
use Rattle.tree_dev.proofs.remade.Remade.changed.Goals as goal

pub invariant_of-result : goal.invariant_of-result
invariant_of-result c =
    rw (c.in_ok-push.ensures.items, pushed c.self.inside.pending.items c.args.change) (can_make_more c.self.inside.base c.args.change (reverse c.self.inside.pending.items)
    (rw (← c.self.view_is) at c.requires.tree) (rw (← c.self.view_is) at c.requires.place) c.self.invariant)
