use Rattle.std.proofs.Common.{ap, ◌∙◌}
use Rattle.tree_dev.specs.Disk.{with_change}
use Rattle.tree_dev.specs.Memory.{new_disks}
use Rattle.tree_dev.specs.declared.log.Step.TheVariants as steps
use Rattle.tree_dev.proofs.Logs.{recorded-snoc, sound_change}
use Rattle.tree_dev.proofs.log.Log.add.Goals as goal

pub invariant_of-self-2 : goal.invariant_of-self-2
invariant_of-self-2 c =
    rw c.in_ok-push.ensures.items (sound_change c.self.inside.steps.items c.self.inside.safe c.args.change c.self.invariant
    (rw (← c.self.view_is) at c.requires.tree) (rw (← c.self.view_is) at c.requires.place))

pub returns-clause-ok : goal.returns-clause-ok
returns-clause-ok c = rw c.in_ok-push.ensures.items (recorded-snoc c.self.inside.steps.items new_disks (steps.Changed c.args.change)) ∙ ap (λ d. with_change d c.args.change) c.self.view_is
