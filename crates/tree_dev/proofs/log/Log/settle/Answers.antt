use Rattle.std.proofs.Common.{refl, ap, ◌∙◌}
use Rattle.tree_dev.specs.Disk.{settled}
use Rattle.tree_dev.specs.Memory.{new_disks}
use Rattle.tree_dev.specs.declared.log.Step.TheVariants as steps
use Rattle.tree_dev.proofs.Logs.{recorded-snoc, sound_safe}
use Rattle.tree_dev.proofs.log.Log.settle.Goals as goal

pub invariant_of-self-2 : goal.invariant_of-self-2
invariant_of-self-2 c = rw (c.len-self-inside.ensures, c.push.new.self.ok.0, c.in_ok-push.ensures.items) (sound_safe c.self.inside.steps.items c.self.inside.safe steps.Settled c.self.invariant tt refl)

pub returns-clause-ok : goal.returns-clause-ok
returns-clause-ok c = rw c.in_ok-push.ensures.items (recorded-snoc c.self.inside.steps.items new_disks steps.Settled) ∙ ap settled c.self.view_is
