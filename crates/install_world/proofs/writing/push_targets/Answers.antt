use Rattle.std.proofs.Common.{arith}
use Rattle.install_world.proofs.TargetLines.{lines_written, none_written}
use Rattle.install_world.proofs.writing.push_targets.Goals as goal

pub targets-init : goal.targets-init
targets-init c = none_written c.args.text.now.items

pub targets-preserved : goal.targets-preserved
targets-preserved c =
    lines_written c.args.targets.now c.targets.number c.index-targets-number.result c.args.text.now.items c.targets.text.items c.push_target.new.text.items
    (omega arith) c.index-targets-number.is c.targets.invariant c.in_ok-push_target.ensures
