use Rattle.std.proofs.Common.{◌≡◌}
use Rattle.std.specs.Option.{option_copied}
use Rattle.tree_dev.specs.Memory.{after_disk_crash}
use Rattle.tree_dev.proofs.TornChanges.{crash_reads_image}
use Rattle.tree_dev.proofs.memory.MemoryTree.crash.Goals as goal

pub returns-clause-image : goal.returns-clause-image
returns-clause-image c =
    let after : c.crash-done.new.self ≡ after_disk_crash c.self.inside.disk c.args.applied (option_copied c.args.torn) = c.in_ok-done.ensures.ok in
    rw (← c.self.view_is, after) (crash_reads_image c.self.inside.disk c.args.applied (option_copied c.args.torn))
