use Rattle.std.proofs.Common.{◌≡◌, ◌∙◌, ap}
use Rattle.tree_dev.specs.Memory.{after_disk_crash, crashed}
use Rattle.tree_dev.proofs.Kept.{kept_crash}
use Rattle.tree_dev.proofs.memory_disk.MemoryDisk.crash.Goals as goal

pub invariant_of-self-2 : goal.invariant_of-self-2
invariant_of-self-2 c =
    let log : c.crash.new.self ≡ after_disk_crash c.self.inside.log c.args.applied c.in_ok-bytes.bytes = c.in_ok-crash.ensures.ok in
    let files : c.in_ok-files.files ≡ crashed c.self.inside.log.now c.args.applied c.in_ok-bytes.bytes =
    c.in_ok-files.ensures ∙ ap (crashed c.self.inside.log.now c.args.applied) c.as_ref.ensures.value in
    rw log (kept_crash c.self.inside.files c.in_ok-files.files c.self.inside.log c.args.applied c.in_ok-bytes.bytes c.self.invariant files)
