use Rattle.std.proofs.Common.{◌≡◌, ◌≤◌, true, arith}
use Rattle.tree_dev.specs.Memory.{Memory, is_sound}
use Rattle.tree_dev.proofs.Telling.{found_folder, grows}
use Rattle.tree_dev.proofs.memory.MemoryTreeTree.make_dir.Goals as goal

pub returns-clause-tells : goal.returns-clause-tells
returns-clause-tells c =
    let m : Memory = record { disks = c.self.inside.disk; failing = c.self.inside.failing; stopped = c.self.inside.stopped; calls = c.self.inside.calls; writes = c.self.inside.writes; short = c.self.inside.short; faults = c.self.inside.faults } in
    let n : Memory = record { disks = c.make_dir-done.new.self; failing = c.self.inside.failing; stopped = c.self.inside.stopped; calls = c.counted.new.calls; writes = c.self.inside.writes; short = c.answered.new.short; faults = c.answered.new.failed } in
    let one : c.self.inside.faults ≤ c.counted.new.faults = rw c.counted.ensures.faults (grows _ c.self.inside.faults) in
    let two : c.counted.new.faults ≤ c.answered.new.failed = rw c.answered.ensures.failed (grows _ c.counted.new.faults) in
    let le : c.self.inside.faults ≤ c.answered.new.failed = omega (arith, one, two) in
    let sound : is_sound m.disks.now ≡ true = c.tells.ensures in
    let sound_after : is_sound n.disks.now ≡ true = c.tells-2.ensures in
    let tells = found_folder m n sound sound_after le c.args.at.now c.make_dir-done.result c.answered.result c.answered.ensures.ok c.answered.ensures.err c.make_dir-done.ensures.answer c.make_dir-done.ensures.ok c.make_dir-done.ensures.err in
    rw (← c.self.view_is) tells
