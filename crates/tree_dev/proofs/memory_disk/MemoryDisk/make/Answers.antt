use Rattle.std.proofs.Common.{◌≡◌, ◌∙◌, ap}
use Rattle.tree_dev.specs.Disk.{with_change}
use Rattle.tree_dev.proofs.Kept.{kept_tree, kept_change, sound_reading}
use Rattle.tree_dev.proofs.memory_disk.MemoryDisk.make.Goals as goal

pub add-requires-clause-tree : goal.add-requires-clause-tree
add-requires-clause-tree c = sound_reading c.self.inside.log.now c.self.invariant.sound

pub apply-requires-clause-tree : goal.apply-requires-clause-tree
apply-requires-clause-tree c = kept_tree c.self.inside.files c.self.inside.log c.self.invariant

pub take_back-requires : goal.take_back-requires
take_back-requires c = record { before = c.self.inside.log; past = ap (λ d. d.past) c.in_ok-add.ensures.ok; counted = c.safe-safe.ensures }

pub invariant_of-self-2 : goal.invariant_of-self-2
invariant_of-self-2 c =
    let log : c.add.new.self ≡ with_change c.self.inside.log c.args.change = c.in_ok-add.ensures.ok ∙ ap (with_change c.self.inside.log) c.in_ok-share.ensures in
    rw log (kept_change c.self.inside.files c.apply.new.files c.self.inside.log c.args.change c.self.invariant (rw (← c.self.view_is) at c.requires.place) c.requires.path c.in_default.ensures.ok c.fits.ensures)
