use Rattle.std.proofs.Common.{◌≡◌, ◌∙◌, ap, sym}
use Rattle.tree_dev.specs.Disk.{reading, with_base}
use Rattle.tree_dev.specs.Memory.{put_in}
use Rattle.tree_dev.specs.Stored.{entry_of}
use Rattle.tree_dev.proofs.Kept.{kept_put}
use Rattle.tree_dev.proofs.memory_disk.MemoryDisk.put.Goals as goal

pub take_back-requires : goal.take_back-requires
take_back-requires c = record { before = c.self.inside.log; past = ap (λ d. d.past) c.in_ok-put.ensures.ok; counted = c.safe-safe.ensures }

pub invariant_of-self-2 : goal.invariant_of-self-2
invariant_of-self-2 c =
    let log : c.put.new.self ≡ with_base c.self.inside.log (put_in (reading c.self.inside.log.now) c.args.at.now (entry_of c.in_ok-stored.stored)) =
    c.in_ok-put.ensures.ok ∙ ap (λ p. with_base c.self.inside.log (put_in (reading c.self.inside.log.now) p (entry_of c.in_ok-share.field-0))) c.in_ok-copy.ensures
    ∙ ap (λ s. with_base c.self.inside.log (put_in (reading c.self.inside.log.now) c.args.at.now (entry_of s))) c.in_ok-share.ensures in
    rw log (kept_put c.self.inside.files c.put-2.new.files c.self.inside.log c.args.at.now (entry_of c.in_ok-stored.stored) c.self.invariant c.path_is_segments.ensures
    (sym c.in_ok-is_misplaced.ensures ∙ c.if-branch.false) c.in_default.ensures.ok c.fits.ensures)
