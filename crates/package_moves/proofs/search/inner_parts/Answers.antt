use Rattle.package_moves.proofs.Gathering.{below_more}
use Rattle.package_moves.proofs.search.inner_parts.Goals as goal

pub loop-part-preserved : goal.loop-part-preserved
loop-part-preserved c =
    below_more c.args.folder.now c.args.wanted.now c.loop-part.part-index c.part-item.result c.loop-part.inner.items _ c.loop-part-test.true c.part-item.is c.loop-part.invariant c.in_ok-add_inner.ensures
