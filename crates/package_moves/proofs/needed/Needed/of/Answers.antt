use Rattle.package_moves.proofs.Looking.{needs_all, needs_more}
use Rattle.package_moves.specs.Needed.{needs_in}
use Rattle.package_moves.proofs.needed.Needed.of.Goals as goal

pub loop-part-preserved : goal.loop-part-preserved
loop-part-preserved c = needs_more c.args.wanted.now c.loop-part.part-index c.part-item.result (needs_in c.loop-part.needed) _ c.loop-part-test.true c.part-item.is c.loop-part.invariant c.in_ok-add.ensures

pub returns : goal.returns
returns c = needs_all c.args.wanted.now c.loop-part.part-index _ c.loop-part-test.false c.loop-part.invariant
