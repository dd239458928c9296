use Rattle.package_moves.specs.Needed.{needs_in}
use Rattle.package_moves.proofs.Looking.{others_all, others_more}
use Rattle.package_moves.proofs.unneeded.add_others.Goals as goal

pub loop-name-preserved : goal.loop-name-preserved
loop-name-preserved c =
    others_more (needs_in c.args.needed.now) c.args.folder.now c.args.names.now c.loop-name.name-index c.name-item.result c.args.unneeded.now.items c.loop-name.unneeded.items _
    c.loop-name-test.true c.name-item.is c.loop-name.invariant (rw (c.in_ok-path.ensures, c.as_slice.ensures) at c.in_ok-add_other.ensures)

pub returns : goal.returns
returns c = others_all (needs_in c.args.needed.now) c.args.folder.now c.args.names.now c.loop-name.name-index c.args.unneeded.now.items _ c.loop-name-test.false c.loop-name.invariant
