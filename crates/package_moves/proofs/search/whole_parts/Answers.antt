use Rattle.package_moves.proofs.StandingSteps.{leaf_at}
use Rattle.package_moves.proofs.search.whole_parts.Goals as goal

pub add_outside-requires : goal.add_outside-requires
add_outside-requires c = record { leaf = leaf_at c.args.wanted.now c.loop-number.number c.index-wanted-number.result c.requires.wanted c.loop-number-test.true c.index-wanted-number.is }
