use Rattle.std.proofs.Common.{◌<◌, length, take, arith}
use Rattle.std.specs.BTreeSet.{contains}
use Rattle.path_name.specs.Orders.{path_cmp}
use Rattle.package_moves.proofs.Gathering.{flag_at, left_more, parts_more, untaken_next}
use Rattle.package_moves.proofs.StandingSteps.{leaf_at}
use Rattle.package_moves.proofs.search.differing_parts.Goals as goal

pub add_part-requires : goal.add_part-requires
add_part-requires c = record { leaf = leaf_at c.args.wanted.now c.loop-number.number c.index-wanted-number.result c.requires.wanted c.loop-number-test.true c.index-wanted-number.is }

pub loop-number-preserved : goal.loop-number-preserved
loop-number-preserved c =
    let less : c.loop-number.number < length c.args.standing.now = (let lt = c.loop-number-test.true in let same = c.requires.flags in omega (arith, lt, same)) in
    let next = c.in_ok-add_part.ensures c.args.wanted.now (take c.loop-number.number c.args.wanted.now)
    (parts_more (contains path_cmp c.args.blocked.now) c.args.wanted.now c.loop-number.number c.index-wanted-number.result c.loop-number-test.true c.index-wanted-number.is) c.loop-number.invariant.untaken in
    record {
      left = left_more c.args.wanted.now c.args.standing.now c.loop-number.number c.index-wanted-number.result _ c.loop-number-test.true less c.index-wanted-number.is (flag_at c.args.standing.now c.loop-number.number _ less)
          (contains path_cmp c.args.blocked.now) c.loop-number.parts.items _ _ c.loop-number.invariant.left next.0;
      untaken = untaken_next (contains path_cmp c.args.blocked.now) c.args.wanted.now c.loop-number.number c.index-wanted-number.result _ c.loop-number-test.true c.index-wanted-number.is next.1;
    }
