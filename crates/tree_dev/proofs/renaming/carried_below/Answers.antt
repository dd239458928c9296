use Rattle.std.proofs.Common.{◌∙◌, ap, []}
use Rattle.std.specs.Cmp.{tied_itself}
use Rattle.std.specs.Ordering.{is_gt}
use Rattle.path_name.specs.Orders.{path_cmp_total}
use Rattle.path_name.specs.Paths.{is_segment}
use Rattle.tree_dev.proofs.NextNames.{bound_is_segment}
use Rattle.tree_dev.proofs.Walking.{fewer_left, before_next, low_next, all_passed, none_before, carries_next}
use Rattle.tree_dev.proofs.renaming.carried_below.Goals as goal

pub loop-path-init : goal.loop-path-init
loop-path-init c =
    rw (c.new.ensures.items, c.new-2.ensures.items, c.in_ok-at.ensures)
    (record { carries = tt; before = none_before c.args.files.now c.requires c.args.from.now c.args.to.now; low = ap is_gt (tied_itself path_cmp_total c.args.from.now) })

pub returns-in_default-2-clause-all : goal.returns-in_default-2-clause-all
returns-in_default-2-clause-all c =
    all_passed c.args.files.now c.requires c.args.from.now c.args.to.now c.loop-path.at c.in-Some.path.now c.loop-path.carried.left.items c.in-Some.ensures c.loop-path.invariant.low
    (rw c.in_default-2.is at c.in_ok-target.ensures) c.loop-path.invariant.before

pub child-requires : goal.child-requires
child-requires c = ap is_segment c.as_slice.ensures ∙ bound_is_segment [] tt

pub loop-path-smaller : goal.loop-path-smaller
loop-path-smaller c =
    rw (c.in_ok-at-2.ensures, c.as_slice.ensures) (fewer_left c.args.files.now c.requires c.args.from.now c.args.to.now c.loop-path.at c.in-Some.path.now c.in-Some.ensures)

pub loop-path-preserved : goal.loop-path-preserved
loop-path-preserved c =
    let moved = rw c.in-Some-2.is at c.in_ok-target.ensures in
    rw (c.in_ok-carry.ensures.left, c.in_ok-at-2.ensures, c.as_slice.ensures) (record {
      carries = carries_next c.args.files.now c.requires c.args.from.now c.args.to.now c.loop-path.carried.left.items c.loop-path.carried.arrived.items c.carry.new.carried.arrived.items
          c.in-Some.path.now c.in-Some-2.target moved.0 c.loop-path.invariant.carries moved.1 moved.2 c.in_ok-carry.ensures.arrived;
      before = before_next c.args.files.now c.requires c.args.from.now c.args.to.now c.loop-path.at c.in-Some.path.now c.loop-path.carried.left.items c.in-Some.ensures c.loop-path.invariant.before;
      low = low_next c.args.files.now c.requires c.args.from.now c.args.to.now c.loop-path.at c.in-Some.path.now c.in-Some.ensures c.loop-path.invariant.low;
    })
