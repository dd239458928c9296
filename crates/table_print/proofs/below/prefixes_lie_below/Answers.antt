use Rattle.std.proofs.Common.{arith}
use Rattle.table_print.specs.Printable.{HasFoldersBelow}
use Rattle.table_print.proofs.Outside.{one_is_not, one_more_is, all_are}
use Rattle.table_print.proofs.below.prefixes_lie_below.Goals as goal

pub returns-then-not-paths_lie_below : goal.returns-then-not-paths_lie_below
returns-then-not-paths_lie_below c = one_is_not (HasFoldersBelow c.args.project.now) c.args.rows.now c.loop-row.row-index c.row-item.result c.paths_lie_below.result c.if-not-paths_lie_below.true (rw c.as_slice.ensures at c.paths_lie_below.ensures) c.loop-row-test.true c.row-item.is

pub loop-row-preserved : goal.loop-row-preserved
loop-row-preserved c = one_more_is (HasFoldersBelow c.args.project.now) c.args.rows.now c.loop-row.row-index c.row-item.result c.paths_lie_below.result c.if-not-paths_lie_below.false (rw c.as_slice.ensures at c.paths_lie_below.ensures) c.loop-row-test.true c.row-item.is c.loop-row.invariant

pub returns : goal.returns
returns c = all_are (HasFoldersBelow c.args.project.now) c.args.rows.now c.loop-row.row-index (omega (arith, c.loop-row-test.false)) c.loop-row.invariant
