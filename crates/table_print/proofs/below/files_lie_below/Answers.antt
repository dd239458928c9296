use Rattle.std.proofs.Common.{arith}
use Rattle.table_print.specs.Printable.{HasFileBelow}
use Rattle.table_print.proofs.Outside.{one_is_not, one_more_is, all_are}
use Rattle.table_print.proofs.below.files_lie_below.Goals as goal

pub returns-then-not-starts_with : goal.returns-then-not-starts_with
returns-then-not-starts_with c = one_is_not (HasFileBelow c.args.project.now) c.args.rows.now c.loop-row.row-index c.row-item.result c.starts_with.result c.if-not-starts_with.true c.starts_with.ensures c.loop-row-test.true c.row-item.is

pub loop-row-preserved : goal.loop-row-preserved
loop-row-preserved c = one_more_is (HasFileBelow c.args.project.now) c.args.rows.now c.loop-row.row-index c.row-item.result c.starts_with.result c.if-not-starts_with.false c.starts_with.ensures c.loop-row-test.true c.row-item.is c.loop-row.invariant

pub returns : goal.returns
returns c = all_are (HasFileBelow c.args.project.now) c.args.rows.now c.loop-row.row-index (omega (arith, c.loop-row-test.false)) c.loop-row.invariant
