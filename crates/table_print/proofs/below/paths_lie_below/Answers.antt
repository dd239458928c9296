use Rattle.std.proofs.Common.{arith}
use Rattle.table_print.specs.Printable.{IsBelow}
use Rattle.table_print.proofs.Outside.{one_is_not, one_more_is, all_are}
use Rattle.table_print.proofs.below.paths_lie_below.Goals as goal

pub returns-then-not-starts_with : goal.returns-then-not-starts_with
returns-then-not-starts_with c = one_is_not (IsBelow c.args.project.now) c.args.paths.now c.loop-path.path-index c.path-item.result c.starts_with.result c.if-not-starts_with.true c.starts_with.ensures c.loop-path-test.true c.path-item.is

pub loop-path-preserved : goal.loop-path-preserved
loop-path-preserved c = one_more_is (IsBelow c.args.project.now) c.args.paths.now c.loop-path.path-index c.path-item.result c.starts_with.result c.if-not-starts_with.false c.starts_with.ensures c.loop-path-test.true c.path-item.is c.loop-path.invariant

pub returns : goal.returns
returns c = all_are (IsBelow c.args.project.now) c.args.paths.now c.loop-path.path-index (omega (arith, c.loop-path-test.false)) c.loop-path.invariant
