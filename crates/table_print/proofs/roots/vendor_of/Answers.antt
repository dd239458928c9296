use Rattle.table_scan.proofs.Steps.{vendor_clean, vendor_inside, vendor_is}
use Rattle.table_print.proofs.roots.vendor_of.Goals as goal

pub unreachable-requires : goal.unreachable-requires
unreachable-requires c = vendor_clean c.args.project.now c.in-Err-BadSegment.field-0 c.in-Err-BadSegment.field-0-0 c.in-Err-BadSegment.field-0-is c.in-Err-BadSegment.ensures.exact

pub unreachable-requires-in-Err-AboveRoot : goal.unreachable-requires-in-Err-AboveRoot
unreachable-requires-in-Err-AboveRoot c = vendor_inside c.args.project.now c.in-Err-AboveRoot.field-0 c.in-Err-AboveRoot.field-0-0 c.in-Err-AboveRoot.field-0-is c.in-Err-AboveRoot.ensures.exact

pub returns-in-Ok : goal.returns-in-Ok
returns-in-Ok c = vendor_is c.args.project.now c.in-Ok.vendor c.in-Ok.ensures.exact
