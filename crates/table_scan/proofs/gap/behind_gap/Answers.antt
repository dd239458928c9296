use Rattle.std.proofs.Common.{sym}
use Rattle.table_scan.proofs.Tokens.{plain_no_gap}
use Rattle.table_scan.proofs.gap.behind_gap.Goals as goal

pub returns-clause-gap : goal.returns-clause-gap
returns-clause-gap c = plain_no_gap c.args.text.now c.in_ok-first.first.now c.in_ok-first.rest.now c.in_ok-first.ensures.cases.0 (sym c.if-is_blank.ensures) c.if-first-eq35.false c.if-first-eq47.false
