use Rattle.std.proofs.Common.{sym}
use Rattle.table_scan.proofs.Marks.{missing_assign, found_assign, arrow_is_no_assign}
use Rattle.table_scan.proofs.mark.behind_assign.Goals as goal

pub returns-in-None-clause-token : goal.returns-in-None-clause-token
returns-in-None-clause-token c = missing_assign c.args.text.now c.requires (sym c.in-None.ensures.value)

pub returns-in-Some-behind-clause-token : goal.returns-in-Some-behind-clause-token
returns-in-Some-behind-clause-token c = arrow_is_no_assign c.args.text.now c.in-Some.rest.now c.in-Some-behind.field-0.now (sym c.in-Some.ensures.value) (sym c.in-Some-behind.ensures.value)

pub returns-in-None-behind-clause-token : goal.returns-in-None-behind-clause-token
returns-in-None-behind-clause-token c = found_assign c.args.text.now c.in-Some.rest.now (sym c.in-Some.ensures.value) (sym c.in-None-behind.ensures.value)
