use Rattle.std.proofs.Common.{◌∙◌, rules}
use Rattle.path_name.proofs.DecimalTexts.{digits_are_utf8, number_in-parse}
use Rattle.path_name.proofs.decimals.read_number.Goals as goal

pub returns-in-Ok : goal.returns-in-Ok
returns-in-Ok c = c.ok.ensures.value ∙ number_in-parse c.args.text.now c.parse.result (search rules) (rw c.in-Ok.ensures.cases.0 at c.parse.ensures.value.0)

pub returns-in-Err : goal.returns-in-Err
returns-in-Err c = absurd (c.in-Err.ensures.cases.0 (digits_are_utf8 c.args.text.now (search rules)))
