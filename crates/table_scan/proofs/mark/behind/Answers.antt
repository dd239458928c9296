use Rattle.table_scan.proofs.Marks.{is_behind}
use Rattle.table_scan.proofs.mark.behind.Goals as goal

pub returns-clause-value : goal.returns-clause-value
returns-clause-value c = is_behind c.args.front.now c.args.text.now c.strip_prefix.result c.strip_prefix.ensures.cases
