use Rattle.std.proofs.Common.{sym, ◌∙◌}
use Rattle.table_scan.proofs.Gaps.{line_at}
use Rattle.table_scan.proofs.gap.line_end.Goals as goal

pub returns-clause-value : goal.returns-clause-value
returns-clause-value c = c.split_at.ensures.back ∙ sym (line_at c.args.text.now c.memchr2.result c.unwrap_or-at.result c.memchr2.ensures c.unwrap_or-at.ensures)
