use Rattle.std.proofs.Common.{length, eqb-true, ap, sym, ◌∙◌}
use Rattle.table_scan.specs.TableSteps.{nothing_at}
use Rattle.table_scan.proofs.Tokens.{nothing_is_there}
use Rattle.table_scan.proofs.mark.ends.Goals as goal

pub returns-then-is_empty : goal.returns-then-is_empty
returns-then-is_empty c = ap nothing_at (sym c.after_gaps-here.ensures.same) ∙ ap nothing_at (nothing_is_there c.after_gaps-here.result.now (eqb-true (length c.after_gaps-here.result.now) 0 (sym c.is_empty.ensures ∙ c.if-is_empty.true)))
