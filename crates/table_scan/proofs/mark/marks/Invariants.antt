use Rattle.std.proofs.Common.{◌≡◌, drop}
use Rattle.table_scan.specs.TableTokens.{tokens}
use Rattle.table_scan.specs.TableGrammar.{marked}
use Rattle.table_scan.specs.TableSteps.{tokens_at}
use Rattle.table_scan.proofs.mark.marks.Given as goal

abbrev pub invariant-loop-mark : goal.invariant-loop-mark
invariant-loop-mark l = tokens_at (marked (drop l.mark-index l.wanted)) (tokens l.rest) ≡ tokens_at (marked l.wanted) (tokens l.fn.text)
