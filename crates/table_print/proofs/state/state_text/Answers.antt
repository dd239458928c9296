use Rattle.std.proofs.Common.{sym, subst}
use Rattle.table_scan.specs.TableGrammar.{IsState}
use Rattle.table_scan.specs.TableFaults.{IsTextOf}
use Rattle.table_print.proofs.TableTexts.{state_text_is}
use Rattle.table_print.proofs.state.state_text.Goals as goal

pub returns-clause-read : goal.returns-clause-read
returns-clause-read c = subst (λ t. IsTextOf IsState t c.args.state) (sym c.in_ok-state_bytes.ensures.text) (state_text_is c.args.state c.state_bytes.ensures.small)
