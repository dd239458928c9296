use Rattle.std.proofs.Common.{refl}
use Rattle.table_scan.specs.TableGrammar.{mode_text}
use Rattle.table_print.proofs.state.mode_text.Goals as goal

pub returns-in-Plain : goal.returns-in-Plain
unfolding mode_text
returns-in-Plain c = rw c.in-Plain.is refl

pub returns-in-Optimised : goal.returns-in-Optimised
unfolding mode_text
returns-in-Optimised c = rw c.in-Optimised.is refl

pub returns-in-Authoritative : goal.returns-in-Authoritative
unfolding mode_text
returns-in-Authoritative c = rw c.in-Authoritative.is refl
