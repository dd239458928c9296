use Rattle.std.proofs.Common.{rules}
use Rattle.table_scan.specs.TableGrammar.{mode_key}
use Rattle.table_print.proofs.state.mode_key.Goals as goal

pub returns : goal.returns
unfolding mode_key
returns c = search rules
