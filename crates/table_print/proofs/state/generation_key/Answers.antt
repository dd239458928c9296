use Rattle.std.proofs.Common.{rules}
use Rattle.table_scan.specs.TableGrammar.{generation_key}
use Rattle.table_print.proofs.state.generation_key.Goals as goal

pub returns : goal.returns
unfolding generation_key
returns c = search rules
