use Rattle.std.proofs.Common.{◌-◌, length, sym, arith}
use Rattle.table_scan.proofs.Whole.{is_whole-last}
use Rattle.table_scan.proofs.rows.is_whole.Goals as goal

pub returns-in_default : goal.returns-in_default
returns-in_default c = sym (is_whole-last c.args.key.now (length c.args.key.now - 1) (omega arith))
