use Rattle.std.proofs.Common.{ℕ, get_or, refl, arith}
use Rattle.std.specs.Prelude.{nat_lt}
use Rattle.path_name.specs.Bytes.{continues_identifier}
use Rattle.php_lex.specs.declared.bytes.TheConstants.{CLASSES}
use Rattle.php_lex.proofs.Tables.{agree_below, agree_at}
use Rattle.php_lex.proofs.bytes.continues_identifier.Goals as goal

pub returns : goal.returns
unfolding agree_below
returns c = rw c.from.ensures (agree_at (λ (b : ℕ). nat_lt (get_or CLASSES b 0) 50) continues_identifier 256 refl c.args.byte (omega arith))
