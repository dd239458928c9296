use Rattle.std.proofs.Common.{◌==◌, ℕ, get_or, refl, arith}
use Rattle.php_lex.specs.Marks.{can_open}
use Rattle.php_lex.specs.declared.bytes.TheConstants.{CLASSES}
use Rattle.php_lex.proofs.Tables.{agree_below, agree_at}
use Rattle.php_lex.proofs.bytes.can_open.Goals as goal

pub returns : goal.returns
unfolding agree_below
returns c = rw c.from.ensures (agree_at (λ (b : ℕ). get_or CLASSES b 0 == 52) can_open 256 refl c.args.byte (omega arith))
