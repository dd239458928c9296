use Rattle.std.proofs.Common.{◌==◌, ◌||◌, ℕ, get_or, refl, arith}
use Rattle.php_lex.specs.Marks.{begins_word}
use Rattle.php_lex.specs.declared.bytes.TheConstants.{CLASSES}
use Rattle.php_lex.proofs.Tables.{agree_below, agree_at}
use Rattle.php_lex.proofs.bytes.begins_word.Goals as goal

pub returns : goal.returns
unfolding agree_below
returns c = rw c.from.ensures (agree_at (λ (b : ℕ). get_or CLASSES b 0 == 53 || get_or CLASSES b 0 == 48) begins_word 256 refl c.args.byte (omega arith))
