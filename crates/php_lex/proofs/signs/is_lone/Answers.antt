use Rattle.std.proofs.Common.{arith}
use Rattle.php_lex.proofs.LoneSigns.{lone_mark}
use Rattle.php_lex.proofs.signs.is_lone.Goals as goal

pub returns : goal.returns
returns c = rw (c.from.ensures, c.from-2.ensures) (lone_mark c.args.byte c.args.next (omega arith) (omega arith))
