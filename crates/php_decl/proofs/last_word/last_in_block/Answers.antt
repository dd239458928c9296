use Rattle.php_decl.proofs.Tails.{no_tail}
use Rattle.php_decl.proofs.last_word.last_in_block.Goals as goal

pub returns-then-not-has_tail : goal.returns-then-not-has_tail
returns-then-not-has_tail c = λ k low high. no_tail k c.args.text.now (c.has_tail.ensures c.if-not-has_tail.true k low high)
