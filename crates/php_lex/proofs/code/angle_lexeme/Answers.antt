use Rattle.std.proofs.Common.{arith}
use Rattle.php_lex.specs.Cut.{whole}
use Rattle.php_lex.proofs.Wholes.{first_long, taken_less, taken_heredoc}
use Rattle.php_lex.proofs.code.angle_lexeme.Goals as goal

pub returns-then-not-can_open_heredoc : goal.returns-then-not-can_open_heredoc
returns-then-not-can_open_heredoc c =
    (omega arith, first_long _ c.args.text.now c.requires, whole (taken_less c.args.text.now c.requires (c.can_open_heredoc.ensures c.if-not-can_open_heredoc.true)))

pub quoted_lexeme-requires : goal.quoted_lexeme-requires
quoted_lexeme-requires c = let e = c.in-Some.ensures in (e.0, e.1, taken_heredoc c.args.text.now _ c.requires e.2)

pub returns-in-None : goal.returns-in-None
returns-in-None c = (omega arith, first_long _ c.args.text.now c.requires, whole (taken_less c.args.text.now c.requires c.in-None.ensures))
