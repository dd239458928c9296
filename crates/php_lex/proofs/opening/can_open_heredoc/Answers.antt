use Rattle.php_lex.proofs.Openings.{no_heredoc}
use Rattle.php_lex.proofs.opening.can_open_heredoc.Goals as goal

pub returns : goal.returns
returns c = no_heredoc c.args.text.now c.opens_heredoc.result c.has_at.result c.opens_heredoc.ensures c.has_at.ensures
