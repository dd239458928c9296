use Rattle.std.proofs.Common.{sym, ◌∙◌}
use Rattle.php_lex.specs.Cut.{open_tag, html}
use Rattle.php_lex.proofs.code.outer_lexeme.Goals as goal

pub returns-then-is_tag : goal.returns-then-is_tag
returns-then-is_tag c = (c.tag_len.ensures.some, c.tag_len.ensures.within, open_tag (sym c.is_tag.ensures ∙ c.if-is_tag.true) c.tag_len.ensures.rest)

pub returns-else-is_tag : goal.returns-else-is_tag
returns-else-is_tag c = (c.html_len.ensures.some, c.html_len.ensures.within, html (sym c.is_tag.ensures ∙ c.if-is_tag.false) c.html_len.ensures.rest)
