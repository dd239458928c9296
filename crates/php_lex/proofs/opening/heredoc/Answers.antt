use Rattle.std.proofs.Common.{◌≡◌, ◌+◌, drop, sym, ap, ◌∙◌}
use Rattle.php_lex.specs.Places.{after_run, is_space}
use Rattle.php_lex.specs.Quotes.{label}
use Rattle.php_lex.specs.Openings.{element_of}
use Rattle.php_lex.proofs.Openings.{shifted, heredoc_long, heredoc_yes}
use Rattle.php_lex.proofs.opening.heredoc.Goals as goal

pub returns-in-Some : goal.returns-in-Some
returns-in-Some c =
    let text = c.args.text.now in
    let inside = c.split_at.result.1.now in
    let spaces = c.spaces_len-spaces.result in
    let rest = c.split_at-2.result.1.now in
    let e = element_of c.in-Some.opening in
    let opens = sym c.opens_heredoc.ensures ∙ c.if-not-opens_heredoc.false in
    let same : rest ≡ after_run is_space (drop 3 text) = c.split_at-2.ensures.back ∙ c.spaces_len-spaces.ensures.rest ∙ ap (after_run is_space) c.split_at.ensures.back in
    let one = shifted inside spaces c.in-Some.len rest e (label rest) c.split_at-2.ensures.back c.spaces_len-spaces.ensures.within c.in-Some.ensures in
    let two = shifted text 3 (spaces + c.in-Some.len) inside e (label rest) c.split_at.ensures.back (heredoc_long text opens) one in
    (two.0, two.1, heredoc_yes text opens ∙ ap label (sym same) ∙ two.2)

pub returns-in-None : goal.returns-in-None
returns-in-None c =
    let text = c.args.text.now in
    let opens = sym c.opens_heredoc.ensures ∙ c.if-not-opens_heredoc.false in
    heredoc_yes text opens
    ∙ ap label (sym (c.split_at-2.ensures.back ∙ c.spaces_len-spaces.ensures.rest ∙ ap (after_run is_space) c.split_at.ensures.back))
    ∙ c.in-None.ensures
