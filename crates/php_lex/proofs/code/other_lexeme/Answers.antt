use Rattle.std.proofs.Common.{◌∙◌}
use Rattle.php_lex.specs.Cut.{whole}
use Rattle.php_lex.proofs.Wholes.{taken_comment, taken_quoted, taken_word}
use Rattle.php_lex.proofs.code.other_lexeme.Goals as goal

pub returns-in-Some : goal.returns-in-Some
returns-in-Some c =
    let e = c.in-Some.ensures in
    (e.0, e.1, whole (taken_comment c.args.text.now c.requires.other c.requires.stays _ e.2))

pub quoted_lexeme-requires : goal.quoted_lexeme-requires
quoted_lexeme-requires c =
    let q = c.in-Some-quoted.ensures in
    (q.0, q.1, taken_quoted c.args.text.now c.requires.other c.requires.stays _ c.in_default.ensures q.2)

pub returns : goal.returns
returns c =
    let e = c.word.ensures in
    (e.0, e.1, whole (taken_word c.args.text.now c.requires.other c.requires.stays c.in_default.ensures c.in_default-quoted.ensures ∙ e.2))
