use Rattle.std.proofs.Common.{sym, ap, ◌∙◌, arith}
use Rattle.path_name.specs.Bytes.{continues_identifier}
use Rattle.php_lex.specs.Places.{after_run}
use Rattle.php_lex.specs.Lexemes.{Whole, word}
use Rattle.php_lex.specs.declared.lexeme.LexKind.TheVariants as kinds
use Rattle.php_lex.proofs.Wholes.{whole_at, word_variable, second_long}
use Rattle.php_lex.proofs.word.variable.Goals as goal

pub returns : goal.returns
returns c =
    let text = c.args.text.now in
    whole_at text 1 c.identifier_len.result c.split_at.result.1.now _ kinds.Variable (word text) c.split_at.ensures.back (second_long _ text c.requires) (omega arith)
    c.identifier_len.ensures.rest c.identifier_len.ensures.within (word_variable text c.requires ∙ ap (λ r. Whole kinds.Variable (after_run continues_identifier r)) (sym c.split_at.ensures.back))
