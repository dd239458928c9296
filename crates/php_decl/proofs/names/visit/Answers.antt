use Rattle.std.proofs.Common.{List, Option, ℕ, ◌++◌, sym, ap, ◌∙◌}
use Rattle.php_decl.specs.Declarations.{in_namespace, or_earlier, solid}
use Rattle.php_decl.specs.Words.{lex_of}
use Rattle.php_decl.proofs.Visited.{by_declaring_word}
use Rattle.php_decl.proofs.names.visit.Goals as goal

pub returns-then-is_declaring_word : goal.returns-then-is_declaring_word
returns-then-is_declaring_word c = λ previous lexemes m x.
    let w = by_declaring_word (lex_of c.args.lexeme) previous (solid lexemes) (sym c.is_plain.ensures ∙ c.if-not-is_plain.false) (m ∙ c.if-behind_member.false)
    (sym c.is_declaring_word.ensures ∙ c.if-is_declaring_word.true) (sym c.is_word-2.ensures ∙ c.if-is_word-2.false) (sym c.is_word.ensures ∙ c.if-is_word.false) in (
      c.in_ok-declare.ensures lexemes x ∙ ap (λ (o : Option (List ℕ)). c.args.names.now.items ++ in_namespace c.args.namespace.now o) (sym w.0),
      (w.1, ap (λ (o : Option (List ℕ)). or_earlier o c.args.namespace.now) (sym w.2)),
    )
