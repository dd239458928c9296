use Rattle.std.proofs.Common.{length, drop, List, ◌≡◌}
use Rattle.php_lex.specs.Cut.{Lex, IsCut}
use Rattle.php_decl.specs.Words.{Behind}
use Rattle.php_decl.proofs.names.declared_until.Given as goal

abbrev pub invariant-loop-lexeme : goal.invariant-loop-lexeme
invariant-loop-lexeme l = record {
  place : l.lexer.rest ≡ drop l.lexer.at l.text;
  on : (lexemes : List Lex) → IsCut l.text lexemes → Behind l.lexer l.behind_member l.namespace l.names.items lexemes;
}

abbrev pub decreases-loop-lexeme : goal.decreases-loop-lexeme
decreases-loop-lexeme l = length l.lexer.rest
