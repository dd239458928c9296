use Rattle.std.proofs.Common.{length, drop, List, ℕ, ◌≡◌, ◌≤◌}
use Rattle.php_lex.specs.Cut.{Lex, IsCutOf}
use Rattle.php_decl.specs.Declarations.{solid}
use Rattle.php_decl.proofs.ahead.next_solid.Given as goal

abbrev pub invariant-loop-lexeme : goal.invariant-loop-lexeme
invariant-loop-lexeme l = record {
  shorter : length l.lexer.rest ≤ length l.fn.lexer.rest;
  on : (lexemes : List Lex) → IsCutOf l.fn.lexer lexemes → (more : List Lex) × IsCutOf l.lexer more × (solid lexemes ≡ solid more);
  place : (text : List ℕ) → l.fn.lexer.rest ≡ drop l.fn.lexer.at text → l.lexer.rest ≡ drop l.lexer.at text;
}

abbrev pub decreases-loop-lexeme : goal.decreases-loop-lexeme
decreases-loop-lexeme l = length l.lexer.rest
