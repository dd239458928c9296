use Rattle.std.proofs.Common.{length, List, ◌≡◌, ◌+◌, ◌≤◌}
use Rattle.php_lex.specs.Cut.{Lex, IsCut, IsCutOf}
use Rattle.php_lex.proofs.cuts.lexeme_count.Given as goal

abbrev pub invariant-loop-count : goal.invariant-loop-count
invariant-loop-count l = record {
  left : l.count + length l.lexer.rest ≤ length l.text;
  cut : (more : List Lex) → IsCutOf l.lexer more → (all : List Lex) × IsCut l.text all × (length all ≡ l.count + length more);
}

abbrev pub decreases-loop-count : goal.decreases-loop-count
decreases-loop-count l = length l.lexer.rest
