use Rattle.std.proofs.Common.{length, drop, ◌-◌, ◌≡◌, ◌≤◌}
use Rattle.php_lex.specs.Places.{first_place}
use Rattle.php_lex.specs.Comments.{ends_line}
use Rattle.php_lex.proofs.comments.line_len.Given as goal

abbrev pub invariant-loop-at : goal.invariant-loop-at
invariant-loop-at l = record {
  within : l.at ≤ length l.text;
  some : 1 ≤ l.at;
  rest : first_place ends_line (drop 1 l.text) ≡ first_place ends_line (drop l.at l.text);
}

abbrev pub decreases-loop-at : goal.decreases-loop-at
decreases-loop-at l = length l.text - l.at
