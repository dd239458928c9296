use Rattle.std.proofs.Common.{length, drop, ◌-◌, ◌≡◌, ◌≤◌}
use Rattle.php_lex.specs.Places.{first_place}
use Rattle.php_lex.specs.Comments.{closes_block}
use Rattle.php_lex.proofs.comments.block_len.Given as goal

abbrev pub invariant-loop-at : goal.invariant-loop-at
invariant-loop-at l = record {
  within : l.at ≤ length l.text;
  some : 2 ≤ l.at;
  rest : first_place closes_block (drop 2 l.text) ≡ first_place closes_block (drop l.at l.text);
}

abbrev pub decreases-loop-at : goal.decreases-loop-at
decreases-loop-at l = length l.text - l.at
