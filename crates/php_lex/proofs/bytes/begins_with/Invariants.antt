use Rattle.std.proofs.Common.{length, drop, ◌-◌, ◌≡◌, ◌≤◌}
use Rattle.php_lex.specs.Places.{has_word_at}
use Rattle.php_lex.proofs.bytes.begins_with.Given as goal

abbrev pub invariant-loop-at : goal.invariant-loop-at
invariant-loop-at l = record {
  within : l.at ≤ length l.word;
  rest : has_word_at l.at (drop l.at l.word) l.text ≡ has_word_at 0 l.word l.text;
}

abbrev pub decreases-loop-at : goal.decreases-loop-at
decreases-loop-at l = length l.word - l.at
