use Rattle.std.proofs.Common.{length, drop, ◌-◌, ◌≡◌, ◌≤◌}
use Rattle.php_lex.specs.Places.{first_place}
use Rattle.php_lex.specs.Tags.{is_tag}
use Rattle.php_lex.proofs.tags.html_len.Given as goal

abbrev pub invariant-loop-at : goal.invariant-loop-at
invariant-loop-at l = record {
  some : 1 ≤ l.at;
  within : l.at ≤ length l.text;
  rest : first_place is_tag l.text ≡ first_place is_tag (drop l.at l.text);
}

abbrev pub decreases-loop-at : goal.decreases-loop-at
decreases-loop-at l = length l.text - l.at
