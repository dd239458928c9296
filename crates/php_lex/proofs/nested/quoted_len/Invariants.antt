use Rattle.std.proofs.Common.{length, drop, ◌-◌, ◌≤◌}
use Rattle.php_lex.specs.Openings.{element_of}
use Rattle.php_lex.specs.Pieces.{SameEnd}
use Rattle.php_lex.proofs.nested.quoted_len.Given as goal

abbrev pub invariant-loop-at : goal.invariant-loop-at
invariant-loop-at l = record {
  within : l.at ≤ length l.text;
  same : SameEnd (element_of l.opening) l.text (drop l.at l.text);
}

abbrev pub decreases-loop-at : goal.decreases-loop-at
decreases-loop-at l = length l.text - l.at
