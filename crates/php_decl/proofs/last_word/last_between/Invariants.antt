use Rattle.std.proofs.Common.{◌≤◌, ◌<◌, ℕ}
use Rattle.php_decl.specs.Quiet.{NoneEnds}
use Rattle.php_decl.proofs.last_word.last_between.Given as goal

abbrev pub invariant-loop-at : goal.invariant-loop-at
invariant-loop-at l = record {
  within : l.at ≤ l.fn.to;
  none : (k : ℕ) → l.at ≤ k → k < l.fn.to → NoneEnds k l.text;
}

abbrev pub decreases-loop-at : goal.decreases-loop-at
decreases-loop-at l = l.at
