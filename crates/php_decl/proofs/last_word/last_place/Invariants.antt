use Rattle.std.proofs.Common.{◌≤◌, ◌-◌, ℕ, length}
use Rattle.php_decl.specs.Quiet.{NoneEnds}
use Rattle.php_decl.proofs.last_word.last_place.Given as goal

abbrev pub invariant-loop-to : goal.invariant-loop-to
invariant-loop-to l = record {
  within : l.to ≤ length l.text - 2;
  none : (k : ℕ) → l.to ≤ k → NoneEnds k l.text;
}

abbrev pub decreases-loop-to : goal.decreases-loop-to
decreases-loop-to l = l.to
