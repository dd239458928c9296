use Rattle.std.proofs.Common.{◌≡◌, ◌≤◌, ◌<◌, ◌-◌, ℕ, false}
use Rattle.php_decl.specs.Quiet.{tail_at}
use Rattle.php_decl.proofs.last_word.has_tail.Given as goal

abbrev pub invariant-loop-at : goal.invariant-loop-at
invariant-loop-at l = l.found ≡ false → (k : ℕ) → l.fn.from ≤ k → k < l.at → tail_at k l.text ≡ false

abbrev pub decreases-loop-at : goal.decreases-loop-at
decreases-loop-at l = l.to - l.at
