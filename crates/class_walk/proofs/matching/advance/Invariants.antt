use Rattle.std.proofs.Common.{◌≡◌, ◌+◌, ◌<◌, ◌≤◌, ℕ, List, ◌∷◌, false, length, drop, slice_index_or}
use Rattle.class_walk.specs.Patterns.{matches_front}
use Rattle.class_walk.specs.Matching.{AreStates}
use Rattle.class_walk.proofs.matching.advance.Given as goal

abbrev pub invariant-loop-at : goal.invariant-loop-at
invariant-loop-at l = record {
  long : length l.states.items ≡ length l.parts + 1;
  done : (text : List ℕ) → AreStates l.parts l.fn.states.items text → (k : ℕ) → k < l.at → slice_index_or l.states.items k false ≡ matches_front (drop k l.parts) (l.byte ∷ text);
  left : (k : ℕ) → l.at ≤ k → slice_index_or l.states.items k false ≡ slice_index_or l.fn.states.items k false;
}
