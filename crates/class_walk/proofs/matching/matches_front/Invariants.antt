use Rattle.std.proofs.Common.{drop}
use Rattle.class_walk.specs.Matching.{AreStates}
use Rattle.class_walk.proofs.matching.matches_front.Given as goal

abbrev pub invariant-loop-len : goal.invariant-loop-len
invariant-loop-len l = AreStates l.parts l.states.items (drop l.len l.text)
