use Rattle.std.proofs.Common.{◌≡◌, ◌++◌, map, drop}
use Rattle.plan_rules.proofs.index.packages_of.Given as goal

abbrev pub invariant-loop-candidate : goal.invariant-loop-candidate
invariant-loop-candidate l = map (λ party. party.now) l.list.items ++ map (λ candidate. candidate.«package») (drop l.candidate-index l.candidates) ≡ map (λ candidate. candidate.«package») l.candidates
