use Rattle.std.proofs.Common.{◌≡◌, ◌++◌, ◌∷◌, map, drop}
use Rattle.plan_rules.proofs.members.parties.Given as goal

abbrev pub invariant-loop-member : goal.invariant-loop-member
invariant-loop-member l = map (λ party. party.now) l.list.items ++ map (λ member. member.now.«package») (drop l.member-index l.members) ≡ l.root ∷ map (λ member. member.now.«package») l.members
