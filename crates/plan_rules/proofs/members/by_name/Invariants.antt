use Rattle.std.proofs.Common.{◌≡◌, ◌++◌, [], map}
use Rattle.plan_rules.specs.Validity.{by_name}
use Rattle.plan_rules.proofs.members.by_name.Given as goal

abbrev pub invariant-loop-member : goal.invariant-loop-member
invariant-loop-member l = map (λ member. member.now) l.sorted.items ++ map (λ member. member.now) l.member-iterator ≡ by_name [] (map (λ member. member.now) l.list)
