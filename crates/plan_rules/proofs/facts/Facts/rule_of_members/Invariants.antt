use Rattle.std.proofs.Common.{◌≡◌, map, drop}
use Rattle.plan_rules.specs.Validity.{first_rule}
use Rattle.plan_rules.specs.Breaking.{rule_of_package, rows_in, parties_in}
use Rattle.plan_rules.proofs.facts.Facts.rule_of_members.Given as goal

abbrev pub invariant-loop-member : goal.invariant-loop-member
invariant-loop-member l =
    first_rule (rule_of_package l.kind (rows_in l.self) (parties_in l.self)) (map (λ member. member.now.«package») (drop l.member-index l.members)) ≡ first_rule (rule_of_package l.kind (rows_in l.self) (parties_in l.self)) (map (λ member. member.now.«package») l.members)
