use Rattle.std.proofs.Common.{◌≡◌, map}
use Rattle.plan_rules.specs.Validity.{first_rule}
use Rattle.plan_rules.specs.Offers.{shown, rule_of_offers}
use Rattle.plan_rules.proofs.index.first_owners.Given as goal

abbrev pub invariant-loop-name : goal.invariant-loop-name
invariant-loop-name l = first_rule (λ entry. rule_of_offers entry.0 (map shown entry.1.items)) l.name-iterator ≡ first_rule (λ entry. rule_of_offers entry.0 (map shown entry.1.items)) l.lists.rows.entries
