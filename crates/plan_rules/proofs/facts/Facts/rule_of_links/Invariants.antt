use Rattle.std.proofs.Common.{◌≡◌, drop}
use Rattle.plan_rules.specs.Validity.{first_rule}
use Rattle.plan_rules.specs.Breaking.{rule_of, rows_in, parties_in}
use Rattle.plan_rules.proofs.facts.Facts.rule_of_links.Given as goal

abbrev pub invariant-loop-link : goal.invariant-loop-link
invariant-loop-link l = first_rule (rule_of l.kind (rows_in l.self) (parties_in l.self) l.name) (drop l.link-index l.links) ≡ first_rule (rule_of l.kind (rows_in l.self) (parties_in l.self) l.name) l.links
