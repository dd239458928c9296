use Rattle.std.proofs.Common.{◌≡◌, drop}
use Rattle.std.specs.List.{list_any}
use Rattle.plan_rules.specs.Validity.{is_listed_as}
use Rattle.plan_rules.specs.Breaking.{rows_in}
use Rattle.plan_rules.proofs.facts.Facts.any_listed.Given as goal

abbrev pub invariant-loop-link : goal.invariant-loop-link
invariant-loop-link l = list_any (λ link. list_any (is_listed_as link) (rows_in l.self)) (drop l.link-index l.links) ≡ list_any (λ link. list_any (is_listed_as link) (rows_in l.self)) l.links
