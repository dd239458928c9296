use Rattle.std.proofs.Common.{◌≡◌, drop}
use Rattle.std.specs.List.{list_any}
use Rattle.plan_rules.specs.Validity.{is_barred}
use Rattle.plan_rules.specs.Breaking.{rows_in}
use Rattle.plan_rules.proofs.facts.Facts.any_barred.Given as goal

abbrev pub invariant-loop-link : goal.invariant-loop-link
invariant-loop-link l = list_any (λ link. is_barred (rows_in l.self) (l.name, link)) (drop l.link-index l.links) ≡ list_any (λ link. is_barred (rows_in l.self) (l.name, link)) l.links
