use Rattle.std.proofs.Common.{◌≡◌, map, find, drop}
use Rattle.plan_rules.specs.Offers.{shown, is_taking}
use Rattle.plan_rules.proofs.offers.first_taker.Given as goal

abbrev pub invariant-loop-offer : goal.invariant-loop-offer
invariant-loop-offer l = find is_taking (map shown (drop l.offer-index l.offers)) ≡ find is_taking (map shown l.offers)
