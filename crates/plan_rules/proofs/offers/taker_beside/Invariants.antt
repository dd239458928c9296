use Rattle.std.proofs.Common.{◌≡◌, map, find, drop}
use Rattle.plan_rules.specs.Offers.{shown, is_taking_beside}
use Rattle.plan_rules.proofs.offers.taker_beside.Given as goal

abbrev pub invariant-loop-offer : goal.invariant-loop-offer
invariant-loop-offer l = find (is_taking_beside l.number) (map shown (drop l.offer-index l.offers)) ≡ find (is_taking_beside l.number) (map shown l.offers)
