use Rattle.std.proofs.Common.{◌≡◌, map, find, drop}
use Rattle.plan_rules.specs.Offers.{shown, is_other_taker}
use Rattle.plan_rules.proofs.offers.first_against.Given as goal

abbrev pub invariant-loop-offer : goal.invariant-loop-offer
invariant-loop-offer l = find (is_other_taker l.from l.link) (map shown (drop l.offer-index l.offers)) ≡ find (is_other_taker l.from l.link) (map shown l.offers)
