use Rattle.std.proofs.Common.{◌≡◌, ◌++◌, None, map, drop}
use Rattle.std.specs.Prelude.{option_map}
use Rattle.plan_rules.specs.Offers.{shown}
use Rattle.plan_rules.specs.Ranks.{heads}
use Rattle.plan_rules.proofs.preferred.heads.Given as goal

abbrev pub invariant-loop-offer : goal.invariant-loop-offer
invariant-loop-offer l = map shown l.list.items ++ heads l.need (option_map shown l.last) (map shown (drop l.offer-index l.offers)) ≡ heads l.need None (map shown l.offers)
