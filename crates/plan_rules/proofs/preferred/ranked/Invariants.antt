use Rattle.std.proofs.Common.{◌≡◌, [], map, drop}
use Rattle.plan_rules.specs.Ranks.{rank_of, put_ranks}
use Rattle.plan_rules.proofs.preferred.ranked.Given as goal

abbrev pub invariant-loop-offer : goal.invariant-loop-offer
invariant-loop-offer l = put_ranks l.ranks.keys (map (rank_of l.prefer_stable) (drop l.offer-index l.offers)) ≡ put_ranks [] (map (rank_of l.prefer_stable) l.offers)
