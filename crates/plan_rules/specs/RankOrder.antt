-- Ranks are in a total order.
use Rattle.std.proofs.Common.{refl}
use Rattle.std.specs.Cmp.{IsTotalOrder, IsEquivalence, IsPartialOrder, partial_order_from_agreeing_total}
use Rattle.std.specs.Ordering.{eq_by_cmp, as_partial_cmp}
use Rattle.std.proofs.lemmas.Cmp.{then_total, on_total, nat_cmp_total, eq_by_cmp_equiv}
use Rattle.path_name.specs.Orders.{byte_cmp_total}
use Rattle.plan_rules.specs.Ranks.{standing_place, rank_cmp}
use Rattle.plan_rules.specs.VersionOrder.{versions_total}

pub rank_total : IsTotalOrder rank_cmp
rank_total = then_total
    (then_total (on_total (λ rank. standing_place rank.offer.standing) nat_cmp_total)
    (then_total (on_total (λ rank. rank.stability) nat_cmp_total)
    (then_total (on_total (λ rank. rank.offer.party.now.version) versions_total) (on_total (λ rank. rank.offer.party.now.name) byte_cmp_total))))
    (on_total (λ rank. rank.offer.number) nat_cmp_total)

pub rank_equality : IsEquivalence (eq_by_cmp rank_cmp)
rank_equality = eq_by_cmp_equiv rank_total

pub rank_order : IsPartialOrder (eq_by_cmp rank_cmp) (as_partial_cmp rank_cmp)
rank_order = partial_order_from_agreeing_total rank_cmp rank_total (λ a b. refl) (λ a b. refl)
