use Rattle.std.proofs.Common.{◌∙◌, ap}
use Rattle.std.specs.List.{list_any}
use Rattle.plan_rules.specs.Offers.{rows_at, shown, is_met}
use Rattle.plan_rules.proofs.Offering.{any_map, any_offers}
use Rattle.plan_rules.proofs.index.Index.meets.Goals as goal

pub returns : goal.returns
returns c = λ list known.
    let need = c.args.need.now in
    c.any_meets.ensures ∙ ap (list_any (λ offer. is_met need (shown offer))) c.at.ensures ∙ any_map (is_met need) shown (rows_at c.args.self.now.offers need.name)
    ∙ ap (list_any (is_met need)) (known need.name) ∙ any_offers need 0 list
