use Rattle.std.proofs.Common.{◌∙◌, ap, map}
use Rattle.std.specs.List.{list_any}
use Rattle.plan_rules.specs.Requirements.{meets}
use Rattle.plan_rules.specs.Offers.{shown, is_met}
use Rattle.plan_rules.proofs.Offering.{any_map, any_offer}
use Rattle.plan_rules.proofs.MarkedRivals.{marked_offers}
use Rattle.plan_solve.specs.Search.{meets_among}
use Rattle.plan_solve.proofs.context.Context.marked_meets.Goals as goal

pub returns : goal.returns
returns c =
    let need = c.args.need.now in
    let marks = c.args.marks.now in
    let packages = map (λ candidate. candidate.«package») c.args.self.now.pool.now.candidates in
    c.any_meets.ensures ∙ any_map (meets_among marks need) shown c.offers_at.result.now
    ∙ ap (list_any (meets_among marks need)) (c.offers_at.ensures packages c.requires.index)
    ∙ marked_offers marks (is_met need) need.name (meets need) (λ number party. any_offer need party number) 0 packages
