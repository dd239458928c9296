use Rattle.std.proofs.Common.{◌∙◌, ap, map, find}
use Rattle.std.specs.Option.{option_map}
use Rattle.plan_rules.specs.Offers.{shown, is_other_taker}
use Rattle.plan_rules.proofs.Offering.{other_takers}
use Rattle.plan_rules.proofs.index.Index.against.Goals as goal

pub returns : goal.returns
returns c = λ list known.
    let from = c.args.from.now in
    let link = c.args.link.now in
    c.first_against.ensures ∙ ap (λ offers. option_map (λ offer. offer.party) (find (is_other_taker from link) (map shown offers))) c.at.ensures
    ∙ ap (λ offers. option_map (λ offer. offer.party) (find (is_other_taker from link) offers)) (known link.name) ∙ other_takers from link 0 list
