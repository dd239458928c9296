use Rattle.std.proofs.Common.{◌∙◌, ap, map}
use Rattle.plan_rules.specs.Offers.{shown}
use Rattle.plan_rules.proofs.index.Index.offers_at.Goals as goal

pub returns : goal.returns
returns c = λ list known. ap (map shown) c.at.ensures ∙ known c.args.name.now
