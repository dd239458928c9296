use Rattle.std.proofs.Common.{◌∙◌, ap, sym, find}
use Rattle.std.specs.Option.{option_map, option_or}
use Rattle.plan_rules.specs.Validity.{is_listed_as}
use Rattle.plan_rules.specs.Breaking.{rows_in, parties_in}
use Rattle.plan_rules.proofs.facts.Facts.against.Goals as goal

pub returns-in-Some : goal.returns-in-Some
returns-in-Some c =
    ap (λ o. option_or (option_map (λ party. party.name) o) (option_map (λ row. row.name) (find (is_listed_as c.args.link.now) (rows_in c.args.self.now))))
    (sym (ap (option_map (λ party. party.now)) c.in-Some.is) ∙ c.against.ensures (parties_in c.args.self.now) c.requires.index)

pub returns-in-None : goal.returns-in-None
returns-in-None c =
    c.listed_as.ensures
    ∙ ap (λ o. option_or (option_map (λ party. party.name) o) (option_map (λ row. row.name) (find (is_listed_as c.args.link.now) (rows_in c.args.self.now))))
    (sym (ap (option_map (λ party. party.now)) c.in-None.is) ∙ c.against.ensures (parties_in c.args.self.now) c.requires.index)
