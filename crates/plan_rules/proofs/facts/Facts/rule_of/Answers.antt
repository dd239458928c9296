use Rattle.std.proofs.Common.{◌≡◌, ◌∙◌, ap, sym, cond, Some, None}
use Rattle.std.proofs.lemmas.Result.{IfOk-weaker}
use Rattle.plan_rules.specs.declared.rule.Rule.TheVariants as rules
use Rattle.plan_rules.specs.Breaking.{rule_of, rows_in, parties_in}
use Rattle.plan_rules.proofs.facts.Facts.rule_of.Goals as goal

pub returns-in-Unmet : goal.returns-in-Unmet
returns-in-Unmet c =
    let name = c.args.name.now in
    let link = c.args.link.now in
    IfOk-weaker c.unmet_rule.result (λ rule. rule ≡ cond c.is_unmet.result (Some (rules.Unmet name link.name)) None) (λ rule. rule ≡ rule_of c.args.kind (rows_in c.args.self.now) (parties_in c.args.self.now) name link)
    (λ rule e. e ∙ ap (λ t. cond t (Some (rules.Unmet name link.name)) None) (c.is_unmet.ensures name) ∙ sym (ap (λ kind. rule_of kind (rows_in c.args.self.now) (parties_in c.args.self.now) name link) c.in-Unmet.is))
    c.unmet_rule.ensures

pub returns-in-Platform : goal.returns-in-Platform
returns-in-Platform c =
    let name = c.args.name.now in
    let link = c.args.link.now in
    IfOk-weaker c.platform_rule.result (λ rule. rule ≡ cond c.is_barred.result (Some (rules.Platform name link.name)) None) (λ rule. rule ≡ rule_of c.args.kind (rows_in c.args.self.now) (parties_in c.args.self.now) name link)
    (λ rule e. e ∙ ap (λ t. cond t (Some (rules.Platform name link.name)) None) (c.is_barred.ensures name) ∙ sym (ap (λ kind. rule_of kind (rows_in c.args.self.now) (parties_in c.args.self.now) name link) c.in-Platform.is))
    c.platform_rule.ensures
