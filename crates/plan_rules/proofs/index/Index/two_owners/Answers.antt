use Rattle.std.proofs.Common.{◌≡◌, ◌∙◌, map, List, [], Option, Some, None, refl}
use Rattle.std.specs.Option.{unwrap_or, option_map}
use Rattle.std.specs.BTreeMap.{get}
use Rattle.std.proofs.lemmas.Result.{IfOk-weaker}
use Rattle.path_name.specs.Orders.{byte_cmp}
use Rattle.plan_rules.specs.declared.offers.Offer.{Offer}
use Rattle.plan_rules.specs.Validity.{first_rule, two_owners}
use Rattle.plan_rules.specs.Offers.{shown, rule_of_offers}
use Rattle.plan_rules.proofs.Owners.{owners_found}
use Rattle.plan_rules.proofs.index.Index.two_owners.Goals as goal

shown_after : {V : Type 0} (items : V → List Offer) (found : Option V) → unwrap_or (option_map (λ rows. map shown (items rows)) found) [] ≡ map shown (unwrap_or (option_map items found) [])
shown_after items None = refl
shown_after items (Some rows) = refl

pub returns : goal.returns
returns c = λ list known.
    let rows = c.args.self.now.offers.rows in
    IfOk-weaker c.first_owners.result (λ rule. rule ≡ first_rule (λ entry. rule_of_offers entry.0 (map shown entry.1.items)) rows.entries) (λ rule. rule ≡ two_owners list)
    (λ rule e. e ∙ owners_found (λ some. map shown some.items) rows.entries list c.first_owners.ensures.ordered (λ name. shown_after (λ some. some.items) (get byte_cmp rows name) ∙ known name)) c.first_owners.ensures.rule
