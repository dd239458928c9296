use Rattle.std.proofs.Common.{◌≡◌, ◌∙◌, ◌∷◌, ap, sym, map}
use Rattle.std.specs.Option.{option_or}
use Rattle.std.proofs.lemmas.Result.{IfOk-weaker}
use Rattle.plan_rules.specs.Validity.{two_owners}
use Rattle.plan_rules.specs.Breaking.{parties_in, links_rule, packages_rule}
use Rattle.plan_rules.proofs.checking.broken.Goals as goal

pub returns-in-Some : goal.returns-in-Some
returns-in-Some c =
    let root = c.args.root.now in
    let members = map (λ member. member.now.«package») c.args.members.now in
    let facts = c.in_ok-facts.facts in
    let list_is : parties_in facts ≡ root.«package» ∷ members = ap (map (λ party. party.now)) (c.in_ok-facts.ensures.parties ∙ c.as_slice.ensures.value) ∙ c.in_ok-parties.ensures in
    ap (λ rule. option_or rule (links_rule (root.«package» ∷ members) root members)) (sym c.in-Some.is ∙ c.in_ok-rule.ensures (parties_in facts) c.in_ok-facts.ensures.right.index ∙ ap two_owners list_is)

pub returns : goal.returns
returns c =
    let root = c.args.root.now in
    let members = map (λ member. member.now.«package») c.args.members.now in
    let facts = c.in_ok-facts.facts in
    let list_is : parties_in facts ≡ root.«package» ∷ members = ap (map (λ party. party.now)) (c.in_ok-facts.ensures.parties ∙ c.as_slice.ensures.value) ∙ c.in_ok-parties.ensures in
    IfOk-weaker c.linked.result (λ rule. rule ≡ links_rule (parties_in facts) facts.root.now members) (λ rule. rule ≡ packages_rule root members)
    (λ rule e. e ∙ ap (λ list. links_rule list facts.root.now members) list_is ∙ ap (λ one. links_rule (root.«package» ∷ members) one members) c.in_ok-facts.ensures.root
    ∙ ap (λ found. option_or found (links_rule (root.«package» ∷ members) root members))
    (sym c.in_default.is ∙ c.in_ok-rule.ensures (parties_in facts) c.in_ok-facts.ensures.right.index ∙ ap two_owners list_is))
    c.linked.ensures
