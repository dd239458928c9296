use Rattle.std.proofs.Common.{map, ap, ◌∙◌}
use Rattle.psr_routes.specs.declared.types.Placed.{Placed}
use Rattle.psr_routes.specs.Numbers.{lent, number_in, required_by}
use Rattle.psr_routes.proofs.NameNumbers.{is_of}
use Rattle.psr_routes.proofs.needs.Needs.of.Goals as goal

pub returns : goal.returns
returns c =
    let members = c.args.members.now in
    is_of members (lent c.in_ok-names.names.items) _ c.in_ok-names.ensures.all
    (c.in_ok-numbers_of.ensures ∙ ap (λ list. map (λ (one : Placed). number_in (lent list) one.package.name) members) c.as_slice.ensures.value)
    (c.in_ok-required_of.ensures ∙ ap (λ list. map (λ (one : Placed). required_by (lent list) one.package.require) members) c.as_slice-2.ensures.value)
