use Rattle.std.proofs.Common.{ap, ◌++◌, ◌∙◌}
use Rattle.manifest_read.specs.declared.types.Link.{Link}
use Rattle.psr_routes.specs.Numbers.{lent, number_if_borne}
use Rattle.psr_routes.proofs.NameNumbers.{flat_more}
use Rattle.psr_routes.proofs.needs.numbers_required.Goals as goal

pub loop-link-preserved : goal.loop-link-preserved
loop-link-preserved c =
    let names = lent c.args.names.now in
    flat_more (λ (link : Link). number_if_borne names link.name) c.args.links.now c.loop-link.link-index c.link-item.result c.loop-link.numbers.items c.put_number.new.numbers.items
    c.loop-link-test.true c.link-item.is c.loop-link.invariant (c.in_ok-put_number.ensures ∙ ap (λ name. c.loop-link.numbers.items ++ number_if_borne names name) c.as_slice.ensures)
