use Rattle.std.proofs.Common.{ap, ◌∙◌}
use Rattle.psr_routes.specs.declared.types.Placed.{Placed}
use Rattle.psr_routes.specs.Numbers.{lent, number_in}
use Rattle.psr_routes.proofs.NameNumbers.{mapped_more}
use Rattle.psr_routes.proofs.needs.numbers_of.Goals as goal

pub loop-member-preserved : goal.loop-member-preserved
loop-member-preserved c =
    mapped_more (λ (one : Placed). number_in (lent c.args.names.now) one.package.name) c.args.members.now c.loop-member.member-index c.member-item.result c.loop-member.numbers.items c.push.new.self.items c.number_in.result
    c.loop-member-test.true c.member-item.is c.loop-member.invariant (c.number_in.ensures.exact ∙ ap (number_in (lent c.args.names.now)) c.as_slice.ensures) c.in_ok-push.ensures.items
