use Rattle.std.proofs.Common.{arith}
use Rattle.psr_routes.specs.Waiting.{remaining}
use Rattle.psr_routes.proofs.NameNumbers.{fits, agrees}
use Rattle.psr_routes.proofs.NextPackage.{Agrees, starts, ends}
use Rattle.psr_routes.proofs.order.package_order.Goals as goal

pub of-requires-2 : goal.of-requires-2
of-requires-2 c = fits c.args.members.now c.in_ok-needs.needs c.in_ok-needs.ensures

pub loop-init : goal.loop-init
loop-init c =
    let members = c.args.members.now in
    let needs = c.in_ok-needs.needs in
    let queue = c.in_ok-queue.queue in
    let agree : Agrees members needs = agrees members needs c.in_ok-needs.ensures in
    record {
      waits = c.in_ok-queue.ensures.waits;
      unseen = c.in_ok-queue.ensures.unseen;
      taken = λ count e. starts members needs queue c.in_ok-order.order.items count (λ place below. c.in_ok-queue.ensures.all place (omega (arith, below, agree.many))) c.in_ok-order.ensures.items e;
    }

pub returns : goal.returns
returns c = record { exact = ends c.args.members.now (remaining c.args.members.now c.in_ok-needs.needs c.loop.queue) c.loop.order.items (c.loop.invariant.taken 0 (omega arith)) }
