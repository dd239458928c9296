use Rattle.std.proofs.Common.{◌≡◌, ◌+◌, ◌<◌, length, set, ap, arith}
use Rattle.std.specs.Vec.{with_item}
use Rattle.psr_routes.specs.Waiting.{number_at}
use Rattle.psr_routes.proofs.Queues.{at_zero, put_at}
use Rattle.psr_routes.proofs.queue.Queue.put.Goals as goal

pub returns : goal.returns
returns c =
    let needs = c.args.needs.now in
    let queue = c.args.self.now in
    let number : c.index-number.result.now ≡ number_at needs c.args.place = at_zero needs.numbers.items c.args.place c.index-number.result.now c.requires.within c.index-number.ensures in
    let long : c.index-number.result.now < length queue.bearers.items = omega (arith, number, c.requires.fits.numbers c.args.place c.requires.within, c.requires.holds.long.bearers) in
    put_at needs queue c.args.place c.insert.new.self (with_item queue.bearers c.index-number.result.now (c.index_mut.result.now + 1)) c.push.new.self
    c.index-number.result.now number c.requires.fits c.requires.holds c.requires.within
    c.in_ok-insert.ensures.updates.0 c.in_ok-insert.ensures.ordered c.in_ok-insert.ensures.keys
    (ap (λ x. set queue.bearers.items c.index-number.result.now (x + 1)) (at_zero queue.bearers.items c.index-number.result.now c.index_mut.result.now long c.index_mut.ensures.value))
    c.in_ok-push.ensures.items
