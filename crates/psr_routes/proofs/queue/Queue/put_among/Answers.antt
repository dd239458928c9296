use Rattle.std.proofs.Common.{◌≡◌, ◌≤◌, ◌<◌, length, ap, arith}
use Rattle.psr_routes.specs.Waiting.{count_of, passed_at, required_at}
use Rattle.psr_routes.proofs.Queues.{passed_within, item_at, at_zero}
use Rattle.psr_routes.proofs.queue.Queue.put_among.Goals as goal

pub first_awaited-at-requires-clause-from : goal.first_awaited-at-requires-clause-from
first_awaited-at-requires-clause-from c =
    let needs = c.args.needs.now in
    let queue = c.args.self.now in
    let place = c.args.place in
    let below : place < count_of needs = (c.requires.waits.keeps.members (c.args.number, place) c.requires.within).0 in
    let few : passed_at queue place ≤ length (required_at needs place) = passed_within needs queue place c.requires.waits.keeps below in
    let listed : required_at needs place ≡ c.index.result.now.items = item_at needs.required.items place c.index.result.now (omega (arith, below, c.requires.waits.fits.lists)) c.index.ensures in
    let passed : c.index-2.result.now ≡ passed_at queue place = at_zero queue.passed.items place c.index-2.result.now (omega (arith, below, c.requires.waits.keeps.long.passed)) c.index-2.ensures in
    omega (arith, passed, few, ap length listed, ap length c.as_slice-required.ensures.value)
