use Rattle.std.proofs.Common.{◌≡◌, true, cond, refl, subst}
use Rattle.std.specs.Vec.{with_item}
use Rattle.std.specs.Ordering.{is_eq}
use Rattle.psr_routes.specs.Waiting.{Key, key_cmp, key_of, number_at, is_in}
use Rattle.psr_routes.proofs.Queues.{at_zero, looked_waits, readies}
use Rattle.psr_routes.proofs.queue.Queue.make_ready.Goals as goal

pub returns-clause-waits : goal.returns-clause-waits
returns-clause-waits c =
    let needs = c.args.needs.now in
    let queue = c.args.self.now in
    let place = c.args.place in
    let at = c.args.at in
    let passed = with_item queue.passed place at in
    let number : c.index.result.now ≡ number_at needs place = at_zero needs.numbers.items place c.index.result.now c.requires.passes.within c.index.ensures in
    let updates : (key : Key) → is_in c.insert.new.self key ≡ cond (is_eq (key_cmp (key_of needs place) key)) true (is_in queue.ready key) =
    subst (λ n. (key : Key) → is_in c.insert.new.self key ≡ cond (is_eq (key_cmp (n, place) key)) true (is_in queue.ready key)) number c.in_ok-insert.ensures.updates.0 in
    looked_waits needs queue place at c.insert.new.self passed queue.parked queue.unseen.items c.requires.waits c.requires.passes
    (readies needs queue place at c.insert.new.self passed c.requires.waits.keeps c.requires.within refl c.requires.all updates)
