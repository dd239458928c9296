use Rattle.std.proofs.Common.{◌≡◌, ℕ, ◌<◌, ◌++◌, [], not, length, map, ap, ◌∙◌, arith}
use Rattle.std.specs.Prelude.{◌&&◌, ◌==◌}
use Rattle.std.proofs.lemmas.Result.{on_ok_weaker}
use Rattle.psr_routes.specs.PackageOrder.{taken_from}
use Rattle.psr_routes.specs.Waiting.{Key, is_in, remaining, IsNext}
use Rattle.psr_routes.proofs.NameNumbers.{agrees}
use Rattle.psr_routes.proofs.Queues.{next_within}
use Rattle.psr_routes.proofs.NextPackage.{Agrees, at_within, next_is, step, stays}
use Rattle.psr_routes.proofs.order.take_next.Goals as goal

pub returns-in_default-clause-taken : goal.returns-in_default-clause-taken
returns-in_default-clause-taken c =
    let members = c.args.members.now in
    let needs = c.args.needs.now in
    let queue = c.args.queue.now in
    let order = c.args.order.now.items in
    λ count. ap (λ q. order ++ map (λ one. one.0) (taken_from count (remaining members needs q))) c.in_default.ensures.unchanged ∙ stays members needs queue count order c.in_default.ensures.none

pub returns-clause-taken : goal.returns-clause-taken
returns-clause-taken c =
    let members = c.args.members.now in
    let needs = c.args.needs.now in
    let queue = c.args.queue.now in
    let order = c.args.order.now.items in
    let place = c.in-Some.place in
    let key : Key = (c.in-Some.number, place) in
    let next : IsNext queue key = c.in-Some.ensures.next in
    let agree : Agrees members needs = agrees members needs c.requires.of in
    let known = c.requires.waits.keeps.members key (next_within needs queue [] key c.requires.waits next) in
    let below : place < length members = omega (arith, known.0, agree.many) in
    let one = at_within members place below in
    let removed : (other : Key) → is_in c.settle.new.self.rest other ≡ (is_in queue.rest other && not (other.1 == place)) =
    λ other. ap (λ set. is_in set other) c.settle.ensures.rest ∙ c.remove.ensures.removed other ∙ ap (λ set. is_in set other && not (other.1 == place)) c.next.ensures.rest in
    on_ok_weaker c.settle.result (λ settled. λ (count : ℕ). ap (λ list. list ++ map (λ x. x.0) (taken_from count (remaining members needs c.settle.new.self))) c.in_ok-push.ensures.items
    ∙ step members needs queue c.settle.new.self place one.0 count order (next_is members needs agree queue c.requires.waits key one.0 one.1 next) removed) c.settle.ensures.unseen
