use Rattle.std.proofs.Common.{◌≡◌, ◌++◌, ◌∷◌, []}
use Rattle.psr_routes.proofs.Queues.{other_unseen, same_unseen}
use Rattle.psr_routes.proofs.queue.Queue.settle.Goals as goal

pub look_at-requires : goal.look_at-requires
look_at-requires c =
    let needs = c.args.needs.now in
    let queue = c.loop-place.self in
    let split : queue.unseen.items ≡ c.pop.new.self.items ++ c.in-Some.place ∷ [] = c.in-Some.ensures.items in
    same_unseen needs _ queue.unseen.items (c.pop.new.self.items ++ c.in-Some.place ∷ []) split (other_unseen needs queue queue.unseen.items c.pop.new.self c.loop-place.invariant.waits)
