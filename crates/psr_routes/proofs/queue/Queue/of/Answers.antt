use Rattle.std.proofs.Common.{◌≡◌, subst, arith}
use Rattle.psr_routes.specs.Waiting.{IsBlank, Holds, count_of}
use Rattle.psr_routes.proofs.Queues.{blank_holds, holds_waits}
use Rattle.psr_routes.proofs.queue.Queue.of.Goals as goal

pub loop-place-init : goal.loop-place-init
loop-place-init c =
    let needs = c.args.needs.now in
    let queue = c.in_ok-queue.queue in
    let long : c.len-count.result ≡ count_of needs = omega (arith, c.len-count.ensures, needs.numbers.ok.0) in
    blank_holds needs queue (subst (λ count. IsBlank count queue) long c.in_ok-queue.ensures)

pub settle-requires : goal.settle-requires
settle-requires c =
    let needs = c.args.needs.now in
    let queue = c.loop-place.queue in
    let all : c.loop-place.place ≡ count_of needs = omega (arith, c.len-count.ensures, needs.numbers.ok.0) in
    holds_waits needs queue c.requires (subst (Holds needs queue) all c.loop-place.invariant)
