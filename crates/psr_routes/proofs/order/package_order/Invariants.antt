use Rattle.std.proofs.Common.{◌≡◌, ℕ, ◌+◌, [], ◌++◌, length, map}
use Rattle.psr_routes.specs.PackageOrder.{taken_from, package_order_of}
use Rattle.psr_routes.specs.Waiting.{Waits, remaining}
use Rattle.psr_routes.proofs.order.package_order.Given as goal

abbrev pub invariant-loop : goal.invariant-loop
invariant-loop l = record {
  waits : Waits l.needs l.queue [];
  unseen : l.queue.unseen.items ≡ [];
  taken : (count : ℕ) → l.counter + count ≡ length l.members → l.order.items ++ map (λ one. one.0) (taken_from count (remaining l.members l.needs l.queue)) ≡ package_order_of l.members;
}
