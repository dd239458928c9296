use Rattle.std.proofs.Common.{◌≡◌, take}
use Rattle.psr_routes.specs.Numbers.{lent, required_by}
use Rattle.psr_routes.proofs.needs.numbers_required.Given as goal

abbrev pub invariant-loop-link : goal.invariant-loop-link
invariant-loop-link l = l.numbers.items ≡ required_by (lent l.names) (take l.link-index l.links)
