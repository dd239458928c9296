use Rattle.std.proofs.Common.{◌≡◌, map, take}
use Rattle.psr_routes.specs.Numbers.{lent, number_in}
use Rattle.psr_routes.proofs.needs.numbers_of.Given as goal

abbrev pub invariant-loop-member : goal.invariant-loop-member
invariant-loop-member l = l.numbers.items ≡ map (λ one. number_in (lent l.names) one.package.name) (take l.member-index l.members)
