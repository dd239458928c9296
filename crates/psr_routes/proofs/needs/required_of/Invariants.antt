use Rattle.std.proofs.Common.{◌≡◌, map, take}
use Rattle.psr_routes.specs.Numbers.{lent, required_by}
use Rattle.psr_routes.proofs.needs.required_of.Given as goal

abbrev pub invariant-loop-member : goal.invariant-loop-member
invariant-loop-member l = map (λ list. list.items) l.lists.items ≡ map (λ one. required_by (lent l.names) one.package.require) (take l.member-index l.members)
