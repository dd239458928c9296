use Rattle.std.proofs.Common.{◌≡◌, take}
use Rattle.psr_routes.specs.Numbers.{lent, names_of}
use Rattle.psr_routes.proofs.needs.names_of.Given as goal

abbrev pub invariant-loop-member : goal.invariant-loop-member
invariant-loop-member l = lent l.names.items ≡ names_of (take l.member-index l.members)
