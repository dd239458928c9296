use Rattle.std.proofs.Common.{◌≡◌, map, take}
use Rattle.json_ordered.specs.JsonNames.{names_of}
use Rattle.json_ordered.specs.JsonSeeds.{number_of}
use Rattle.json_ordered.specs.Docs.{pair_of}
use Rattle.json_ordered.proofs.members.numbers_of.Given as goal

abbrev pub invariant-loop-member : goal.invariant-loop-member
invariant-loop-member l = l.numbers.items ≡ map number_of (names_of (map pair_of (take l.member-index l.members)))
