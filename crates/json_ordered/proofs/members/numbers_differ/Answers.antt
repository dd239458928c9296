use Rattle.std.proofs.Common.{map, subst}
use Rattle.std.specs.List.Sorted.{IsStrictlyIncreasing}
use Rattle.json_ordered.specs.JsonSeeds.{number_of}
use Rattle.json_ordered.specs.Docs.{pair_of}
use Rattle.json_ordered.proofs.Numbered.{numbers_differ}
use Rattle.json_ordered.proofs.members.numbers_differ.Goals as goal

pub returns : goal.returns
returns c = λ yes. numbers_differ number_of (map pair_of c.args.members.now) c.in_ok-numbers.numbers.items c.sort_unstable.new.self.items c.in_ok-numbers.ensures c.sort_unstable.ensures.permutation
    (subst IsStrictlyIncreasing c.as_slice.ensures.value (c.rise.ensures yes))
