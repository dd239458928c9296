use Rattle.std.proofs.Common.{◌≡◌, ◌++◌, map}
use Rattle.json_ordered.specs.JsonFrames.{entry_of}
use Rattle.json_ordered.specs.Docs.{pair_of}
use Rattle.json_ordered.proofs.members.pairs.Given as goal

abbrev pub invariant-loop-name : goal.invariant-loop-name
invariant-loop-name l = map pair_of l.pairs.items ++ map entry_of l.name-iterator ≡ map entry_of l.fn.members.entries
