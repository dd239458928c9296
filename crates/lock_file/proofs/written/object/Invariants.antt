use Rattle.std.proofs.Common.{◌≡◌, map, take}
use Rattle.json_ordered.specs.Docs.{pair_of}
use Rattle.lock_file.proofs.written.object.Given as goal

abbrev pub invariant-loop-member : goal.invariant-loop-member
invariant-loop-member g l = map pair_of l.pairs.items ≡ map g.X.Member.pair (take l.member-index l.members)
