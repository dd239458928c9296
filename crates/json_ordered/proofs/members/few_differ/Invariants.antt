use Rattle.std.proofs.Common.{◌≡◌, [], map, take}
use Rattle.json_ordered.specs.JsonTree.{put_all}
use Rattle.json_ordered.specs.Docs.{pair_of}
use Rattle.json_ordered.proofs.members.few_differ.Given as goal

abbrev pub invariant-loop-i : goal.invariant-loop-i
invariant-loop-i l = put_all [] (map pair_of (take l.i l.members)) ≡ map pair_of (take l.i l.members)
