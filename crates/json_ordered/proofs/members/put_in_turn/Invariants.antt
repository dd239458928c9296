use Rattle.std.proofs.Common.{◌≡◌, [], map}
use Rattle.std.specs.Vec.Iter.{into_iter_items}
use Rattle.json_ordered.specs.JsonTree.{put_all}
use Rattle.json_ordered.specs.Docs.{pair_of}
use Rattle.json_ordered.specs.JsonFrames.{entry_of}
use Rattle.json_ordered.proofs.members.put_in_turn.Given as goal

abbrev pub invariant-loop-name : goal.invariant-loop-name
invariant-loop-name l = put_all (map entry_of l.all.entries) (map pair_of (into_iter_items l.name-iterator)) ≡ put_all [] (map pair_of l.fn.members.items)
