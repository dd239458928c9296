use Rattle.std.proofs.Common.{◌≡◌, map, drop}
use Rattle.json_ordered.specs.JsonTree.{members_of}
use Rattle.json_ordered.specs.JsonParts.{value_among}
use Rattle.json_ordered.specs.Docs.{pair_of}
use Rattle.json_ordered.proofs.doc.value_among.Given as goal

abbrev pub invariant-loop-member : goal.invariant-loop-member
invariant-loop-member l = value_among (members_of (map pair_of (drop l.member-index l.members))) l.name ≡ value_among (members_of (map pair_of l.members)) l.name
