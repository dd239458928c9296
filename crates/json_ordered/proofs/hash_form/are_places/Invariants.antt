use Rattle.std.proofs.Common.{◌≡◌, map, drop}
use Rattle.json_ordered.specs.JsonTree.{members_of}
use Rattle.json_ordered.specs.JsonTexts.{are_places}
use Rattle.json_ordered.specs.Docs.{pair_of}
use Rattle.json_ordered.proofs.hash_form.are_places.Given as goal

abbrev pub invariant-loop-i : goal.invariant-loop-i
invariant-loop-i l = are_places l.i (members_of (map pair_of (drop l.i l.members))) ≡ are_places 0 (members_of (map pair_of l.members))
