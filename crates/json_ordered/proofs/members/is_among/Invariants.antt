use Rattle.std.proofs.Common.{◌≡◌, map, drop}
use Rattle.std.specs.List.{list_any}
use Rattle.path_name.specs.Orders.{bytes_are_equal}
use Rattle.json_ordered.specs.JsonNames.{names_of}
use Rattle.json_ordered.specs.Docs.{pair_of}
use Rattle.json_ordered.proofs.members.is_among.Given as goal

abbrev pub invariant-loop-member : goal.invariant-loop-member
invariant-loop-member l = list_any (bytes_are_equal l.name) (names_of (map pair_of (drop l.member-index l.members))) ≡ list_any (bytes_are_equal l.name) (names_of (map pair_of l.members))
