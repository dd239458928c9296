use Rattle.std.proofs.Common.{◌≡◌, ◌++◌, drop, take}
use Rattle.std.specs.BTreeSet.{contains}
use Rattle.path_name.specs.Orders.{path_cmp}
use Rattle.package_moves.specs.Joined.{AreUntaken, left_after, left_parts}
use Rattle.package_moves.proofs.search.differing_parts.Given as goal

abbrev pub invariant-loop-number : goal.invariant-loop-number
invariant-loop-number l = record {
  left : l.parts.items ++ left_after (contains path_cmp l.blocked) l.wanted (take l.number l.wanted) (drop l.number l.wanted) (drop l.number l.standing) ≡ left_parts (contains path_cmp l.blocked) l.wanted l.standing;
  untaken : AreUntaken (contains path_cmp l.blocked) l.wanted (take l.number l.wanted) l.folders;
}
