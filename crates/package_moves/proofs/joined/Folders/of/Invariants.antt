use Rattle.std.proofs.Common.{take}
use Rattle.std.specs.BTreeSet.{contains}
use Rattle.path_name.specs.Orders.{path_cmp}
use Rattle.package_moves.specs.Joined.{HasGroups}
use Rattle.package_moves.proofs.joined.Folders.of.Given as goal

abbrev pub invariant-loop-part : goal.invariant-loop-part
invariant-loop-part l = HasGroups (contains path_cmp l.blocked) (take l.part-index l.wanted) l.folders
