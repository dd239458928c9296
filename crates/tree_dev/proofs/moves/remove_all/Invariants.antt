use Rattle.std.proofs.Common.{◌≡◌, drop}
use Rattle.tree_dev.specs.Moves.{without_all}
use Rattle.tree_dev.proofs.moves.remove_all.Given as goal

abbrev pub invariant-loop-path : goal.invariant-loop-path
invariant-loop-path l = without_all l.files (drop l.path-index l.paths) ≡ without_all l.fn.files l.paths
