use Rattle.std.proofs.Common.{◌≡◌, drop}
use Rattle.tree_dev.specs.Moves.{without_all, paths_of}
use Rattle.tree_dev.proofs.moves.remove_placed.Given as goal

abbrev pub invariant-loop-placed : goal.invariant-loop-placed
invariant-loop-placed l = without_all l.files (paths_of (drop l.placed-index l.entries)) ≡ without_all l.fn.files (paths_of l.entries)
