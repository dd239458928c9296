use Rattle.std.proofs.Common.{◌≡◌, take}
use Rattle.tree_dev.specs.Moves.{with_all}
use Rattle.tree_dev.proofs.moves.put_all.Given as goal

abbrev pub invariant-loop-done : goal.invariant-loop-done
invariant-loop-done l = l.files ≡ with_all l.fn.files (take l.done l.entries)
