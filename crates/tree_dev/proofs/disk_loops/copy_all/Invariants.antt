use Rattle.tree_dev.specs.Steady.{Steady}
use Rattle.tree_dev.proofs.disk_loops.copy_all.Given as goal

abbrev pub invariant-loop-to : goal.invariant-loop-to
invariant-loop-to g l = Steady l.fn.project (g.T.Tree.meaning l.fn.tree) (g.T.Tree.meaning l.tree)
