use Rattle.tree_std.specs.Writing.{AppendsUpTo}
use Rattle.tree_std.proofs.writing.write_whole.Given as goal

abbrev pub invariant-loop : goal.invariant-loop
invariant-loop g l = AppendsUpTo (g.W.Write.contents l.fn.to) (g.W.Write.contents l.to) l.piece l.left
