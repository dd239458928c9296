use Rattle.tree_std.proofs.WholeWrites.{more_written}
use Rattle.tree_std.proofs.writing.write_whole.Goals as goal

pub loop-preserved : goal.loop-preserved
loop-preserved g c = more_written _ _ _ c.args.piece.now _ _ c.loop.invariant c.in_ok-left.ensures
