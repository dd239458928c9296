use Rattle.std.proofs.Common.{arith}
use Rattle.class_walk.proofs.States.{drop_back}
use Rattle.class_walk.proofs.matching.matches_front.Goals as goal

pub loop-len-preserved : goal.loop-len-preserved
loop-len-preserved c = rw (drop_back c.args.text.now c.loop-len.len 0 (omega arith) (omega arith)) (c.advance.ensures _ c.loop-len.invariant)
