use Rattle.std.proofs.Common.{◌<◌, length, arith}
use Rattle.std.proofs.lemmas.List.{drop_more, drop_all}
use Rattle.path_name.proofs.joined.compare_ranks.Goals as goal

pub returns-then-i-b : goal.returns-then-i-b
returns-then-i-b c = rw (drop_more c.args.a.now c.loop-i.i 0 c.loop-i-test.true, drop_all c.loop-i.i c.args.b.now c.if-i-b.true) at c.loop-i.invariant

pub returns-then-a-b : goal.returns-then-a-b
returns-then-a-b c =
    let within : c.loop-i.i < length c.args.b.now = omega arith in
    rw (drop_all c.loop-i.i c.args.a.now c.loop-i-test.false, drop_more c.args.b.now c.loop-i.i 0 within) at c.loop-i.invariant
