use Rattle.std.proofs.Common.{sym, ap, ◌∙◌, arith}
use lib.Count.{count_trailing_zeros}
use Rattle.json_ordered.proofs.Runs.{run_through, run_stops}
use Rattle.json_ordered.proofs.scan.run_len.Goals as goal

pub returns-then-failing-ne0 : goal.returns-then-failing-ne0
returns-then-failing-ne0 g c =
    let found = c.failing-failing in
    let run = run_stops g.T.ByteTest.passes c.args.text.now c.loop-len.len 16 (omega arith) (omega arith) (omega (arith, found.ensures)) ∙ ap (count_trailing_zeros 64) (sym found.ensures) in
    omega (arith, run, c.loop-len.invariant.same)

pub loop-len-preserved : goal.loop-len-preserved
loop-len-preserved g c =
    let run = run_through g.T.ByteTest.passes c.args.text.now c.loop-len.len 16 (omega arith) (omega (arith, c.failing-failing.ensures)) in
    record { same = omega (arith, run, c.loop-len.invariant.same); within = omega arith }
