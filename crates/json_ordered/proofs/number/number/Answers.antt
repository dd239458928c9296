use Rattle.std.proofs.Common.{sym, arith}
use Rattle.json_ordered.proofs.Reader.{stops_at, stops_at_end, number_end, number_so_far}
use Rattle.json_ordered.proofs.number.number.Goals as goal

pub returns-in-None-clause-steps : goal.returns-in-None-clause-steps
returns-in-None-clause-steps c = number_end c.args.text.now c.args.first c.loop-len.part c.loop-len.len c.ended.result (stops_at c.args.text.now c.loop-len.len c.loop-len.part c.loop-len-test.true (sym c.in-None.ensures)) c.loop-len.invariant.steps c.ended.ensures

pub loop-len-preserved : goal.loop-len-preserved
loop-len-preserved c = record {
  begun = omega arith;
  within = omega arith;
  steps = number_so_far c.args.text.now c.args.first c.loop-len.part c.in-Some.next c.loop-len.len c.loop-len-test.true (sym c.in-Some.ensures) c.loop-len.invariant.steps;
}

pub returns-clause-steps : goal.returns-clause-steps
returns-clause-steps c = number_end c.args.text.now c.args.first c.loop-len.part c.loop-len.len c.ended-2.result (stops_at_end c.args.text.now c.loop-len.len c.loop-len.part c.loop-len-test.false) c.loop-len.invariant.steps c.ended-2.ensures
