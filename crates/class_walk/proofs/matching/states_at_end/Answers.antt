use Rattle.std.proofs.Common.{◌≡◌, length, arith}
use Rattle.class_walk.proofs.States.{end_states}
use Rattle.class_walk.proofs.matching.states_at_end.Goals as goal

pub returns : goal.returns
returns c =
    let long : length c.loop.states.items ≡ length c.args.parts.now = omega (arith, c.loop.invariant.long, c.loop.auto.index-end, c.loop-test.false) in
    rw c.in_ok-push-2.ensures.items (end_states c.args.parts.now c.loop.states.items long c.loop.invariant.each)
