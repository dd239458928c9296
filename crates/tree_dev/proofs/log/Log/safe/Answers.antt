use Rattle.std.proofs.Common.{ap, length, arith}
use Rattle.tree_dev.proofs.Logs.{past_of}
use Rattle.tree_dev.proofs.log.Log.safe.Goals as goal

pub returns : goal.returns
returns c =
    let pending = ap (λ d. length d.now.pending) c.self.view_is in
    let past = ap (λ d. length d.past) c.self.view_is in
    let n = past_of c.self.inside.steps.items in
    let counted = c.self.invariant.counted in
    omega (arith, pending, past, n, counted)
