use Rattle.std.proofs.Common.{◌∙◌}
use Rattle.std.proofs.lemmas.Result.{err_from_is_err_and}
use Rattle.lock_file.proofs.Candidates.{step, stop, end}
use Rattle.lock_file.proofs.lock_pool.candidates_of.Goals as goal

pub returns-in_err-candidate_of : goal.returns-in_err-candidate_of
returns-in_err-candidate_of c =
    let p = err_from_is_err_and c.from_residual-in_err-candidate_of.result c.from_residual-in_err-candidate_of.ensures.1 in
    rw (p.1, p.2) (λ ne. c.loop-locked.invariant ∙ stop c.args.project.now c.args.some.now c.loop-locked.locked-index c.locked-item.result c.loop-locked-test.true c.locked-item.is
    c.loop-locked.candidates.items c.in_err-candidate_of.field-0.0 (c.in_err-candidate_of.ensures ne))

pub loop-locked-preserved : goal.loop-locked-preserved
loop-locked-preserved c = c.loop-locked.invariant ∙ step c.args.project.now c.args.some.now c.loop-locked.locked-index c.locked-item.result c.loop-locked-test.true c.locked-item.is
    c.loop-locked.candidates.items c.push.new.self.items c.in_ok-candidate_of.field-0 c.in_ok-candidate_of.ensures c.in_ok-push.ensures.items

pub returns : goal.returns
returns c = c.loop-locked.invariant ∙ end c.args.project.now c.args.some.now c.loop-locked.locked-index c.loop-locked-test.false c.loop-locked.candidates.items
