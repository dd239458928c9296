use Rattle.std.proofs.Common.{ap, ◌∙◌, arith, length}
use Rattle.std.proofs.lemmas.Result.{err_from_is_err_and}
use Rattle.json_ordered.proofs.Escapes.{fails_along}
use Rattle.json_ordered.proofs.Words.{word_halts, word_more, word_ends}
use Rattle.json_ordered.proofs.blanks.after_word.Goals as goal

pub returns-in_err-rest-clause-steps : goal.returns-in_err-rest-clause-steps
returns-in_err-rest-clause-steps c =
    let p = err_from_is_err_and c.from_residual.result c.from_residual.ensures.1 in
    rw (p.1, p.2) (λ levels stack v. fails_along c.in_err-rest.field-0.0 _ _ (c.loop-wanted.invariant.steps levels stack v)
    (word_halts levels stack v c.args.word.now c.loop-wanted.rest.now c.loop-wanted.wanted-index c.in_err-rest.field-0.0 c.loop-wanted-test.true c.in_err-rest.ensures.0 c.in_err-rest.ensures.1))

pub loop-wanted-preserved : goal.loop-wanted-preserved
loop-wanted-preserved c = record {
  steps = λ levels stack v. c.loop-wanted.invariant.steps levels stack v ∙ word_more levels stack v c.args.word.now c.loop-wanted.rest.now c.in_ok-rest.rest.now c.loop-wanted.wanted-index c.loop-wanted-test.true c.in_ok-rest.ensures;
  shorter = omega (arith, ap length c.in_ok-rest.ensures, c.loop-wanted.invariant.shorter);
}

pub returns-clause-steps : goal.returns-clause-steps
returns-clause-steps c = λ levels stack v. c.loop-wanted.invariant.steps levels stack v ∙ word_ends levels stack v c.args.word.now c.loop-wanted.rest.now c.loop-wanted.wanted-index c.loop-wanted-test.false
