use Rattle.std.proofs.Common.{ap, ◌∙◌, arith, length, length-append}
use Rattle.std.proofs.lemmas.Result.{err_from_is_err_and}
use Rattle.json_ordered.proofs.Escapes.{fails_along}
use Rattle.json_ordered.proofs.Strings.{ran, ends_early, quoted, slashed, bad}
use Rattle.json_ordered.proofs.string.string_by_runs.Goals as goal

pub returns-in_err-byte-clause-steps : goal.returns-in_err-byte-clause-steps
returns-in_err-byte-clause-steps c =
    let p = err_from_is_err_and c.from_residual-in_err-byte.result c.from_residual-in_err-byte.ensures.1 in
    rw (p.1, p.2, c.in_err-byte.ensures.0) (λ levels stack purpose.
    ran levels stack purpose c.args.text.now c.loop-out.rest.now c.plain_run.result.0.now c.plain_run.result.1.now c.loop-out.out.items c.extend_from_slice.new.self.items (c.loop-out.invariant.steps levels stack purpose) c.plain_run.ensures.parts c.plain_run.ensures.plain c.in_ok-extend_from_slice.ensures.items
    ∙ ends_early levels stack purpose c.extend_from_slice.new.self.items c.plain_run.result.1.now c.in_err-byte.ensures.1)

pub returns-then-byte-eq34-clause-steps : goal.returns-then-byte-eq34-clause-steps
returns-then-byte-eq34-clause-steps c = λ levels stack purpose.
    ran levels stack purpose c.args.text.now c.loop-out.rest.now c.plain_run.result.0.now c.plain_run.result.1.now c.loop-out.out.items c.extend_from_slice.new.self.items (c.loop-out.invariant.steps levels stack purpose) c.plain_run.ensures.parts c.plain_run.ensures.plain c.in_ok-extend_from_slice.ensures.items
    ∙ quoted levels stack purpose c.extend_from_slice.new.self.items c.plain_run.result.1.now c.in_ok-byte.after.now c.in_ok-byte.byte c.in_ok-byte.ensures c.if-byte-eq34.true

pub returns-then-byte-ne92-clause-steps : goal.returns-then-byte-ne92-clause-steps
returns-then-byte-ne92-clause-steps c = λ levels stack purpose.
    ran levels stack purpose c.args.text.now c.loop-out.rest.now c.plain_run.result.0.now c.plain_run.result.1.now c.loop-out.out.items c.extend_from_slice.new.self.items (c.loop-out.invariant.steps levels stack purpose) c.plain_run.ensures.parts c.plain_run.ensures.plain c.in_ok-extend_from_slice.ensures.items
    ∙ bad levels stack purpose c.extend_from_slice.new.self.items c.plain_run.result.1.now c.in_ok-byte.after.now c.in_ok-byte.byte c.in_ok-byte.ensures c.if-byte-eq34.false c.if-byte-ne92.true c.plain_run.ensures.stops

pub returns-in_err-rest-clause-steps : goal.returns-in_err-rest-clause-steps
returns-in_err-rest-clause-steps c =
    let p = err_from_is_err_and c.from_residual-in_err-rest.result c.from_residual-in_err-rest.ensures.1 in
    rw (p.1, p.2) (λ levels stack purpose. fails_along c.in_err-rest.field-0.0 _ _
    (ran levels stack purpose c.args.text.now c.loop-out.rest.now c.plain_run.result.0.now c.plain_run.result.1.now c.loop-out.out.items c.extend_from_slice.new.self.items (c.loop-out.invariant.steps levels stack purpose) c.plain_run.ensures.parts c.plain_run.ensures.plain c.in_ok-extend_from_slice.ensures.items
    ∙ slashed levels stack purpose c.extend_from_slice.new.self.items c.plain_run.result.1.now c.in_ok-byte.after.now c.in_ok-byte.byte c.in_ok-byte.ensures c.if-byte-ne92.false)
    (c.in_err-rest.ensures.steps levels stack purpose))

pub loop-out-preserved : goal.loop-out-preserved
loop-out-preserved c = record {
  steps = λ levels stack purpose.
      ran levels stack purpose c.args.text.now c.loop-out.rest.now c.plain_run.result.0.now c.plain_run.result.1.now c.loop-out.out.items c.extend_from_slice.new.self.items (c.loop-out.invariant.steps levels stack purpose) c.plain_run.ensures.parts c.plain_run.ensures.plain c.in_ok-extend_from_slice.ensures.items
      ∙ slashed levels stack purpose c.extend_from_slice.new.self.items c.plain_run.result.1.now c.in_ok-byte.after.now c.in_ok-byte.byte c.in_ok-byte.ensures c.if-byte-ne92.false
      ∙ c.in_ok-rest.ensures.steps levels stack purpose;
  shorter = omega (arith, ap length c.plain_run.ensures.parts ∙ length-append c.plain_run.result.0.now c.plain_run.result.1.now, ap length c.in_ok-byte.ensures, c.in_ok-rest.ensures.shorter, c.loop-out.invariant.shorter);
}
