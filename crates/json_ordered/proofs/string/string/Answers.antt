use Rattle.std.proofs.Common.{[], refl, ap, ◌∙◌, arith, length, length-append}
use Rattle.json_ordered.proofs.Strings.{ran, quoted}
use Rattle.json_ordered.proofs.string.string.Goals as goal

pub returns-then-byte-eq34-clause-steps : goal.returns-then-byte-eq34-clause-steps
returns-then-byte-eq34-clause-steps c = λ levels stack purpose.
    ran levels stack purpose c.args.text.now c.args.text.now c.plain_run.result.0.now c.plain_run.result.1.now [] c.in_ok-from_slice.field-0.items refl c.plain_run.ensures.parts c.plain_run.ensures.plain c.in_ok-from_slice.ensures.items
    ∙ quoted levels stack purpose c.in_ok-from_slice.field-0.items c.plain_run.result.1.now c.in-Some.rest.now c.in-Some.byte.now c.in-Some.ensures.cases.0 c.if-byte-eq34.true

pub returns-then-byte-eq34-clause-shorter : goal.returns-then-byte-eq34-clause-shorter
returns-then-byte-eq34-clause-shorter c = omega (arith, ap length c.plain_run.ensures.parts ∙ length-append c.plain_run.result.0.now c.plain_run.result.1.now, ap length c.in-Some.ensures.cases.0)
