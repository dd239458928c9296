use Rattle.std.proofs.Common.{ap, ◌∙◌, arith, length, length-append}
use Rattle.std.proofs.lemmas.Result.{err_from_is_err_and}
use Rattle.json_ordered.specs.JsonReading.{As_name}
use Rattle.json_ordered.proofs.Escapes.{fails_along}
use Rattle.json_ordered.proofs.Frames.{name_halts, name_begins, colon_halts, colon_more}
use Rattle.json_ordered.proofs.values.member_name.Goals as goal

pub returns-in_err-quoted-clause-steps : goal.returns-in_err-quoted-clause-steps
returns-in_err-quoted-clause-steps c =
    let p = err_from_is_err_and c.from_residual.result c.from_residual.ensures.1 in
    rw (p.1, p.2) (λ levels stack done. name_halts levels stack done c.args.text.now c.after_blanks-text.result.now c.in_err-quoted.field-0.0 c.after_blanks-text.ensures c.in_err-quoted.ensures.0 c.in_err-quoted.ensures.1)

pub returns-in_err-name-clause-steps : goal.returns-in_err-name-clause-steps
returns-in_err-name-clause-steps c =
    let p = err_from_is_err_and c.from_residual-in_err-name.result c.from_residual-in_err-name.ensures.1 in
    rw (p.1, p.2) (λ levels stack done. fails_along c.in_err-name.field-0.0 _ _
    (name_begins levels stack done c.args.text.now c.after_blanks-text.result.now c.in_ok-quoted.quoted.now c.after_blanks-text.ensures c.in_ok-quoted.ensures)
    (c.in_err-name.ensures.steps levels stack (As_name done)))

pub returns-in_err-rest-clause-steps : goal.returns-in_err-rest-clause-steps
returns-in_err-rest-clause-steps c =
    let p = err_from_is_err_and c.from_residual-in_err-rest.result c.from_residual-in_err-rest.ensures.1 in
    rw (p.1, p.2) (λ levels stack done. fails_along c.in_err-rest.field-0.0 _ _
    (name_begins levels stack done c.args.text.now c.after_blanks-text.result.now c.in_ok-quoted.quoted.now c.after_blanks-text.ensures c.in_ok-quoted.ensures ∙ c.in_ok-name.ensures.steps levels stack (As_name done))
    (colon_halts levels stack done c.in_ok-name.name.items c.in_ok-name.rest.now c.after_blanks-colon.result.now c.in_err-rest.field-0.0 c.after_blanks-colon.ensures c.in_err-rest.ensures.0 c.in_err-rest.ensures.1))

pub returns-clause-steps : goal.returns-clause-steps
returns-clause-steps c = λ levels stack done.
    name_begins levels stack done c.args.text.now c.after_blanks-text.result.now c.in_ok-quoted.quoted.now c.after_blanks-text.ensures c.in_ok-quoted.ensures ∙ c.in_ok-name.ensures.steps levels stack (As_name done)
    ∙ colon_more levels stack done c.in_ok-name.name.items c.in_ok-name.rest.now c.after_blanks-colon.result.now c.in_ok-rest.rest.now c.after_blanks-colon.ensures c.in_ok-rest.ensures

pub returns-clause-shorter : goal.returns-clause-shorter
returns-clause-shorter c =
    let first = ap length c.after_blanks-text.ensures.parts ∙ length-append c.after_blanks-text.ensures.blanks c.after_blanks-text.result.now in
    let second = ap length c.after_blanks-colon.ensures.parts ∙ length-append c.after_blanks-colon.ensures.blanks c.after_blanks-colon.result.now in
    omega (arith, first, second, ap length c.in_ok-quoted.ensures, ap length c.in_ok-rest.ensures, c.in_ok-name.ensures.shorter)
