use Rattle.std.proofs.Common.{sym, ap, ◌∙◌}
use Rattle.std.proofs.lemmas.Result.{err_from_is_err_and}
use Rattle.std.specs.Char.Utf16.{is_high_surrogate}
use Rattle.json_ordered.specs.JsonReading.{Unit0, High}
use Rattle.json_ordered.proofs.Escapes.{fails_along, from_along, rd_plain, unit_code, second_is, second_none, quad, unit0_halts, unit0_more, unit1_halts, unit1_more, unit2_halts, unit2_more, unit3_halts, unit3_high, unit3_gave}
use Rattle.json_ordered.proofs.string.unit.Goals as goal

pub returns-in_err-a-clause-steps : goal.returns-in_err-a-clause-steps
returns-in_err-a-clause-steps c =
    let p = err_from_is_err_and c.from_residual.result c.from_residual.ensures.1 in
    rw (p.1, p.2) (λ levels stack purpose. unit0_halts levels stack purpose c.args.out.now.items c.args.text.now c.in_err-a.field-0.0 c.in_err-a.ensures.0 c.in_err-a.ensures.1)

pub returns-in_err-b-clause-steps : goal.returns-in_err-b-clause-steps
returns-in_err-b-clause-steps c =
    let p = err_from_is_err_and c.from_residual-in_err-b.result c.from_residual-in_err-b.ensures.1 in
    rw (p.1, p.2) (λ levels stack purpose. fails_along c.in_err-b.field-0.0 _ _ (unit0_more levels stack purpose c.args.out.now.items c.args.text.now c.in_ok-a.rest.now c.in_ok-a.a c.in_ok-a.ensures) (unit1_halts levels stack purpose c.args.out.now.items c.in_ok-a.ensures.byte c.in_ok-a.rest.now c.in_err-b.field-0.0 c.in_err-b.ensures.0 (second_none c.in_ok-a.rest.now c.in_ok-a.ensures.byte c.second_end.result (second_is c.in_ok-a.a c.in_ok-a.ensures.byte c.second_end.result c.second_end.ensures.value c.in_ok-a.ensures.value_is) c.in_err-b.ensures.1)))

pub returns-in_err-c-clause-steps : goal.returns-in_err-c-clause-steps
returns-in_err-c-clause-steps c =
    let p = err_from_is_err_and c.from_residual-in_err-c.result c.from_residual-in_err-c.ensures.1 in
    rw (p.1, p.2) (λ levels stack purpose. fails_along c.in_err-c.field-0.0 _ _ (unit0_more levels stack purpose c.args.out.now.items c.args.text.now c.in_ok-a.rest.now c.in_ok-a.a c.in_ok-a.ensures ∙ unit1_more levels stack purpose c.args.out.now.items c.in_ok-a.ensures.byte c.second_end.result c.in_ok-a.rest.now c.in_ok-b.rest.now c.in_ok-b.b c.in_ok-b.ensures (second_is c.in_ok-a.a c.in_ok-a.ensures.byte c.second_end.result c.second_end.ensures.value c.in_ok-a.ensures.value_is)) (unit2_halts levels stack purpose c.args.out.now.items c.in_ok-a.ensures.byte c.in_ok-b.ensures.byte c.in_ok-b.rest.now c.in_err-c.field-0.0 c.in_err-c.ensures.0 c.in_err-c.ensures.1))

pub returns-in_err-d-clause-steps : goal.returns-in_err-d-clause-steps
returns-in_err-d-clause-steps c =
    let p = err_from_is_err_and c.from_residual-in_err-d.result c.from_residual-in_err-d.ensures.1 in
    rw (p.1, p.2) (λ levels stack purpose. fails_along c.in_err-d.field-0.0 _ _ (unit0_more levels stack purpose c.args.out.now.items c.args.text.now c.in_ok-a.rest.now c.in_ok-a.a c.in_ok-a.ensures ∙ unit1_more levels stack purpose c.args.out.now.items c.in_ok-a.ensures.byte c.second_end.result c.in_ok-a.rest.now c.in_ok-b.rest.now c.in_ok-b.b c.in_ok-b.ensures (second_is c.in_ok-a.a c.in_ok-a.ensures.byte c.second_end.result c.second_end.ensures.value c.in_ok-a.ensures.value_is) ∙ unit2_more levels stack purpose c.args.out.now.items c.in_ok-a.ensures.byte c.in_ok-b.ensures.byte c.in_ok-b.rest.now c.in_ok-c.rest.now c.in_ok-c.c c.in_ok-c.ensures) (unit3_halts levels stack purpose c.args.out.now.items c.in_ok-a.ensures.byte c.in_ok-b.ensures.byte c.in_ok-c.ensures.byte c.in_ok-c.rest.now c.in_err-d.field-0.0 c.in_err-d.ensures.0 c.in_err-d.ensures.1))

pub returns-then-is_high-clause-steps : goal.returns-then-is_high-clause-steps
returns-then-is_high-clause-steps c = λ levels stack purpose.
    let code = unit_code c.in_ok-a.ensures.byte c.in_ok-b.ensures.byte c.in_ok-c.ensures.byte c.in_ok-d.ensures.byte c.in_ok-a.a c.in_ok-b.b c.in_ok-c.c c.in_ok-d.d c.in_ok-a.ensures.value_is c.in_ok-b.ensures.value_is c.in_ok-c.ensures.value_is c.in_ok-d.ensures.value_is in
    let q = quad levels stack purpose c.args.out.now.items c.in_ok-a.ensures.byte c.in_ok-b.ensures.byte c.in_ok-c.ensures.byte c.in_ok-d.ensures.byte in
    from_along Unit0 (High q) c.args.text.now c.in_ok-d.rest.now c.args.out.now.items _ c.low.result levels stack purpose
    (unit0_more levels stack purpose c.args.out.now.items c.args.text.now c.in_ok-a.rest.now c.in_ok-a.a c.in_ok-a.ensures ∙ unit1_more levels stack purpose c.args.out.now.items c.in_ok-a.ensures.byte c.second_end.result c.in_ok-a.rest.now c.in_ok-b.rest.now c.in_ok-b.b c.in_ok-b.ensures (second_is c.in_ok-a.a c.in_ok-a.ensures.byte c.second_end.result c.second_end.ensures.value c.in_ok-a.ensures.value_is) ∙ unit2_more levels stack purpose c.args.out.now.items c.in_ok-a.ensures.byte c.in_ok-b.ensures.byte c.in_ok-b.rest.now c.in_ok-c.rest.now c.in_ok-c.c c.in_ok-c.ensures
    ∙ unit3_high levels stack purpose c.args.out.now.items c.in_ok-a.ensures.byte c.in_ok-b.ensures.byte c.in_ok-c.ensures.byte c.in_ok-c.rest.now c.in_ok-d.rest.now c.in_ok-d.d c.in_ok-d.ensures (ap is_high_surrogate code ∙ (sym c.is_high.ensures ∙ c.if-is_high.true)))
    (c.low.ensures.steps q code levels stack purpose)

pub returns-clause-steps : goal.returns-clause-steps
returns-clause-steps c = λ levels stack purpose.
    let code = unit_code c.in_ok-a.ensures.byte c.in_ok-b.ensures.byte c.in_ok-c.ensures.byte c.in_ok-d.ensures.byte c.in_ok-a.a c.in_ok-b.b c.in_ok-c.c c.in_ok-d.d c.in_ok-a.ensures.value_is c.in_ok-b.ensures.value_is c.in_ok-c.ensures.value_is c.in_ok-d.ensures.value_is in
    unit0_more levels stack purpose c.args.out.now.items c.args.text.now c.in_ok-a.rest.now c.in_ok-a.a c.in_ok-a.ensures ∙ unit1_more levels stack purpose c.args.out.now.items c.in_ok-a.ensures.byte c.second_end.result c.in_ok-a.rest.now c.in_ok-b.rest.now c.in_ok-b.b c.in_ok-b.ensures (second_is c.in_ok-a.a c.in_ok-a.ensures.byte c.second_end.result c.second_end.ensures.value c.in_ok-a.ensures.value_is) ∙ unit2_more levels stack purpose c.args.out.now.items c.in_ok-a.ensures.byte c.in_ok-b.ensures.byte c.in_ok-b.rest.now c.in_ok-c.rest.now c.in_ok-c.c c.in_ok-c.ensures
    ∙ unit3_gave levels stack purpose c.args.out.now.items c.in_ok-a.ensures.byte c.in_ok-b.ensures.byte c.in_ok-c.ensures.byte c.in_ok-c.rest.now c.in_ok-d.rest.now c.in_ok-d.d c.in_ok-d.ensures (ap is_high_surrogate code ∙ (sym c.is_high.ensures ∙ c.if-is_high.false))
    ∙ rw c.in_ok-push_char.ensures.ok (ap (λ n. rd_plain levels stack purpose c.args.out.now.items n c.in_ok-d.rest.now) code)
