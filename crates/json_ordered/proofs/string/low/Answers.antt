use Rattle.std.proofs.Common.{ap, ◌∙◌}
use Rattle.std.proofs.lemmas.Result.{err_from_is_err_and}
use Rattle.json_ordered.proofs.Escapes.{fails_along, high_halts, high_more, slash_halts, slash_more, low0_halts, low0_more, low1_halts, low1_more, low2_halts, low2_more, low3_halts, low3_gave, rd_plain, pair_code}
use Rattle.json_ordered.proofs.string.low.Goals as goal

pub returns-in_err-slash-clause-steps : goal.returns-in_err-slash-clause-steps
returns-in_err-slash-clause-steps c =
    let p = err_from_is_err_and c.from_residual.result c.from_residual.ensures.1 in
    rw (p.1, p.2) (λ q same levels stack purpose. high_halts levels stack purpose c.args.out.now.items q c.args.text.now c.in_err-slash.field-0.0 c.in_err-slash.ensures.0 c.in_err-slash.ensures.1)

pub returns-in_err-u-clause-steps : goal.returns-in_err-u-clause-steps
returns-in_err-u-clause-steps c =
    let p = err_from_is_err_and c.from_residual-in_err-u.result c.from_residual-in_err-u.ensures.1 in
    rw (p.1, p.2) (λ q same levels stack purpose. fails_along c.in_err-u.field-0.0 _ _ (high_more levels stack purpose c.args.out.now.items q c.args.text.now c.in_ok-slash.slash.now c.in_ok-slash.ensures) (slash_halts levels stack purpose c.args.out.now.items q c.in_ok-slash.slash.now c.in_err-u.field-0.0 c.in_err-u.ensures.0 c.in_err-u.ensures.1))

pub returns-in_err-a-clause-steps : goal.returns-in_err-a-clause-steps
returns-in_err-a-clause-steps c =
    let p = err_from_is_err_and c.from_residual-in_err-a.result c.from_residual-in_err-a.ensures.1 in
    rw (p.1, p.2) (λ q same levels stack purpose. fails_along c.in_err-a.field-0.0 _ _ (high_more levels stack purpose c.args.out.now.items q c.args.text.now c.in_ok-slash.slash.now c.in_ok-slash.ensures ∙ slash_more levels stack purpose c.args.out.now.items q c.in_ok-slash.slash.now c.in_ok-u.u.now c.in_ok-u.ensures) (low0_halts levels stack purpose c.args.out.now.items q c.in_ok-u.u.now c.in_err-a.field-0.0 c.in_err-a.ensures.0 c.in_err-a.ensures.1))

pub returns-in_err-b-clause-steps : goal.returns-in_err-b-clause-steps
returns-in_err-b-clause-steps c =
    let p = err_from_is_err_and c.from_residual-in_err-b.result c.from_residual-in_err-b.ensures.1 in
    rw (p.1, p.2) (λ q same levels stack purpose. fails_along c.in_err-b.field-0.0 _ _ (high_more levels stack purpose c.args.out.now.items q c.args.text.now c.in_ok-slash.slash.now c.in_ok-slash.ensures ∙ slash_more levels stack purpose c.args.out.now.items q c.in_ok-slash.slash.now c.in_ok-u.u.now c.in_ok-u.ensures ∙ low0_more levels stack purpose c.args.out.now.items q c.in_ok-u.u.now c.in_ok-a.rest.now c.in_ok-a.a c.in_ok-a.ensures) (low1_halts levels stack purpose c.args.out.now.items q c.in_ok-a.ensures.byte c.in_ok-a.rest.now c.in_err-b.field-0.0 c.in_err-b.ensures.0 c.in_err-b.ensures.1))

pub returns-in_err-c-clause-steps : goal.returns-in_err-c-clause-steps
returns-in_err-c-clause-steps c =
    let p = err_from_is_err_and c.from_residual-in_err-c.result c.from_residual-in_err-c.ensures.1 in
    rw (p.1, p.2) (λ q same levels stack purpose. fails_along c.in_err-c.field-0.0 _ _ (high_more levels stack purpose c.args.out.now.items q c.args.text.now c.in_ok-slash.slash.now c.in_ok-slash.ensures ∙ slash_more levels stack purpose c.args.out.now.items q c.in_ok-slash.slash.now c.in_ok-u.u.now c.in_ok-u.ensures ∙ low0_more levels stack purpose c.args.out.now.items q c.in_ok-u.u.now c.in_ok-a.rest.now c.in_ok-a.a c.in_ok-a.ensures ∙ low1_more levels stack purpose c.args.out.now.items q c.in_ok-a.ensures.byte c.in_ok-a.rest.now c.in_ok-b.rest.now c.in_ok-b.b c.in_ok-b.ensures) (low2_halts levels stack purpose c.args.out.now.items q c.in_ok-a.ensures.byte c.in_ok-b.ensures.byte c.in_ok-b.rest.now c.in_err-c.field-0.0 c.in_err-c.ensures.0 c.in_err-c.ensures.1))

pub returns-in_err-d-clause-steps : goal.returns-in_err-d-clause-steps
returns-in_err-d-clause-steps c =
    let p = err_from_is_err_and c.from_residual-in_err-d.result c.from_residual-in_err-d.ensures.1 in
    rw (p.1, p.2) (λ q same levels stack purpose. fails_along c.in_err-d.field-0.0 _ _ (high_more levels stack purpose c.args.out.now.items q c.args.text.now c.in_ok-slash.slash.now c.in_ok-slash.ensures ∙ slash_more levels stack purpose c.args.out.now.items q c.in_ok-slash.slash.now c.in_ok-u.u.now c.in_ok-u.ensures ∙ low0_more levels stack purpose c.args.out.now.items q c.in_ok-u.u.now c.in_ok-a.rest.now c.in_ok-a.a c.in_ok-a.ensures ∙ low1_more levels stack purpose c.args.out.now.items q c.in_ok-a.ensures.byte c.in_ok-a.rest.now c.in_ok-b.rest.now c.in_ok-b.b c.in_ok-b.ensures ∙ low2_more levels stack purpose c.args.out.now.items q c.in_ok-a.ensures.byte c.in_ok-b.ensures.byte c.in_ok-b.rest.now c.in_ok-c.rest.now c.in_ok-c.c c.in_ok-c.ensures) (low3_halts levels stack purpose c.args.out.now.items q c.in_ok-a.ensures.byte c.in_ok-b.ensures.byte c.in_ok-c.ensures.byte c.in_ok-c.rest.now c.in_err-d.field-0.0 c.in_err-d.ensures.0 c.in_err-d.ensures.1))

pub returns-clause-steps : goal.returns-clause-steps
returns-clause-steps c = λ q same levels stack purpose. high_more levels stack purpose c.args.out.now.items q c.args.text.now c.in_ok-slash.slash.now c.in_ok-slash.ensures ∙ slash_more levels stack purpose c.args.out.now.items q c.in_ok-slash.slash.now c.in_ok-u.u.now c.in_ok-u.ensures ∙ low0_more levels stack purpose c.args.out.now.items q c.in_ok-u.u.now c.in_ok-a.rest.now c.in_ok-a.a c.in_ok-a.ensures ∙ low1_more levels stack purpose c.args.out.now.items q c.in_ok-a.ensures.byte c.in_ok-a.rest.now c.in_ok-b.rest.now c.in_ok-b.b c.in_ok-b.ensures ∙ low2_more levels stack purpose c.args.out.now.items q c.in_ok-a.ensures.byte c.in_ok-b.ensures.byte c.in_ok-b.rest.now c.in_ok-c.rest.now c.in_ok-c.c c.in_ok-c.ensures ∙ low3_gave levels stack purpose c.args.out.now.items q c.in_ok-a.ensures.byte c.in_ok-b.ensures.byte c.in_ok-c.ensures.byte c.in_ok-c.rest.now c.in_ok-d.rest.now c.in_ok-d.d c.in_ok-d.ensures
    ∙ rw c.in_ok-push_char.ensures.ok (ap (λ n. rd_plain levels stack purpose c.args.out.now.items n c.in_ok-d.rest.now) (pair_code q c.in_ok-a.ensures.byte c.in_ok-b.ensures.byte c.in_ok-c.ensures.byte c.in_ok-d.ensures.byte c.in_ok-a.a c.in_ok-b.b c.in_ok-c.c c.in_ok-d.d c.args.high same c.in_ok-a.ensures.value_is c.in_ok-b.ensures.value_is c.in_ok-c.ensures.value_is c.in_ok-d.ensures.value_is))
