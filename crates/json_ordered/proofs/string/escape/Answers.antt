use Rattle.std.proofs.Common.{◌∷◌, length, refl, sym, ap, ◌∙◌}
use Rattle.std.proofs.lemmas.Result.{err_from_is_err_and}
use Rattle.json_ordered.specs.declared.stop.Stop.TheVariants as stop
use Rattle.json_ordered.specs.JsonReading.{Unit0, Slash}
use Rattle.json_ordered.proofs.Escapes.{from_along, letter_gave, letter_u, letter_halts, slash_end, eqb_no}
use Rattle.json_ordered.proofs.string.escape.Goals as goal

pub returns-in_err-letter-clause-steps : goal.returns-in_err-letter-clause-steps
returns-in_err-letter-clause-steps c =
    let p = err_from_is_err_and c.from_residual.result c.from_residual.ensures.1 in
    rw (p.1, p.2, c.in_err-letter.ensures.0) (λ levels stack purpose. slash_end levels stack purpose c.args.out.now.items c.args.text.now (stop.Syntax 0) c.in_err-letter.ensures.1 refl)

pub returns-then-letter-eq117-clause-steps : goal.returns-then-letter-eq117-clause-steps
returns-then-letter-eq117-clause-steps c = λ levels stack purpose.
    from_along Slash Unit0 c.args.text.now c.in_ok-letter.rest.now c.args.out.now.items c.unit.new.out.items c.unit.result levels stack purpose
    (letter_u levels stack purpose c.args.out.now.items c.args.text.now c.in_ok-letter.rest.now (c.in_ok-letter.ensures ∙ ap (λ b. b ∷ c.in_ok-letter.rest.now) c.if-letter-eq117.true))
    (c.unit.ensures.steps levels stack purpose)

pub returns-in-None-clause-steps : goal.returns-in-None-clause-steps
returns-in-None-clause-steps c = λ levels stack purpose.
    letter_halts levels stack purpose c.args.out.now.items c.in_ok-letter.letter c.args.text.now c.in_ok-letter.rest.now (stop.Syntax (length c.args.text.now)) c.in_ok-letter.ensures (eqb_no c.in_ok-letter.letter 117 c.if-letter-eq117.false) (sym c.in-None.ensures) refl

pub returns-in_ok-push-in-Some-clause-steps : goal.returns-in_ok-push-in-Some-clause-steps
returns-in_ok-push-in-Some-clause-steps c = λ levels stack purpose.
    letter_gave levels stack purpose c.args.out.now.items c.in_ok-letter.letter c.in-Some.byte c.args.text.now c.in_ok-letter.rest.now c.in_ok-letter.ensures (eqb_no c.in_ok-letter.letter 117 c.if-letter-eq117.false) (sym c.in-Some.ensures)
    ∙ rw c.in_ok-push-in-Some.ensures.items refl
