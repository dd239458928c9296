use Rattle.std.proofs.Common.{◌≡◌, true, false, sym, ap, ◌∙◌}
use Rattle.std.proofs.lemmas.Result.{err_from_is_err_and}
use Rattle.version_norm.specs.Pieces.{is_dot_or_dash, without_first, begins_with_digit, following_at}
use Rattle.version_norm.proofs.Front.{dot_or_dash_cut}
use Rattle.version_norm.proofs.Sequences.{goes_on, refuses, ends}
use Rattle.version_norm.proofs.pieces.read_following.Goals as goal

pub returns-in_err-number : goal.returns-in_err-number
returns-in_err-number c =
    let p = err_from_is_err_and c.from_residual.result c.from_residual.ensures.1 in
    let cut = c.after_one_of.ensures ∙ dot_or_dash_cut c.loop-rest.rest.now in
    let again = c.after_one_of-in-loop-rest.ensures ∙ dot_or_dash_cut c.loop-rest.rest.now in
    let digit : begins_with_digit (without_first is_dot_or_dash c.loop-rest.rest.now) ≡ true = ap begins_with_digit (sym cut) ∙ sym c.begins_with_digit_byte.ensures ∙ c.loop-rest-test.true in
    rw (p.1, p.2) (λ other. refuses c.loop-rest.numbers.items c.loop-rest.rest.now c.in_err-number.field-0.0 (following_at c.args.text.now) digit
    (rw (← again) (c.in_err-number.ensures.exact other)) c.loop-rest.invariant)

pub loop-rest-preserved : goal.loop-rest-preserved
loop-rest-preserved c =
    let cut = c.after_one_of.ensures ∙ dot_or_dash_cut c.loop-rest.rest.now in
    let again = c.after_one_of-in-loop-rest.ensures ∙ dot_or_dash_cut c.loop-rest.rest.now in
    let digit : begins_with_digit (without_first is_dot_or_dash c.loop-rest.rest.now) ≡ true = ap begins_with_digit (sym cut) ∙ sym c.begins_with_digit_byte.ensures ∙ c.loop-rest-test.true in
    rw c.in_ok-push.ensures.items
    (goes_on c.loop-rest.numbers.items c.loop-rest.rest.now c.in_ok-number.after.now c.in_ok-number.number (following_at c.args.text.now)
    digit (rw (← again) c.in_ok-number.ensures.exact) c.loop-rest.invariant)

pub returns : goal.returns
returns c =
    let cut = c.after_one_of.ensures ∙ dot_or_dash_cut c.loop-rest.rest.now in
    let none : begins_with_digit (without_first is_dot_or_dash c.loop-rest.rest.now) ≡ false = ap begins_with_digit (sym cut) ∙ sym c.begins_with_digit_byte.ensures ∙ c.loop-rest-test.false in
    rw c.of.ensures (ends c.loop-rest.numbers.items c.loop-rest.rest.now (following_at c.args.text.now) none c.loop-rest.invariant)
