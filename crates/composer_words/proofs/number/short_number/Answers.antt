use Rattle.std.proofs.Common.{List, ℕ, ◌<◌, ◌^◌, ap, subst, sym, ◌∙◌}
use Rattle.std.specs.Str.Parse.{IsNumeral, digits_value}
use Rattle.path_name.specs.Decimals.{is_number}
use Rattle.composer_words.proofs.Numbers.{no_plus, is_numeral, fits}
use Rattle.composer_words.proofs.number.short_number.Goals as goal

pub returns-in-Err : goal.returns-in-Err
returns-in-Err c =
    let text = c.args.text.now in
    let number = ap is_number (sym c.as_bytes.ensures.value) ∙ sym c.if-not-is_number.ensures in
    absurd (c.in-Err.ensures.value.0
    (subst (λ (digits : List ℕ). IsNumeral 10 digits × (digits_value 10 digits < 2 ^ 32)) (sym (no_plus text number))
    (is_numeral text number, fits text number c.if-text-gt3.false)))
