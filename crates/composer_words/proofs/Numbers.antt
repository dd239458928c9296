-- Short numbers.
use Rattle.std.proofs.Common.{◌≡◌, ℕ, ◌<◌, ◌≤◌, ◌^◌, Bool, true, false, List, [], ◌∷◌, length, refl, arith}
use Rattle.std.specs.Prelude.{◌&&◌}
use Rattle.std.specs.List.{list_all}
use Rattle.std.specs.Str.Parse.{AllDigits, IsNumeral, digits_value, without_leading_plus}
use Rattle.std.proofs.lemmas.Bool.Decides.{nat_tests}
use Rattle.std.proofs.lemmas.Str.{digit_value_digit}
use Rattle.std.proofs.lemmas.Str.Parse.{without_leading_plus_none}
use Rattle.path_name.specs.Bytes.{is_digit}
use Rattle.path_name.specs.Decimals.{is_number}

digit_range : (byte : ℕ) → is_digit byte ≡ true → (48 ≤ byte) × (byte ≤ 57)
digit_range byte e = grind (arith, nat_tests)

both : (a b : Bool) → (a && b) ≡ true → (a ≡ true) × (b ≡ true)
both true b e = (refl, e)
both false b e = absurd cc

digits_pass : (text : List ℕ) → list_all is_digit text ≡ true → AllDigits 10 text
digits_pass [] e = tt
digits_pass (byte ∷ rest) e =
    let parts = both _ _ e in
    let range = digit_range byte parts.0 in
    (omega (arith, digit_value_digit byte range), digits_pass rest parts.1)

pub no_plus : (text : List ℕ) → is_number text ≡ true → without_leading_plus text ≡ text
no_plus [] e = absurd cc
no_plus (byte ∷ rest) e =
    let range = digit_range byte (both _ _ e).0 in
    without_leading_plus_none (byte ∷ rest) (λ plus. omega arith)

pub is_numeral : (text : List ℕ) → is_number text ≡ true → IsNumeral 10 text
is_numeral [] e = absurd cc
is_numeral (byte ∷ rest) e = (omega arith, digits_pass (byte ∷ rest) e)

below : (text : List ℕ) → length text ≤ 3 → AllDigits 10 text → digits_value 10 text < 1000
below [] short digits = omega arith
below (a ∷ []) short digits = omega (arith, digits.0)
below (a ∷ b ∷ []) short digits = omega (arith, digits.0, digits.1.0)
below (a ∷ b ∷ c ∷ []) short digits = omega (arith, digits.0, digits.1.0, digits.1.1.0)
below (a ∷ b ∷ c ∷ d ∷ rest) short digits = absurd (omega arith)

pub fits : (text : List ℕ) → is_number text ≡ true → length text ≤ 3 → digits_value 10 text < 2 ^ 32
fits text e short = omega (arith, below text short (is_numeral text e).1)
