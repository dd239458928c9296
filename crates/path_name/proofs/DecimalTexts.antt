-- Numbers read from their digits.
use Rattle.std.proofs.Common.{◌≡◌, ℕ, ◌<◌, ◌^◌, List, [], ◌∷◌, length, true, false, Result, Ok, Err, Some, None, refl, sym, ap, ◌∙◌, arith, rules}
use Rattle.std.specs.Prelude.{nat_lt}
use Rattle.std.specs.List.{list_all}
use Rattle.std.specs.Result.{result_ok}
use Rattle.std.specs.Str.{IsUtf8}
use Rattle.std.specs.Str.Parse.{digits_value, ParsesUnsigned}
use Rattle.std.proofs.lemmas.Bool.Decides.{nat_tests}
use Rattle.std.proofs.lemmas.Fmt.{digits_decimal, decimal_nonempty, IsAscii-from_digits}
use Rattle.std.proofs.lemmas.Str.{IsUtf8-from_ascii}
use Rattle.std.proofs.lemmas.Str.Parse.{IsNumeralModel, numerals_by_value, parse_digits}
use Rattle.path_name.specs.Bytes.{is_digit}
use Rattle.path_name.specs.Decimals.{is_number, number_of, number_in, decimal_text, number_of-decimal_text}

own : IsNumeralModel (λ digits. list_all is_digit digits ≡ true) (digits_value 10)
own = numerals_by_value _ (search rules)

number_parts : (text : List ℕ) → is_number text ≡ true → (0 < length text) × (list_all is_digit text ≡ true)
number_parts [] h = absurd cc
number_parts (first ∷ rest) h = (omega arith, h)

number_made : (text : List ℕ) → 0 < length text → list_all is_digit text ≡ true → is_number text ≡ true
number_made [] some h = absurd (omega arith)
number_made (first ∷ rest) some h = h

small : (text : List ℕ) → is_number text ≡ true → number_of text < 2 ^ 64 → number_in text ≡ Some (number_of text)
unfolding number_in
small text h below =
    let test : nat_lt (number_of text) (2 ^ 64) ≡ true = grind (arith, nat_tests) in
    rw (h, test) refl

large : (text : List ℕ) → is_number text ≡ true → ¬ (number_of text < 2 ^ 64) → number_in text ≡ None
unfolding number_in
large text h above =
    let test : nat_lt (number_of text) (2 ^ 64) ≡ false = grind (arith, nat_tests) in
    rw (h, test) refl

pub no_number : (text : List ℕ) → is_number text ≡ false → number_in text ≡ None
unfolding number_in
no_number text h = rw h refl

pub digits_are_utf8 : (text : List ℕ) → is_number text ≡ true → IsUtf8 text
digits_are_utf8 text h = IsUtf8-from_ascii text (IsAscii-from_digits text (own.to text (number_parts text h).1))

-- what std's reader of numbers gives for digits alone
pub number_in-parse : {E : Type 0} (text : List ℕ) (r : Result ℕ E) → is_number text ≡ true → ParsesUnsigned 64 10 text r → result_ok r ≡ number_in text
number_in-parse {E = E} text (Ok x) h parsed =
    let p = number_parts text h in
    let is = parse_digits own {E = E} 64 text (Ok x) parsed p.1 in
    ap Some is.1 ∙ sym (small text h is.0.1)
number_in-parse {E = E} text (Err e) h parsed =
    let p = number_parts text h in
    let is = parse_digits own {E = E} 64 text (Err e) parsed p.1 in
    sym (large text h (λ below. is (p.0, below)))

-- a number's text is read as that number
pub number_in-decimal_text : (n : ℕ) → n < 2 ^ 64 → number_in (decimal_text n) ≡ Some n
number_in-decimal_text n below =
    let is = number_of-decimal_text n below in
    small (decimal_text n) (number_made (decimal_text n) (decimal_nonempty n below) (digits_decimal own n below)) (rw is below) ∙ ap Some is
