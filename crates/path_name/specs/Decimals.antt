-- Numbers as decimal digits.
use Rattle.std.specs.Prelude.{◌≡◌, ℕ, ◌<◌, ◌^◌, List, [], ◌∷◌, Bool, false, ◌&&◌, nat_lt, Option, Some, None, if◌then◌else◌}
use Rattle.std.specs.List.{list_all}
use Rattle.std.specs.Fmt.{decimal}
use Rattle.std.specs.Str.Parse.{digits_value}
use Rattle.path_name.specs.Bytes.{is_digit}
use Rattle.std.proofs.lemmas.Fmt.{decimal_is_IsNumeral}

-- one digit or more
abbrev pub is_number : List ℕ → Bool
is_number [] = false
is_number (first ∷ rest) = is_digit first && list_all is_digit rest

-- the number that digits stand for, leading zeros or not
abbrev pub number_of : List ℕ → ℕ
number_of digits = digits_value 10 digits

-- the number below 2^64 that a text of digits alone stands for
unfoldable pub number_in : List ℕ → Option ℕ
number_in text = if is_number text && nat_lt (number_of text) (2 ^ 64) then Some (number_of text) else None

-- a number's digits without leading zeros, `0` for 0
abbrev pub decimal_text : ℕ → List ℕ
decimal_text n = decimal n

pub number_of-decimal_text : (n : ℕ) → n < 2 ^ 64 → number_of (decimal_text n) ≡ n
number_of-decimal_text n small = (decimal_is_IsNumeral n small).1
