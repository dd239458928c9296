-- The names of staged parts: numbers in decimal digits.
use Rattle.std.proofs.Common.{◌≡◌, ℕ, ◌<◌, ◌^◌, ◌==◌, Bool, true, false, List, [], ◌∷◌, Option, Some, None, refl, sym, ap, ◌∙◌, arith}
use Rattle.std.specs.Prelude.{not}
use Rattle.std.specs.List.{list_all}
use Rattle.std.specs.Ordering.{eq_by_cmp}
use Rattle.std.specs.Str.{is_utf8}
use Rattle.std.proofs.lemmas.Bool.Decides.{nat_tests}
use Rattle.std.proofs.lemmas.Str.{is_utf8-from_IsUtf8}
use Rattle.path_name.specs.Bytes.{is_digit}
use Rattle.path_name.specs.Decimals.{decimal_text, is_number, number_in}
use Rattle.path_name.specs.Orders.{byte_cmp}
use Rattle.path_name.specs.Paths.{has_no_slash, is_segment}
use Rattle.path_name.proofs.DecimalTexts.{digits_are_utf8, number_in-decimal_text}
use Rattle.tree_dev.specs.Told.{both}
use Rattle.stage_job.proofs.Below.{same_name}

number_by : (text : List ℕ) (n : ℕ) (b : Bool) → is_number text ≡ b → number_in text ≡ Some n → b ≡ true
unfolding number_in
number_by text n true e is = refl
number_by text n false e is = absurd (let none : ◌≡◌ {A = Option ℕ} None (Some n) = rw e at is in cc)

pub is_number_text : (n : ℕ) → n < 2 ^ 64 → is_number (decimal_text n) ≡ true
is_number_text n small = number_by (decimal_text n) n (is_number (decimal_text n)) refl (number_in-decimal_text n small)

digit_no_nul : (d : ℕ) → is_digit d ≡ true → not (d == 0) ≡ true
digit_no_nul d e = grind (arith, nat_tests)

digit_no_slash : (d : ℕ) → is_digit d ≡ true → not (d == 47) ≡ true
digit_no_slash d e = grind (arith, nat_tests)

digit_no_dot : (d : ℕ) → is_digit d ≡ true → (d == 46) ≡ false
digit_no_dot d e = grind (arith, nat_tests)

no_nuls : (text : List ℕ) → list_all is_digit text ≡ true → list_all (λ byte. not (byte == 0)) text ≡ true
no_nuls [] e = refl
no_nuls (d ∷ ds) e = let p = both (is_digit d) (list_all is_digit ds) e in rw (digit_no_nul d p.0) (no_nuls ds p.1)

no_slashes : (text : List ℕ) → list_all is_digit text ≡ true → has_no_slash text ≡ true
no_slashes [] e = refl
no_slashes (d ∷ ds) e = let p = both (is_digit d) (list_all is_digit ds) e in rw (digit_no_slash d p.0) (no_slashes ds p.1)

digits_segment : (text : List ℕ) → is_number text ≡ true → is_segment text ≡ true
digits_segment [] e = absurd cc
digits_segment (d ∷ ds) e =
    let p = both (is_digit d) (list_all is_digit ds) e in
    let utf8 : is_utf8 (d ∷ ds) ≡ true = is_utf8-from_IsUtf8 (d ∷ ds) (digits_are_utf8 (d ∷ ds) e) in
    rw (utf8, digit_no_nul d p.0, no_nuls ds p.1, digit_no_slash d p.0, no_slashes ds p.1, digit_no_dot d p.0) refl

pub number_segment : (n : ℕ) → n < 2 ^ 64 → is_segment (decimal_text n) ≡ true
number_segment n small = digits_segment (decimal_text n) (is_number_text n small)

same_numbers : (a b : ℕ) → Some a ≡ Some b → a ≡ b
same_numbers a b e = cc

pub other_number : (a b : ℕ) → a < 2 ^ 64 → b < 2 ^ 64 → (a ≡ b → ⊥) → eq_by_cmp byte_cmp (decimal_text a) (decimal_text b) ≡ false
other_number a b small_a small_b other = by (eq_by_cmp byte_cmp (decimal_text a) (decimal_text b)) refl
  where
    by : (e : Bool) → eq_by_cmp byte_cmp (decimal_text a) (decimal_text b) ≡ e → e ≡ false
    by true e = absurd (other (same_numbers a b
        (sym (number_in-decimal_text a small_a) ∙ ap number_in (same_name (decimal_text a) (decimal_text b) e) ∙ number_in-decimal_text b small_b)))
    by false e = refl
