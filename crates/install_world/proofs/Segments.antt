-- The names of entries in `.install` are segments of paths.
use Rattle.std.proofs.Common.{◌≡◌, ℕ, ◌<◌, ◌^◌, Bool, true, false, zero, suc, List, [], ◌∷◌, length, get_or, subst, codes, refl, sym, arith, rules}
use Rattle.std.specs.Prelude.{not, ◌==◌, IsTrue}
use Rattle.std.specs.List.{list_all}
use Rattle.std.specs.Str.{is_utf8, chars}
use Rattle.std.proofs.lemmas.Bool.Decides.{nat_tests}
use Rattle.std.proofs.lemmas.Fmt.{decimal_nonempty, digits_decimal}
use Rattle.std.specs.Str.Parse.{digits_value}
use Rattle.std.proofs.lemmas.Str.Parse.{IsNumeralModel, numerals_by_value}
use Rattle.std.proofs.lemmas.Str.{is_utf8-from_IsUtf8}
use Rattle.path_name.specs.Bytes.{is_digit}
use Rattle.path_name.specs.Decimals.{decimal_text, is_number}
use Rattle.path_name.specs.Orders.{bytes_are_equal}
use Rattle.path_name.specs.Paths.{is_segment}
use Rattle.path_name.proofs.DecimalTexts.{digits_are_utf8}
use Rattle.path_name.proofs.Joining.{both_true, segment_made}
use Rattle.tree_dev.proofs.Behind.{same_bytes}

not_digit : (byte n : ℕ) → is_digit byte ≡ true → n < 48 → (byte == n) ≡ false
not_digit byte n digit low = grind (arith, nat_tests)

none_is : (n : ℕ) (digits : List ℕ) → n < 48 → list_all is_digit digits ≡ true → list_all (λ byte. not (byte == n)) digits ≡ true
none_is n [] low all = refl
none_is n (byte ∷ bytes) low all =
    let both = both_true (is_digit byte) (list_all is_digit bytes) all in
    rw (not_digit byte n both.0 low, none_is n bytes low both.1) refl

other_text : (byte n : ℕ) (bytes more : List ℕ) → is_digit byte ≡ true → n < 48 → bytes_are_equal (byte ∷ bytes) (n ∷ more) ≡ false
other_text byte n bytes more digit low = by (bytes_are_equal (byte ∷ bytes) (n ∷ more)) refl
  where
    by : (same : Bool) → bytes_are_equal (byte ∷ bytes) (n ∷ more) ≡ same → same ≡ false
    by false e = refl
    by true e = let one : byte ∷ bytes ≡ n ∷ more = same_bytes (byte ∷ bytes) (n ∷ more) e in let two : byte ≡ n = cc in let three = not_digit byte n digit low in absurd (grind (arith, nat_tests))

digits_segment : (digits : List ℕ) → is_number digits ≡ true → is_segment digits ≡ true
digits_segment [] number = absurd cc
digits_segment (byte ∷ bytes) number =
    let first = both_true (is_digit byte) (list_all is_digit bytes) number in
    let utf8 = is_utf8-from_IsUtf8 (byte ∷ bytes) (digits_are_utf8 (byte ∷ bytes) number) in
    let no_nul = none_is 0 (byte ∷ bytes) (omega arith) number in
    let no_slash = none_is 47 (byte ∷ bytes) (omega arith) number in
    let here = other_text byte 46 bytes [] first.0 (omega arith) in
    let above = other_text byte 46 bytes (46 ∷ []) first.0 (omega arith) in
    segment_made (byte ∷ bytes) (record { clean = rw (utf8, no_nul) refl; whole = no_slash; here = rw here refl; above = above })

own : IsNumeralModel (λ digits. list_all is_digit digits ≡ true) (digits_value 10)
own = numerals_by_value _ (search rules)

number_made : (text : List ℕ) → 0 < length text → list_all is_digit text ≡ true → is_number text ≡ true
number_made [] some h = absurd (omega arith)
number_made (first ∷ rest) some h = h

decimal_is_number : (n : ℕ) → n < 2 ^ 64 → is_number (decimal_text n) ≡ true
decimal_is_number n small = number_made (decimal_text n) (decimal_nonempty n small) (digits_decimal own n small)

pub number_segment : (n : ℕ) → n < 2 ^ 64 → is_segment (decimal_text n) ≡ true
number_segment n small = digits_segment (decimal_text n) (decimal_is_number n small)

pub install_segment : is_segment (codes ".install") ≡ true
unfolding is_utf8 chars lib.Utf8.encode
install_segment = refl

pub new_segment : is_segment (codes "new") ≡ true
unfolding is_utf8 chars lib.Utf8.encode
new_segment = refl

pub old_segment : is_segment (codes "old") ≡ true
unfolding is_utf8 chars lib.Utf8.encode
old_segment = refl

pub journal_segment : is_segment (codes "journal") ≡ true
unfolding is_utf8 chars lib.Utf8.encode
journal_segment = refl

-- each of several segments is one
pub segment_at : (names : List (List ℕ)) (i : ℕ) (name : List ℕ) → IsTrue (list_all is_segment names) → i < length names → name ≡ get_or names i name → IsTrue (is_segment name)
segment_at [] i name all below is = absurd (omega arith)
segment_at (first ∷ rest) zero name all below is =
    subst (λ n. IsTrue (is_segment n)) (sym is) (both_true (is_segment first) (list_all is_segment rest) all).0
segment_at (first ∷ rest) (suc i) name all below is =
    segment_at rest i name (both_true (is_segment first) (list_all is_segment rest) all).1 (omega arith) is
