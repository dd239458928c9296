-- A text of plain bytes is left as it is by the rules before the numbered ones.
use Rattle.std.proofs.Common.{◌≡◌, ℕ, suc, ◌+◌, ◌-◌, Bool, true, false, ltb, List, [], ◌∷◌, ◌++◌, length, get_or, None, refl, ap, ◌∙◌, arith}
use Rattle.std.specs.Prelude.{not, ◌&&◌, ◌||◌, ◌==◌}
use Rattle.std.specs.List.{prefix_len, suffix_len, position_or_len, list_all, list_any}
use Rattle.std.proofs.Math.Numerals.{one-add}
use Rattle.std.proofs.lemmas.Bool.{le-ltb}
use Rattle.std.proofs.lemmas.Bool.Decides.{nat_tests}
use Rattle.std.proofs.lemmas.List.{take_all}
use Rattle.std.proofs.lemmas.List.Sums.{AllPass-from_list_all, suffix_len_is}
use Rattle.std.proofs.lemmas.List.Folds.{list_all-append}
use Rattle.path_name.specs.Bytes.{is_blank, is_digit, lower}
use Rattle.version_norm.specs.Versions.{without_blanks_before, without_blanks_after, trimmed, without_flag, with_branch_mark, branch_of, is_plus, is_blank_or_comma, without_build}
use Rattle.version_norm.proofs.Digits.{both_true}

-- no blank, comma, `@` or `+`
abbrev pub is_plain : ℕ → Bool
is_plain byte = not (is_blank byte || byte == 44 || byte == 64 || byte == 43)

pub record IsPlainByte (b : ℕ) : Type 0 where
  pub no_blank : is_blank b ≡ false
  pub no_comma : (b == 44) ≡ false
  pub no_at : (b == 64) ≡ false
  pub no_plus : (b == 43) ≡ false

plain_byte : (b : ℕ) → is_plain b ≡ true → IsPlainByte b
plain_byte b e = record { no_blank = grind (arith, nat_tests); no_comma = grind (arith, nat_tests); no_at = grind (arith, nat_tests); no_plus = grind (arith, nat_tests) }

pub digit_plain : (b : ℕ) → is_digit b ≡ true → is_plain b ≡ true
digit_plain b e = grind (arith, nat_tests)

pub digits_plain : (xs : List ℕ) → list_all is_digit xs ≡ true → list_all is_plain xs ≡ true
digits_plain [] e = refl
digits_plain (x ∷ xs) e = let both = both_true (is_digit x) (list_all is_digit xs) e in rw (digit_plain x both.0) (digits_plain xs both.1)

pub plain-append : (xs ys : List ℕ) → list_all is_plain xs ≡ true → list_all is_plain ys ≡ true → list_all is_plain (xs ++ ys) ≡ true
plain-append xs ys ex ey = list_all-append is_plain xs ys ∙ rw (ex, ey) refl

pub all_of_it : (p : ℕ → Bool) (xs : List ℕ) → list_all p xs ≡ true → prefix_len p xs ≡ length xs
all_of_it p [] e = refl
all_of_it p (x ∷ xs) e = let both = both_true (p x) (list_all p xs) e in rw (both.0, one-add) (ap suc (all_of_it p xs both.1))

-- blanks
before_kept : (b : ℕ) (bs : List ℕ) → is_plain b ≡ true → without_blanks_before (b ∷ bs) ≡ b ∷ bs
before_kept b bs e = rw (plain_byte b e).no_blank refl

after_kept : (text : List ℕ) → list_all is_plain text ≡ true → without_blanks_after text ≡ text
after_kept text e =
    let passes = AllPass-from_list_all is_plain text e in
    let none : suffix_len is_blank text ≡ length text - length text = suffix_len_is is_blank text (length text) 0 (omega arith) (λ k le lt. absurd (omega arith))
    (λ some. (plain_byte (get_or text (length text - 1) 0) (passes (length text - 1) 0 (omega arith))).no_blank) in
    let whole : length text - suffix_len is_blank text ≡ length text = omega arith in
    rw whole (take_all (length text) text (omega arith))

-- a final `@`
flag_kept : (text : List ℕ) → list_all is_plain text ≡ true → without_flag text ≡ text
flag_kept [] e = refl
flag_kept (b ∷ bs) e =
    let both = both_true (is_plain b) (list_all is_plain bs) e in
    rw ((plain_byte b both.0).no_at, flag_kept bs both.1) refl

-- a build
no_plus : (text : List ℕ) → list_all is_plain text ≡ true → list_all (λ x. not (is_plus x)) text ≡ true
no_plus [] e = refl
no_plus (b ∷ bs) e =
    let both = both_true (is_plain b) (list_all is_plain bs) e in
    rw (plain_byte b both.0).no_plus (no_plus bs both.1)

not_both : (a : Bool) → (a && false) ≡ false
not_both true = refl
not_both false = refl

build_kept : (text : List ℕ) → list_all is_plain text ≡ true → without_build text ≡ text
build_kept text e =
    let at : position_or_len is_plus text ≡ length text = all_of_it (λ x. not (is_plus x)) text (no_plus text e) in
    let past : ltb (length text + 1) (length text) ≡ false = le-ltb (length text + 1) (length text) (omega arith) in
    rw (at, past, not_both (not (list_any is_blank_or_comma text) && ltb 0 (length text))) refl

-- a first digit
digit_no_letter : (d : ℕ) → is_digit d ≡ true → ((d == 109) ≡ false) × ((d == 116) ≡ false) × ((d == 100) ≡ false) × ((lower d == 100) ≡ false)
digit_no_letter d e = (grind (arith, nat_tests), grind (arith, nat_tests), grind (arith, nat_tests), grind (arith, nat_tests))

-- What the rules before the numbered ones leave of a plain text that begins with a digit.
pub record IsLeft (text : List ℕ) : Type 0 where
  pub unflagged : without_flag (trimmed text) ≡ text
  pub unnamed : with_branch_mark text ≡ text
  pub no_branch : branch_of text ≡ None
  pub unbuilt : without_build text ≡ text

pub is_left : (d : ℕ) (ds : List ℕ) → is_digit d ≡ true → list_all is_plain (d ∷ ds) ≡ true → IsLeft (d ∷ ds)
is_left d ds digit plain =
    let letters = digit_no_letter d digit in
    let first = both_true (is_plain d) (list_all is_plain ds) plain in
    record {
      unflagged = rw (before_kept d ds first.0, after_kept (d ∷ ds) plain) (flag_kept (d ∷ ds) plain);
      unnamed = rw (letters.0, letters.1, letters.2) refl;
      no_branch = rw letters.3 refl;
      unbuilt = build_kept (d ∷ ds) plain;
    }
