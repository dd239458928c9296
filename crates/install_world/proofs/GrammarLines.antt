-- The lines of a journal have no LF in them, and each says one thing.
use Rattle.std.proofs.Common.{◌≡◌, ℕ, zero, suc, ◌<◌, ◌^◌, ◌/◌, ◌%◌, Bool, true, false, eqb, List, [], ◌∷◌, ◌++◌, get_or, Some, refl, sym, ap, ◌∙◌, arith}
use Rattle.std.specs.Prelude.{codes, None}
use Rattle.std.specs.List.{list_all}
use Rattle.std.proofs.lemmas.List.Folds.{list_all-append}
use Rattle.std.proofs.lemmas.Bool.Decides.{nat_tests}
use Rattle.hex.specs.Hex.{encode_with, encode_lower, lower_digits}
use Rattle.path_name.specs.Bytes.{is_digit}
use Rattle.path_name.specs.Decimals.{is_number, decimal_text}
use Rattle.path_name.specs.Paths.{path_text}
use Rattle.path_name.proofs.DecimalTexts.{no_number, number_in-decimal_text}
use Rattle.path_name.proofs.Joining.{both_true, not_true}
use Rattle.install_world.specs.Lines.{is_one_line}
use Rattle.install_world.specs.JournalText.{version_words, generation_words, mark_words, target_words}
use Rattle.install_world.specs.declared.target.Target.{Target}
use Rattle.install_world.specs.declared.version.Version.{Version}
use Rattle.install_world.specs.declared.version.Version.TheVariants.{One, Two}

one_append : (front back : List ℕ) → is_one_line front ≡ true → is_one_line back ≡ true → is_one_line (front ++ back) ≡ true
one_append front back h g = list_all-append _ front back ∙ (rw (h, g) refl)

digit_no_lf : (byte : ℕ) → is_digit byte ≡ true → eqb byte 10 ≡ false
digit_no_lf byte h = grind (arith, nat_tests)

digits_one : (text : List ℕ) → list_all is_digit text ≡ true → is_one_line text ≡ true
digits_one [] h = refl
digits_one (x ∷ xs) h =
    let p = both_true (is_digit x) (list_all is_digit xs) h in
    rw (digit_no_lf x p.0, digits_one xs p.1) refl

number_digits : (text : List ℕ) → is_number text ≡ true → list_all is_digit text ≡ true
number_digits [] h = refl
number_digits (x ∷ xs) h = h

decimal_is_number : (n : ℕ) → n < 2 ^ 64 → (t : Bool) → is_number (decimal_text n) ≡ t → t ≡ true
decimal_is_number n small true h = refl
decimal_is_number n small false h = absurd (none (sym (no_number (decimal_text n) h) ∙ number_in-decimal_text n small))
  where
    none : None ≡ Some n → ⊥
    none e = cc e

pub decimal_one : (n : ℕ) → n < 2 ^ 64 → is_one_line (decimal_text n) ≡ true
decimal_one n small =
    digits_one (decimal_text n) (number_digits (decimal_text n) (decimal_is_number n small (is_number (decimal_text n)) refl))

nth_no_lf : (table : List ℕ) (i : ℕ) → is_one_line table ≡ true → eqb (get_or table i 0) 10 ≡ false
nth_no_lf [] i h = refl
nth_no_lf (x ∷ xs) zero h = not_true (eqb x 10) (both_true _ (is_one_line xs) h).0
nth_no_lf (x ∷ xs) (suc i) h = nth_no_lf xs i (both_true _ (is_one_line xs) h).1

pub hex_one : (bytes : List ℕ) → is_one_line (encode_lower bytes) ≡ true
unfolding encode_with
hex_one [] = refl
hex_one (b ∷ rest) = rw (nth_no_lf lower_digits (b / 16) refl, nth_no_lf lower_digits (b % 16) refl, hex_one rest) refl

pub version_one : (version : Version) → is_one_line (version_words version) ≡ true
version_one One = refl
version_one Two = refl

pub generation_one : (generation : ℕ) → generation < 2 ^ 64 → is_one_line (generation_words generation) ≡ true
generation_one generation small = one_append (codes "generation ") (decimal_text generation) refl (decimal_one generation small)

mark_one : (gone : Bool) → is_one_line (mark_words gone) ≡ true
mark_one false = refl
mark_one true = refl

space_one : (text : List ℕ) → is_one_line text ≡ true → is_one_line (32 ∷ text) ≡ true
space_one text h = h

pub target_one : (number : ℕ) (target : Target) → number < 2 ^ 64 → is_one_line (target_words number target) ≡ true
target_one number target small =
    one_append (mark_words target.gone) (decimal_text number ++ 32 ∷ encode_lower (path_text target.path)) (mark_one target.gone)
    (one_append (decimal_text number) (32 ∷ encode_lower (path_text target.path)) (decimal_one number small)
    (space_one (encode_lower (path_text target.path)) (hex_one (path_text target.path))))

pub same_version : (first second : Version) → version_words first ≡ version_words second → first ≡ second
same_version One One e = refl
same_version Two Two e = refl
same_version One Two e = absurd (omega (arith, ap (λ text. get_or text 16 0) e))
same_version Two One e = absurd (omega (arith, ap (λ text. get_or text 16 0) e))
