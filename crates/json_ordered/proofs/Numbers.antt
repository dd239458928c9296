-- A number that is read part by part is a number of the grammar.
use Rattle.std.proofs.Common.{◌≡◌, ℕ, Bool, true, false, cond, ◌&&◌, eqb, inl, inr, List, [], ◌∷◌, ◌++◌, Option, Some, None, refl, sym, ap, ◌∙◌, append_assoc, arith}
use Rattle.std.specs.List.{list_all}
use Rattle.std.proofs.lemmas.Bool.{eqb-true}
use Rattle.std.proofs.lemmas.Bool.Decides.{nat_tests}
use Rattle.std.proofs.lemmas.List.{append-nil}
use Rattle.path_name.specs.Bytes.{is_digit, is_between}
use Rattle.json_ordered.specs.Json.{IsMinus, IsInt, IsSomeDigits, IsFrac, IsSign, IsNumber, is_e, is_sign}
use Rattle.json_ordered.specs.declared.number.Part.{Part}
use Rattle.json_ordered.specs.declared.number.Part.TheVariants.{Minus, Zero, Int, Point, Frac, E, Sign, Exp}
use Rattle.json_ordered.specs.JsonReading.{part_after, may_end}

pub both_kept : (b x y : Bool) → b && x ≡ true → (x ≡ true → y ≡ true) → b && y ≡ true
both_kept true x y h f = f h
both_kept false x y h f = absurd cc

pub all_append : (p : ℕ → Bool) (xs ys : List ℕ) → list_all p xs ≡ true → list_all p ys ≡ true → list_all p (xs ++ ys) ≡ true
all_append p [] ys h k = k
all_append p (x ∷ xs) ys h k = both_kept (p x) (list_all p xs) (list_all p (xs ++ ys)) h (λ e. all_append p xs ys e k)

-- one more digit at the end
some_more : (ds : List ℕ) (d : ℕ) → IsSomeDigits ds → is_digit d ≡ true → IsSomeDigits (ds ++ d ∷ [])
some_more ds d h k = (h.0, h.1 ++ d ∷ [], h.2, all_append is_digit h.1 (d ∷ []) h.3 (rw k refl), ap (λ (t : List ℕ). t ++ d ∷ []) h.4)

-- what has come of a number, by the part that came last
pub record IsUpToInt (text : List ℕ) : Type 0 where
  pub minus : List ℕ
  pub int : List ℕ
  pub is_minus : IsMinus minus
  pub is_int : IsInt int
  pub parts : text ≡ minus ++ int

pub record IsUpToFrac (text : List ℕ) : Type 0 where
  pub minus : List ℕ
  pub int : List ℕ
  pub frac : List ℕ
  pub is_minus : IsMinus minus
  pub is_int : IsInt int
  pub is_frac : IsFrac frac
  pub parts : text ≡ minus ++ (int ++ frac)

-- `1` to `9` and digits, the last of which may change
abbrev IsLong : List ℕ → Type 0
IsLong text = (first : ℕ) × (rest : List ℕ) × (is_between 49 57 first ≡ true) × (list_all is_digit rest ≡ true) × (text ≡ first ∷ rest)

abbrev pub Reached : Part → List ℕ → Type 0
Reached Minus text = text ≡ 45 ∷ []
Reached Zero text = IsUpToInt text
Reached Int text = (minus : List ℕ) × (int : List ℕ) × IsMinus minus × IsLong int × (text ≡ minus ++ int)
Reached Point text = (before : List ℕ) × IsUpToInt before × (text ≡ before ++ 46 ∷ [])
Reached Frac text = (before : List ℕ) × (digits : List ℕ) × IsUpToInt before × IsSomeDigits digits × (text ≡ before ++ 46 ∷ digits)
Reached E text = (before : List ℕ) × (e : ℕ) × IsUpToFrac before × (is_e e ≡ true) × (text ≡ before ++ e ∷ [])
Reached Sign text = (before : List ℕ) × (e : ℕ) × (sign : ℕ) × IsUpToFrac before × (is_e e ≡ true) × (is_sign sign ≡ true) × (text ≡ before ++ e ∷ sign ∷ [])
Reached Exp text = (before : List ℕ) × (e : ℕ) × (sign : List ℕ) × (digits : List ℕ) × IsUpToFrac before × (is_e e ≡ true) × IsSign sign × IsSomeDigits digits × (text ≡ before ++ e ∷ (sign ++ digits))

abbrev pub ReachedNext : Option Part → List ℕ → Type 0
ReachedNext (Some part) text = Reached part text
ReachedNext None text = Unit {0}

split : (b : Bool) (x y : Option Part) (text : List ℕ) → (b ≡ true → ReachedNext x text) → (b ≡ false → ReachedNext y text) → ReachedNext (cond b x y) text
split true x y text f g = f refl
split false x y text f g = g refl

int_of_long : (text : List ℕ) → IsLong text → IsInt text
int_of_long text h = inr h

up_to_int : (text : List ℕ) → Reached Int text → IsUpToInt text
up_to_int text h = record { minus = h.0; int = h.1; is_minus = h.2; is_int = inr h.3; parts = h.4 }

no_frac : (text : List ℕ) → IsUpToInt text → IsUpToFrac text
no_frac text h = record { minus = h.minus; int = h.int; frac = []; is_minus = h.is_minus; is_int = h.is_int; is_frac = inl refl; parts = h.parts ∙ ap (λ (t : List ℕ). h.minus ++ t) (sym (append-nil h.int)) }

with_frac : (text : List ℕ) → Reached Frac text → IsUpToFrac text
with_frac text h = record {
  minus = h.2.minus;
  int = h.2.int;
  frac = 46 ∷ h.1;
  is_minus = h.2.is_minus;
  is_int = h.2.is_int;
  is_frac = inr (h.1, h.3, refl);
  parts = h.4 ∙ ap (λ (t : List ℕ). t ++ 46 ∷ h.1) h.2.parts ∙ append_assoc h.2.minus h.2.int (46 ∷ h.1);
}

no_exp : (text : List ℕ) → IsUpToFrac text → IsNumber text
no_exp text h = record {
  minus = h.minus;
  int = h.int;
  frac = h.frac;
  exp = [];
  is_minus = h.is_minus;
  is_int = h.is_int;
  is_frac = h.is_frac;
  is_exp = inl refl;
  parts = h.parts ∙ ap (λ (t : List ℕ). h.minus ++ (h.int ++ t)) (sym (append-nil h.frac));
}

with_exp : (text : List ℕ) → Reached Exp text → IsNumber text
with_exp text h = record {
  minus = h.4.minus;
  int = h.4.int;
  frac = h.4.frac;
  exp = h.1 ∷ (h.2 ++ h.3);
  is_minus = h.4.is_minus;
  is_int = h.4.is_int;
  is_frac = h.4.is_frac;
  is_exp = inr (h.1, h.2, h.3, h.5, h.6, h.7, refl);
  parts = h.8 ∙ ap (λ (t : List ℕ). t ++ h.1 ∷ (h.2 ++ h.3)) h.4.parts ∙ simp append_assoc;
}

-- a number may end so
pub number_ends : (part : Part) (text : List ℕ) → may_end part ≡ true → Reached part text → IsNumber text
number_ends Minus text e h = absurd cc
number_ends Zero text e h = no_exp text (no_frac text h)
number_ends Int text e h = no_exp text (no_frac text (up_to_int text h))
number_ends Point text e h = absurd cc
number_ends Frac text e h = no_exp text (with_frac text h)
number_ends E text e h = absurd cc
number_ends Sign text e h = absurd cc
number_ends Exp text e h = with_exp text h

-- one digit
one_digit : (d : ℕ) → is_digit d ≡ true → IsSomeDigits (d ∷ [])
one_digit d k = (d, [], k, refl, refl)

-- a digit other than `0` is `1` to `9`
long_digit : (d : ℕ) → eqb d 48 ≡ false → is_digit d ≡ true → is_between 49 57 d ≡ true
long_digit d ne k = grind (arith, nat_tests)

then_e : (text : List ℕ) (byte : ℕ) → IsUpToFrac text → ReachedNext (cond (is_e byte) (Some E) None) (text ++ byte ∷ [])
then_e text byte h = split (is_e byte) (Some E) None (text ++ byte ∷ []) (λ k. (text, byte, h, k, refl)) (λ _. tt)

then_point : (text : List ℕ) (byte : ℕ) → IsUpToInt text → eqb byte 46 ≡ true → Reached Point (text ++ byte ∷ [])
then_point text byte h k = (text, h, ap (λ (b : ℕ). text ++ b ∷ []) (eqb-true byte 46 k))

pub number_goes_on : (part : Part) (text : List ℕ) (byte : ℕ) → Reached part text → ReachedNext (part_after part byte) (text ++ byte ∷ [])
number_goes_on Minus text byte h = split (eqb byte 48) (Some Zero) (cond (is_digit byte) (Some Int) None) (text ++ byte ∷ [])
    (λ k. record { minus = text; int = byte ∷ []; is_minus = inr h; is_int = inl (ap (λ (b : ℕ). b ∷ []) (eqb-true byte 48 k)); parts = refl })
    (λ ne. split (is_digit byte) (Some Int) None (text ++ byte ∷ []) (λ k. (text, byte ∷ [], inr h, (byte, [], long_digit byte ne k, refl, refl), refl)) (λ _. tt))
number_goes_on Zero text byte h = split (eqb byte 46) (Some Point) (cond (is_e byte) (Some E) None) (text ++ byte ∷ []) (then_point text byte h) (λ _. then_e text byte (no_frac text h))
number_goes_on Int text byte h = split (is_digit byte) (Some Int) (cond (eqb byte 46) (Some Point) (cond (is_e byte) (Some E) None)) (text ++ byte ∷ [])
    (λ k. (h.0, h.1 ++ byte ∷ [], h.2, (h.3.0, h.3.1 ++ byte ∷ [], h.3.2, all_append is_digit h.3.1 (byte ∷ []) h.3.3 (rw k refl), ap (λ (t : List ℕ). t ++ byte ∷ []) h.3.4), ap (λ (t : List ℕ). t ++ byte ∷ []) h.4 ∙ append_assoc h.0 h.1 (byte ∷ [])))
    (λ _. split (eqb byte 46) (Some Point) (cond (is_e byte) (Some E) None) (text ++ byte ∷ []) (then_point text byte (up_to_int text h)) (λ _. then_e text byte (no_frac text (up_to_int text h))))
number_goes_on Point text byte h = split (is_digit byte) (Some Frac) None (text ++ byte ∷ []) (λ k. (h.0, byte ∷ [], h.1, one_digit byte k, ap (λ (t : List ℕ). t ++ byte ∷ []) h.2 ∙ append_assoc h.0 (46 ∷ []) (byte ∷ []))) (λ _. tt)
number_goes_on Frac text byte h = split (is_digit byte) (Some Frac) (cond (is_e byte) (Some E) None) (text ++ byte ∷ [])
    (λ k. (h.0, h.1 ++ byte ∷ [], h.2, some_more h.1 byte h.3 k, ap (λ (t : List ℕ). t ++ byte ∷ []) h.4 ∙ append_assoc h.0 (46 ∷ h.1) (byte ∷ [])))
    (λ _. then_e text byte (with_frac text h))
number_goes_on E text byte h = split (is_sign byte) (Some Sign) (cond (is_digit byte) (Some Exp) None) (text ++ byte ∷ [])
    (λ k. (h.0, h.1, byte, h.2, h.3, k, ap (λ (t : List ℕ). t ++ byte ∷ []) h.4 ∙ append_assoc h.0 (h.1 ∷ []) (byte ∷ [])))
    (λ _. split (is_digit byte) (Some Exp) None (text ++ byte ∷ []) (λ k. (h.0, h.1, [], byte ∷ [], h.2, h.3, inl refl, one_digit byte k, ap (λ (t : List ℕ). t ++ byte ∷ []) h.4 ∙ append_assoc h.0 (h.1 ∷ []) (byte ∷ []))) (λ _. tt))
number_goes_on Sign text byte h = split (is_digit byte) (Some Exp) None (text ++ byte ∷ [])
    (λ k. (h.0, h.1, h.2 ∷ [], byte ∷ [], h.3, h.4, inr (h.2, h.5, refl), one_digit byte k, ap (λ (t : List ℕ). t ++ byte ∷ []) h.6 ∙ append_assoc h.0 (h.1 ∷ h.2 ∷ []) (byte ∷ []))) (λ _. tt)
number_goes_on Exp text byte h = split (is_digit byte) (Some Exp) None (text ++ byte ∷ [])
    (λ k. (h.0, h.1, h.2, h.3 ++ byte ∷ [], h.4, h.5, h.6, some_more h.3 byte h.7 k, ap (λ (t : List ℕ). t ++ byte ∷ []) h.8 ∙ append_assoc h.0 (h.1 ∷ (h.2 ++ h.3)) (byte ∷ []) ∙ ap (λ (t : List ℕ). h.0 ++ h.1 ∷ t) (append_assoc h.2 h.3 (byte ∷ []))))
    (λ _. tt)

-- the first byte of a number
pub begins_minus : (byte : ℕ) → eqb byte 45 ≡ true → Reached Minus (byte ∷ [])
begins_minus byte k = ap (λ (b : ℕ). b ∷ []) (eqb-true byte 45 k)

pub begins_zero : (byte : ℕ) → eqb byte 48 ≡ true → Reached Zero (byte ∷ [])
begins_zero byte k = record { minus = []; int = byte ∷ []; is_minus = inl refl; is_int = inl (ap (λ (b : ℕ). b ∷ []) (eqb-true byte 48 k)); parts = refl }

pub begins_int : (byte : ℕ) → eqb byte 48 ≡ false → is_digit byte ≡ true → Reached Int (byte ∷ [])
begins_int byte ne k = ([], byte ∷ [], inl refl, (byte, [], long_digit byte ne k, refl, refl), refl)
