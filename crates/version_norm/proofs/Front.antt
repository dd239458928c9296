-- An optional byte at the front, and the first byte of texts in a row.
use Rattle.std.proofs.Common.{◌≡◌, ℕ, Bool, true, false, List, [], ◌∷◌, ◌++◌, refl, arith}
use Rattle.std.specs.Prelude.{codes, ◌||◌, ◌==◌}
use Rattle.std.proofs.lemmas.Bool.Decides.{nat_tests}
use Rattle.version_norm.specs.Pieces.{is_one_of, is_separator, is_dot_or_dash, is_any_v, is_small_v, without_first, begins_with_digit}
use Rattle.version_norm.specs.Grammar.{IsOptional}

-- the first byte passes
abbrev pub first_passes : (ℕ → Bool) → List ℕ → Bool
first_passes passes [] = false
first_passes passes (byte ∷ rest) = passes byte

pub first_passes-append : (p : ℕ → Bool) (xs ys : List ℕ) → first_passes p xs ≡ false → first_passes p ys ≡ false → first_passes p (xs ++ ys) ≡ false
first_passes-append p [] ys hx hy = hy
first_passes-append p (x ∷ xs) ys hx hy = hx

pub first_passes-front : (p : ℕ → Bool) (xs ys : List ℕ) → first_passes p (xs ++ ys) ≡ false → first_passes p xs ≡ false
first_passes-front p [] ys h = refl
first_passes-front p (x ∷ xs) ys h = h

pub digit-append : (xs ys : List ℕ) → begins_with_digit xs ≡ false → begins_with_digit ys ≡ false → begins_with_digit (xs ++ ys) ≡ false
digit-append [] ys hx hy = hy
digit-append (x ∷ xs) ys hx hy = hx

pub digit-front : (xs ys : List ℕ) → begins_with_digit (xs ++ ys) ≡ false → begins_with_digit xs ≡ false
digit-front [] ys h = refl
digit-front (x ∷ xs) ys h = h

-- an optional byte is cut, where what follows doesn't begin with another one
pub without_optional : (p : ℕ → Bool) (mark rest : List ℕ) → IsOptional p mark → first_passes p rest ≡ false → without_first p (mark ++ rest) ≡ rest
without_optional p [] [] is stops = refl
without_optional p [] (b ∷ bs) is stops = rw stops refl
without_optional p (m ∷ []) rest is stops = rw is refl
without_optional p (m ∷ n ∷ ms) rest is stops = absurd is

-- what is cut is an optional byte
pub record TakesOptional (p : ℕ → Bool) (text : List ℕ) : Type 0 where
  pub mark : List ℕ
  pub parts : text ≡ mark ++ without_first p text
  pub optional : IsOptional p mark

pub optional_takes : (p : ℕ → Bool) (text : List ℕ) → TakesOptional p text
optional_takes p [] = record { mark = []; parts = refl; optional = tt }
optional_takes p (b ∷ bs) = by (p b) refl
  where
    by : (t : Bool) → p b ≡ t → TakesOptional p (b ∷ bs)
    by true e = record { mark = b ∷ []; parts = rw e refl; optional = e }
    by false e = record { mark = []; parts = rw e refl; optional = tt }

-- ---- one of some bytes is cut

same_cut : (p q : ℕ → Bool) (text : List ℕ) → ((b : ℕ) → p b ≡ q b) → without_first p text ≡ without_first q text
same_cut p q [] same = refl
same_cut p q (b ∷ bs) same = rw (same b) refl

or_false : (a : Bool) → (a || false) ≡ a
or_false true = refl
or_false false = refl

or_grouped : (a b c : Bool) → (a || (b || c)) ≡ ((a || b) || c)
or_grouped true b c = refl
or_grouped false b c = refl

any_v : (b : ℕ) → is_one_of (codes "vV") b ≡ is_any_v b
any_v b = grind (arith, nat_tests)

pub separator_cut : (text : List ℕ) → without_first (is_one_of (codes "._-")) text ≡ without_first is_separator text
separator_cut text = same_cut (is_one_of (codes "._-")) is_separator text (λ b. rw (or_false (b == 45)) (or_grouped (b == 46) (b == 95) (b == 45)))

pub dot_or_dash_cut : (text : List ℕ) → without_first (is_one_of (codes ".-")) text ≡ without_first is_dot_or_dash text
dot_or_dash_cut text = same_cut (is_one_of (codes ".-")) is_dot_or_dash text (λ b. rw (or_false (b == 45)) refl)

pub any_v_cut : (text : List ℕ) → without_first (is_one_of (codes "vV")) text ≡ without_first is_any_v text
any_v_cut text = same_cut (is_one_of (codes "vV")) is_any_v text any_v

pub small_v_cut : (text : List ℕ) → without_first (is_one_of (codes "v")) text ≡ without_first is_small_v text
small_v_cut text = same_cut (is_one_of (codes "v")) is_small_v text (λ b. or_false (b == 118))
