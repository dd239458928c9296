-- Texts of lines, each of which ends with LF, and the place at which a text leaves a grammar of such texts.
use Rattle.std.specs.Prelude.{◌≡◌, ℕ, ◌⊎◌, List, [], ◌∷◌, ◌++◌, length, Bool, not, ◌==◌}
use Rattle.std.specs.List.{list_all}

-- the text of a line
abbrev pub line : List ℕ → List ℕ
line words = words ++ 10 ∷ []

-- no LF
abbrev pub is_one_line : List ℕ → Bool
is_one_line text = list_all (λ byte. not (byte == 10)) text

-- nothing, or lines that all end with LF
abbrev pub IsWholeLines : List ℕ → Type 0
IsWholeLines text = (text ≡ []) ⊎ ((words : List ℕ) × (text ≡ line words))

-- a text of the grammar begins so
abbrev pub Begins : (List ℕ → Type 0) → List ℕ → Type 0
Begins IsText front = (more : List ℕ) × IsText (front ++ more)

-- The first line that is not as it must be begins at this place: the text is none of the grammar; the lines
-- before the place, each whole, begin some text of it; and no text of it begins with these and any more whole
-- lines of the text. So where the text ends after a whole line, and more would have to come, or where more
-- comes than may, the place is the end of the lines that stand as they must.
pub record IsBadFrom (IsText : List ℕ → Type 0) (text : List ℕ) (at : ℕ) : Type 0 where
  pub front : List ℕ
  pub rest : List ℕ
  pub cut : text ≡ front ++ rest
  pub place : at ≡ length front
  pub whole : IsWholeLines front
  pub begins : Begins IsText front
  pub no_further : (words after : List ℕ) → rest ≡ words ++ 10 ∷ after → Begins IsText (front ++ line words) → ⊥
  pub no_text : IsText text → ⊥
