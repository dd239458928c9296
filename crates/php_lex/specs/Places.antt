-- Places in a text. A place is given by what stands from there to the text's end.
use Rattle.std.specs.Prelude.{◌≡◌, ℕ, suc, ◌<◌, ◌≤◌, Bool, true, false, ◌&&◌, ◌||◌, ◌==◌, List, [], ◌∷◌, length, drop, Option, Some, None, if◌then◌else◌}
use Rattle.path_name.specs.Bytes.{lower}

-- the text's first byte passes the test
abbrev pub has_first : (ℕ → Bool) → List ℕ → Bool
has_first test [] = false
has_first test (b ∷ text) = test b

-- behind so many bytes the text has these; so does it in small letters; so does it from the front
abbrev pub has_word_at : ℕ → List ℕ → List ℕ → Bool
has_word_at n [] text = true
has_word_at n (b ∷ bs) text = has_first (λ c. c == b) (drop n text) && has_word_at (suc n) bs text

abbrev pub has_lower_word_at : ℕ → List ℕ → List ℕ → Bool
has_lower_word_at n [] text = true
has_lower_word_at n (b ∷ bs) text = has_first (λ c. lower c == b) (drop n text) && has_lower_word_at (suc n) bs text

abbrev pub begins_with : List ℕ → List ℕ → Bool
begins_with word text = has_word_at 0 word text

-- the longest front of bytes that pass the test, and what follows it
abbrev pub run_of : (ℕ → Bool) → List ℕ → List ℕ
run_of test [] = []
run_of test (b ∷ text) = if test b then b ∷ run_of test text else []

abbrev pub after_run : (ℕ → Bool) → List ℕ → List ℕ
after_run test [] = []
after_run test (b ∷ text) = if test b then after_run test text else b ∷ text

-- the first place before the end that passes the test
abbrev pub first_place : (List ℕ → Bool) → List ℕ → Option (List ℕ)
first_place test [] = None
first_place test (b ∷ text) = if test (b ∷ text) then Some (b ∷ text) else first_place test text

-- what stands behind so many bytes of a place, or the end where there is no such place
abbrev pub behind : ℕ → Option (List ℕ) → List ℕ
behind n None = []
behind n (Some place) = drop n place

-- that place, or the end where there is none
abbrev pub place_or_end : Option (List ℕ) → List ℕ
place_or_end place = behind 0 place

-- a space or a tab
abbrev pub is_space : ℕ → Bool
is_space byte = byte == 32 || byte == 9

-- LF or CR
abbrev pub is_line_end : ℕ → Bool
is_line_end byte = byte == 10 || byte == 13

-- place is the first from at on whose byte passes, or the end where there is none
pub record SkipsTo (test : ℕ → Bool) (text : List ℕ) (at place : ℕ) : Type 0 where
  pub low : at ≤ place
  pub within : place ≤ length text
  pub none : (j : ℕ) → at ≤ j → j < place → has_first test (drop j text) ≡ false
  pub found : place < length text → has_first test (drop place text) ≡ true
