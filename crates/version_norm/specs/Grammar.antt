-- Rules 5 and 6 as a grammar: a text is in a rule exactly where some way of cutting it into the rule's pieces
-- fits (Composer documentation, "Versions and constraints"; composer/semver, VersionParser).
use Rattle.std.specs.Prelude.{◌≡◌, ℕ, ◌≤◌, List, [], ◌∷◌, ◌++◌, length, Bool, true, false, ◌⊎◌, Option, Some, None, codes, slice_index_or}
use Rattle.path_name.specs.Bytes.{lowered}
use Rattle.path_name.specs.Decimals.{is_number, number_of}
use Rattle.version_norm.specs.declared.version.Stage.{Stage}
use Rattle.version_norm.specs.declared.version.Numbers.{Numbers}
use Rattle.version_norm.specs.declared.version.Numbered.{Numbered}
use Rattle.version_norm.specs.Pieces.{Suffix, is_separator, is_dot_or_dash, is_any_v, is_small_v, is_wildcard, begins_with_digit, anything, Word, all_words}
use Rattle.version_norm.specs.Versions.{numbered}

-- nothing, or one byte that passes
abbrev pub IsOptional : (ℕ → Bool) → List ℕ → Type 0
IsOptional passes [] = Unit {0}
IsOptional passes (byte ∷ []) = passes byte ≡ true
IsOptional passes (byte ∷ next ∷ rest) = ⊥

-- one digit or more, at most so many, and their number
pub record IsNumber (most : ℕ) (text : List ℕ) (n : ℕ) : Type 0 where
  pub digits : is_number text ≡ true
  pub short : length text ≤ most
  pub value : n ≡ number_of text

-- pieces in a row, each with its number; digits in a row are one number, so none follows a piece
abbrev pub IsRow : (List ℕ → ℕ → Type 0) → List ℕ → List ℕ → Type 0
IsRow IsPiece text [] = text ≡ []
IsRow IsPiece text (n ∷ ns) = (piece : List ℕ) × (rest : List ℕ) × (text ≡ piece ++ rest) × IsPiece piece n × (begins_with_digit rest ≡ false) × IsRow IsPiece rest ns

-- `.` and a number
abbrev pub IsPart : List ℕ → ℕ → Type 0
IsPart text n = (digits : List ℕ) × (text ≡ 46 ∷ digits) × IsNumber 18 digits n

-- `.` and one of `x`, `X`, `*`
abbrev pub IsWildPart : List ℕ → ℕ → Type 0
IsWildPart text n = (byte : ℕ) × (text ≡ 46 ∷ byte ∷ []) × (is_wildcard byte ≡ true) × (n ≡ anything)

abbrev pub IsBranchPart : List ℕ → ℕ → Type 0
IsBranchPart text n = IsPart text n ⊎ IsWildPart text n

-- a number with an optional `.` or `-` before it
abbrev pub IsFollowing : List ℕ → ℕ → Type 0
IsFollowing text n = (separator : List ℕ) × (digits : List ℕ) × (text ≡ separator ++ digits) × IsOptional is_dot_or_dash separator × IsNumber 18 digits n

-- the word is one of these in any case, and stands for that
abbrev pub IsWordOf : List Word → List ℕ → Option Stage → Type 0
IsWordOf [] word stage = ⊥
IsWordOf (one ∷ others) word stage = ((lowered word ≡ one.0) × (stage ≡ one.1)) ⊎ IsWordOf others word stage

-- an optional modifier: an optional `.`, `_` or `-`, a word in any case, and any count of numbers
abbrev pub IsModifier : List ℕ → Option Suffix → Type 0
IsModifier text None = text ≡ []
IsModifier text (Some suffix) = (separator : List ℕ) × (word : List ℕ) × (numbers : List ℕ) × (text ≡ separator ++ (word ++ numbers)) × IsOptional is_separator separator
    × IsWordOf all_words word suffix.0 × IsRow IsFollowing numbers suffix.1

-- an optional dev mark: an optional `.`, `_` or `-` and `dev` in any case
abbrev pub IsDevMark : List ℕ → Bool → Type 0
IsDevMark text false = text ≡ []
IsDevMark text true = (separator : List ℕ) × (word : List ℕ) × (text ≡ separator ++ word) × IsOptional is_separator separator × (lowered word ≡ codes "dev")

-- the first number and those of the parts, where a missing one is given
abbrev pub four_of : ℕ → ℕ → List ℕ → Numbers
four_of missing first others = record { major = first; minor = slice_index_or others 0 missing; release = slice_index_or others 1 missing; build = slice_index_or others 2 missing }

-- ---- the two rules

-- rule 5: an optional `v`, a number of one to five digits, up to three parts, an optional modifier and an optional dev mark
pub record IsClassical (text : List ℕ) (version : Numbered) : Type 0 where
  pub mark : List ℕ
  pub number : List ℕ
  pub parts : List ℕ
  pub modifier : List ℕ
  pub dev : List ℕ
  pub whole : text ≡ mark ++ (number ++ (parts ++ (modifier ++ dev)))
  pub first : ℕ
  pub others : List ℕ
  pub suffix : Option Suffix
  pub has_dev : Bool
  pub mark_is : IsOptional is_any_v mark
  pub number_is : IsNumber 5 number first
  pub parts_are : IsRow IsPart parts others
  pub at_most_three : length others ≤ 3
  pub modifier_is : IsModifier modifier suffix
  pub dev_is : IsDevMark dev has_dev
  pub version_is : version ≡ numbered (four_of 0 first others) suffix has_dev

-- rule 6: an optional `v`, a number, up to three parts that may be wild, an optional `.` or `-`, and `dev`
pub record IsNumberedBranch (text : List ℕ) (version : Numbered) : Type 0 where
  pub mark : List ℕ
  pub number : List ℕ
  pub parts : List ℕ
  pub separator : List ℕ
  pub dev : List ℕ
  pub whole : text ≡ mark ++ (number ++ (parts ++ (separator ++ dev)))
  pub first : ℕ
  pub others : List ℕ
  pub mark_is : IsOptional is_small_v mark
  pub number_is : IsNumber 18 number first
  pub parts_are : IsRow IsBranchPart parts others
  pub at_most_three : length others ≤ 3
  pub separator_is : IsOptional is_dot_or_dash separator
  pub dev_is : lowered dev ≡ codes "dev"
  pub version_is : version ≡ numbered (four_of anything first others) None true
