-- The pieces of a version, read from the left: each reading gives what was read and what follows it, or
-- NotAVersion where the piece isn't there. What they mean as a grammar stands in Grammar.
use Rattle.std.specs.Prelude.{ℕ, zero, suc, List, [], ◌∷◌, length, take, drop, Bool, true, false, ◌&&◌, ◌||◌, ◌==◌, nat_lt, nat_le, if◌then◌else◌, Option, Some, None, Result, Ok, Err, codes}
use Rattle.std.specs.List.{prefix_len, list_any}
use Rattle.path_name.specs.Given.{◌>>=◌}
use Rattle.path_name.specs.Bytes.{is_digit, lower, lowered}
use Rattle.path_name.specs.Orders.{bytes_are_equal}
use Rattle.path_name.specs.Decimals.{number_of}
use Rattle.version_norm.specs.declared.fault.VersionFault.{VersionFault}
use Rattle.version_norm.specs.declared.fault.VersionFault.TheVariants.{NotAVersion}
use Rattle.version_norm.specs.declared.version.Stage.{Stage}
use Rattle.version_norm.specs.declared.version.Stage.TheVariants as stages

-- what was read, and what follows it
abbrev pub Reading : Type 0 → Type 0
Reading X = Result (X × List ℕ) VersionFault

abbrev pub is_one_of : List ℕ → ℕ → Bool
is_one_of bytes byte = list_any (λ one. byte == one) bytes

-- `.`, `_` or `-`
abbrev pub is_separator : ℕ → Bool
is_separator byte = byte == 46 || byte == 95 || byte == 45

-- `.` or `-`
abbrev pub is_dot_or_dash : ℕ → Bool
is_dot_or_dash byte = byte == 46 || byte == 45

-- `v` in any case
abbrev pub is_any_v : ℕ → Bool
is_any_v byte = lower byte == 118

abbrev pub is_small_v : ℕ → Bool
is_small_v byte = byte == 118

-- `x`, `X` or `*`
abbrev pub is_wildcard : ℕ → Bool
is_wildcard byte = byte == 120 || byte == 88 || byte == 42

-- the text without its first byte, where that passes
abbrev pub without_first : (ℕ → Bool) → List ℕ → List ℕ
without_first passes [] = []
without_first passes (byte ∷ rest) = if passes byte then rest else byte ∷ rest

abbrev pub begins_with_digit : List ℕ → Bool
begins_with_digit [] = false
begins_with_digit (byte ∷ rest) = is_digit byte

-- all digits in a row, from one to `most`
unfoldable pub number_at : ℕ → List ℕ → Reading ℕ
number_at most text =
    let count = prefix_len is_digit text in
    if nat_lt 0 count && nat_le count most then Ok (number_of (take count text), drop count text) else Err NotAVersion

-- `.` and a number, where a digit follows a `.`
unfoldable pub part_at : List ℕ → Reading (Option ℕ)
part_at [] = Ok (None, [])
part_at (byte ∷ rest) = if byte == 46 && begins_with_digit rest
    then (do
      number ← number_at 18 rest
      Ok (Some number.0, number.1))
    else Ok (None, byte ∷ rest)

-- an x part: its number is 9999999
abbrev pub anything : ℕ
anything = 9999999

-- `.` and a number, or `.` and one of `x`, `X`, `*`
unfoldable pub branch_part_at : List ℕ → Reading (Option ℕ)
branch_part_at (dot ∷ byte ∷ rest) = if dot == 46 && is_wildcard byte then Ok (Some anything, rest) else part_at (dot ∷ byte ∷ rest)
branch_part_at text = part_at text

-- a word in small letters, and what it stands for
abbrev pub Word : Type 0
Word = List ℕ × Option Stage

-- the words of a modifier, a longer one before those that it begins with; stable is no stage
abbrev pub all_words : List Word
all_words =
    (codes "stable", None) ∷ (codes "beta", Some stages.Beta) ∷ (codes "b", Some stages.Beta)
    ∷ (codes "rc", Some stages.Rc) ∷ (codes "alpha", Some stages.Alpha) ∷ (codes "a", Some stages.Alpha)
    ∷ (codes "patch", Some stages.Patch) ∷ (codes "pl", Some stages.Patch) ∷ (codes "p", Some stages.Patch) ∷ []

-- what follows a word of small letters, where the text begins with it in any case
abbrev pub after_word : List ℕ → List ℕ → Option (List ℕ)
after_word [] text = Some text
after_word (letter ∷ letters) [] = None
after_word (letter ∷ letters) (byte ∷ bytes) = if lower byte == letter then after_word letters bytes else None

abbrev pub word_or : Option Stage → Option (List ℕ) → Option (Option Stage × List ℕ) → Option (Option Stage × List ℕ)
word_or stage None next = next
word_or stage (Some rest) next = Some (stage, rest)

-- what the first of the words that the text begins with stands for, and what follows it
abbrev pub first_word : List Word → List ℕ → Option (Option Stage × List ℕ)
first_word [] text = None
first_word (word ∷ others) text = word_or word.1 (after_word word.0 text) (first_word others text)

-- numbers, each with an optional `.` or `-` before it; at most `most` of them
unfoldable pub following_within : ℕ → List ℕ → Reading (List ℕ)
following_within zero text = Ok ([], text)
following_within (suc most) text = if begins_with_digit (without_first is_dot_or_dash text)
    then (do
      number ← number_at 18 (without_first is_dot_or_dash text)
      others ← following_within most number.1
      Ok (number.0 ∷ others.0, others.1))
    else Ok ([], text)

-- any count of them: a text has no more numbers than bytes
abbrev pub following_at : List ℕ → Reading (List ℕ)
following_at text = following_within (length text) text

-- a modifier as it is read: what its word stands for, and its numbers
abbrev pub Suffix : Type 0
Suffix = Option Stage × List ℕ

unfoldable pub suffix_of : Option (Option Stage × List ℕ) → List ℕ → Reading (Option Suffix)
suffix_of None text = Ok (None, text)
suffix_of (Some found) text = do
  numbers ← following_at found.1
  Ok (Some (found.0, numbers.0), numbers.1)

-- an optional modifier: an optional separator, a word and its numbers
unfoldable pub suffix_at : List ℕ → Reading (Option Suffix)
suffix_at text = suffix_of (first_word all_words (without_first is_separator text)) text

-- `dev` in any case
abbrev pub is_dev : List ℕ → Bool
is_dev text = bytes_are_equal (lowered text) (codes "dev")

-- an optional dev mark, and then the end
unfoldable pub dev_at_end : List ℕ → Result Bool VersionFault
dev_at_end [] = Ok false
dev_at_end (byte ∷ rest) = if is_dev (without_first is_separator (byte ∷ rest)) then Ok true else Err NotAVersion
