-- How a constraint's text is cut: into words, parts and what joins the parts (Composer documentation, "Versions and
-- constraints"; composer/semver, VersionParser::parseConstraints). Each reading goes from the left, and gives what
-- follows it.
use Rattle.std.specs.Prelude.{ℕ, List, [], ◌∷◌, take, drop, Bool, true, false, not, ◌&&◌, ◌||◌, ◌==◌, nat_lt, if◌then◌else◌, Option, Some, None, codes, is_some}
use Rattle.std.specs.List.{prefix_len}
use Rattle.path_name.specs.Bytes.{is_blank}
use Rattle.path_name.specs.Orders.{bytes_are_equal}
use Rattle.version_norm.specs.Versions.{without_blanks_before}
use Rattle.version_norm.specs.Pieces.{without_first}
use Rattle.constraint_set.specs.declared.constraint.Operator.{Operator}
use Rattle.constraint_set.specs.declared.constraint.Operator.TheVariants as operators
use Rattle.constraint_set.specs.declared.words.Joint.{Joint}
use Rattle.constraint_set.specs.declared.words.Joint.TheVariants as joints

-- ---- words: as many bytes as possible, none of them a blank, `,` or `|`

abbrev pub is_in_word : ℕ → Bool
is_in_word byte = not (is_blank byte || byte == 44 || byte == 124)

abbrev pub word_len : List ℕ → ℕ
word_len text = prefix_len is_in_word text

-- the word that comes next behind blanks, and what follows it; none where `,`, `|` or the end comes first
abbrev pub word_here : List ℕ → Option (List ℕ × List ℕ)
word_here text = if nat_lt 0 (word_len text) then Some (take (word_len text) text, drop (word_len text) text) else None

abbrev pub next_word : List ℕ → Option (List ℕ × List ℕ)
next_word text = word_here (without_blanks_before text)

-- ---- operators, at the beginning of a word; the longest is taken, and what follows it

abbrev pub short_operator_at : ℕ → List ℕ → Option (Operator × List ℕ)
short_operator_at first rest = if first == 62 then Some (operators.Greater, rest) else if first == 60 then Some (operators.Less, rest) else if first == 61 then Some (operators.Equal, rest) else None

-- `<>`, `!=`, `>=`, `<=`, `>`, `<`, `==` and `=`
abbrev pub operator_at : List ℕ → Option (Operator × List ℕ)
operator_at [] = None
operator_at (first ∷ []) = short_operator_at first []
operator_at (first ∷ second ∷ rest) =
    if first == 60 && second == 62 then Some (operators.NotEqual, rest)
    else if first == 33 && second == 61 then Some (operators.NotEqual, rest)
    else if first == 62 && second == 61 then Some (operators.GreaterOrEqual, rest)
    else if first == 60 && second == 61 then Some (operators.LessOrEqual, rest)
    else if first == 61 && second == 61 then Some (operators.Equal, rest)
    else short_operator_at first (second ∷ rest)

-- a word that is an operator and nothing else
abbrev pub if_whole : Option (Operator × List ℕ) → Option Operator
if_whole None = None
if_whole (Some (operator, [])) = Some operator
if_whole (Some (operator, byte ∷ rest)) = None

abbrev pub operator_word : List ℕ → Option Operator
operator_word word = if_whole (operator_at word)

-- ---- the form of a part: a word, the word `-` between blanks, and a word; else an operator word, blanks and a word; else a word

pub data Form : Type 0 where
  range : List ℕ → List ℕ → Form
  compared : Operator → List ℕ → Form
  alone : List ℕ → Form

abbrev pub is_dash : List ℕ → Bool
is_dash word = bytes_are_equal word (codes "-")

-- a word and what follows it, where the second word (with what follows that) makes no range of them
abbrev pub operated : Option Operator → List ℕ → List ℕ → List ℕ × List ℕ → Form × List ℕ
operated None word rest second = (alone word, rest)
operated (Some operator) word rest second = (compared operator second.0, second.1)

-- the same, where the second word is `-`; the third decides
abbrev pub dashed : List ℕ → List ℕ → List ℕ × List ℕ → Option (List ℕ × List ℕ) → Form × List ℕ
dashed word rest second None = operated (operator_word word) word rest second
dashed word rest second (Some third) = (range word third.0, third.1)

abbrev pub form_behind : List ℕ → List ℕ → Option (List ℕ × List ℕ) → Form × List ℕ
form_behind word rest None = (alone word, rest)
form_behind word rest (Some second) = if is_dash second.0 then dashed word rest second (next_word second.1) else operated (operator_word word) word rest second

-- the longest form that the first words have, and what follows it
unfoldable pub form_at : List ℕ → List ℕ → Form × List ℕ
form_at word rest = form_behind word rest (next_word rest)

-- ---- what joins a part to the one before it: `|` or `||` before another alternative; inside one a comma with any blanks around it, or blanks

abbrev pub is_bar : ℕ → Bool
is_bar byte = byte == 124

abbrev pub joint_here : List ℕ → Option (Joint × List ℕ)
joint_here [] = None
joint_here (byte ∷ rest) = if byte == 44 then Some (joints.Comma, rest) else if is_bar byte then Some (joints.Bar, without_first is_bar rest) else Some (joints.Blanks, byte ∷ rest)

-- what comes behind a part; none at the end
abbrev pub joint_at : List ℕ → Option (Joint × List ℕ)
joint_at text = joint_here (without_blanks_before text)

-- ---- inline aliases: the word `as`, with blanks alone between it and a word on both sides

abbrev pub is_blanks : Joint → Bool
is_blanks joints.First = false
is_blanks joints.Blanks = true
is_blanks joints.Comma = false
is_blanks joints.Bar = false

abbrev pub is_alias : Joint → List ℕ → List ℕ → Bool
is_alias joint word rest = is_blanks joint && bytes_are_equal word (codes "as") && is_some (next_word rest)
