-- The two printed forms of a value: the compact one of PHP's json_encode without flags, and the pretty one.
use Rattle.std.specs.Prelude.{ℕ, suc, Bool, true, ◌&&◌, ◌||◌, ◌==◌, nat_lt, List, [], ◌∷◌, ◌++◌, map, codes, if◌then◌else◌}
use Rattle.std.specs.List.{flat_map, join_with_byte}
use Rattle.std.specs.Char.Escape.{hex_digit_at, encode_utf16}
use Rattle.std.specs.Str.{chars}
use Rattle.path_name.specs.Decimals.{decimal_text}
use Rattle.path_name.specs.Orders.{bytes_are_equal}
use Rattle.json_ordered.specs.JsonTree.{JsonTree, Null, Boolean, Number, String, Array, Object, Items, no_items, item, Members, no_members, member}

-- ---- strings

-- `\u` and the four lower-case hexadecimal digits of a 16-bit unit
abbrev pub unit_text : ℕ → List ℕ
unit_text unit = 92 ∷ 117 ∷ hex_digit_at 0x1000 unit ∷ hex_digit_at 0x100 unit ∷ hex_digit_at 0x10 unit ∷ hex_digit_at 1 unit ∷ []

-- a byte below space: `\b`, `\f`, `\n`, `\r`, `\t`, or `\u00xx`
abbrev pub control_text : ℕ → List ℕ
control_text byte = if byte == 8 then codes "\\b"
    else (if byte == 12 then codes "\\f"
    else (if byte == 10 then codes "\\n"
    else (if byte == 13 then codes "\\r"
    else (if byte == 9 then codes "\\t" else unit_text byte))))

-- a character of the compact form: `"`, `\` and `/` with a `\` before them; past ASCII its one or two UTF-16 units
abbrev pub compact_char : ℕ → List ℕ
compact_char c = if nat_lt c 32 then control_text c
    else (if c == 34 || c == 92 || c == 47 then 92 ∷ c ∷ []
    else (if nat_lt c 128 then c ∷ [] else flat_map unit_text (encode_utf16 c)))

-- a byte of the pretty form: `"` and `\` with a `\` before them; past ASCII as it is
abbrev pub pretty_byte : ℕ → List ℕ
pretty_byte byte = if nat_lt byte 32 then control_text byte
    else (if byte == 34 || byte == 92 then 92 ∷ byte ∷ [] else byte ∷ [])

abbrev pub quoted : List ℕ → List ℕ
quoted text = 34 ∷ (text ++ 34 ∷ [])

-- the string whose bytes are the UTF-8 of some characters
unfoldable pub compact_string : List ℕ → List ℕ
compact_string text = quoted (flat_map compact_char (chars text))

unfoldable pub pretty_string : List ℕ → List ℕ
pretty_string text = quoted (flat_map pretty_byte text)

-- ---- values

abbrev pub word_of : Bool → List ℕ
word_of b = if b then codes "true" else codes "false"

-- the names are this place, the next one and so on, in decimal digits: PHP takes such an object for a list
abbrev pub are_places : ℕ → Members → Bool
are_places place no_members = true
are_places place (member name v ms) = bytes_are_equal name (decimal_text place) && are_places (suc place) ms

abbrev pub in_brackets : List ℕ → List ℕ
in_brackets text = 91 ∷ (text ++ 93 ∷ [])

abbrev pub in_braces : List ℕ → List ℕ
in_braces text = 123 ∷ (text ++ 125 ∷ [])

-- Without blanks. An object whose names are `0`, `1`, .. in order is written as a list, and so is an empty one.
unfoldable mutual
  pub compact_text : JsonTree → List ℕ
  compact_text Null = codes "null"
  compact_text (Boolean b) = word_of b
  compact_text (Number text) = text
  compact_text (String text) = compact_string text
  compact_text (Array items) = in_brackets (join_with_byte 44 (compact_items items))
  compact_text (Object members) = if are_places 0 members then in_brackets (join_with_byte 44 (compact_values members)) else in_braces (join_with_byte 44 (compact_members members))

  pub compact_items : Items → List (List ℕ)
  compact_items no_items = []
  compact_items (item v vs) = compact_text v ∷ compact_items vs

  pub compact_values : Members → List (List ℕ)
  compact_values no_members = []
  compact_values (member name v ms) = compact_text v ∷ compact_values ms

  pub compact_members : Members → List (List ℕ)
  compact_members no_members = []
  compact_members (member name v ms) = (compact_string name ++ 58 ∷ compact_text v) ∷ compact_members ms

-- how a line begins one level further in: with four more blanks
abbrev pub deeper : List ℕ → List ℕ
deeper line = line ++ codes "    "

-- entries inside what begins on such a line, each on a line of its own; the end is on the next line
abbrev pub lines_of : List ℕ → List (List ℕ) → List ℕ
lines_of line [] = []
lines_of line (entry ∷ entries) = join_with_byte 44 (map (λ text. deeper line ++ text) (entry ∷ entries)) ++ line

-- A value inside a line that begins with LF and these blanks: four blanks a level, one entry a line,
-- `"name": value`; `[]` and `{}` for empty ones.
unfoldable mutual
  pub pretty_at : List ℕ → JsonTree → List ℕ
  pretty_at line Null = codes "null"
  pretty_at line (Boolean b) = word_of b
  pretty_at line (Number text) = text
  pretty_at line (String text) = pretty_string text
  pretty_at line (Array items) = in_brackets (lines_of line (pretty_items (deeper line) items))
  pretty_at line (Object members) = in_braces (lines_of line (pretty_members (deeper line) members))

  pub pretty_items : List ℕ → Items → List (List ℕ)
  pretty_items line no_items = []
  pretty_items line (item v vs) = pretty_at line v ∷ pretty_items line vs

  pub pretty_members : List ℕ → Members → List (List ℕ)
  pretty_members line no_members = []
  pretty_members line (member name v ms) = (pretty_string name ++ 58 ∷ 32 ∷ pretty_at line v) ∷ pretty_members line ms

-- the value from the first column on, without a final LF
abbrev pub pretty_text : JsonTree → List ℕ
pretty_text tree = pretty_at (10 ∷ []) tree
