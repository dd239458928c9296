-- The grammar of JSON, rule by rule after RFC 8259. Bytes are written by their codes.
use Rattle.std.specs.Prelude.{◌≡◌, ℕ, suc, ◌+◌, ◌*◌, Bool, true, false, ◌&&◌, ◌||◌, ◌==◌, not, nat_le, nat_lt, ◌⊎◌, List, [], ◌∷◌, ◌++◌, Option, Some, None, if◌then◌else◌}
use Rattle.std.specs.List.{list_all}
use Rattle.std.specs.Char.{digit_value, encode_utf8}
use Rattle.std.specs.Char.Utf16.{is_high_surrogate, is_low_surrogate, surrogate_pair_char}
use Rattle.std.specs.Str.{IsUtf8}
use Rattle.path_name.specs.Bytes.{is_blank, is_digit, is_between}
use Rattle.json_ordered.specs.JsonTree.{JsonTree, Null, Boolean, Number, String, array_of, object_of, put_all}

-- ws: any count of space, tab, LF and CR
abbrev pub IsBlanks : List ℕ → Type 0
IsBlanks text = list_all is_blank text ≡ true

-- ---- numbers: [ minus ] int [ frac ] [ exp ]

abbrev pub IsDigits : List ℕ → Type 0
IsDigits text = list_all is_digit text ≡ true

-- `-` or nothing
abbrev pub IsMinus : List ℕ → Type 0
IsMinus text = (text ≡ []) ⊎ (text ≡ 45 ∷ [])

-- `0`, or digits of which the first is `1` to `9`
abbrev pub IsInt : List ℕ → Type 0
IsInt text = (text ≡ 48 ∷ []) ⊎ ((first : ℕ) × (rest : List ℕ) × (is_between 49 57 first ≡ true) × IsDigits rest × (text ≡ first ∷ rest))

-- one digit or more
abbrev pub IsSomeDigits : List ℕ → Type 0
IsSomeDigits text = (first : ℕ) × (rest : List ℕ) × (is_digit first ≡ true) × IsDigits rest × (text ≡ first ∷ rest)

-- `.` and digits, or nothing
abbrev pub IsFrac : List ℕ → Type 0
IsFrac text = (text ≡ []) ⊎ ((digits : List ℕ) × IsSomeDigits digits × (text ≡ 46 ∷ digits))

abbrev pub is_e : ℕ → Bool
is_e byte = byte == 101 || byte == 69

abbrev pub is_sign : ℕ → Bool
is_sign byte = byte == 43 || byte == 45

-- `+`, `-` or nothing
abbrev pub IsSign : List ℕ → Type 0
IsSign text = (text ≡ []) ⊎ ((sign : ℕ) × (is_sign sign ≡ true) × (text ≡ sign ∷ []))

-- `e` or `E`, a sign or none, and digits; or nothing
abbrev pub IsExp : List ℕ → Type 0
IsExp text = (text ≡ []) ⊎ ((e : ℕ) × (sign : List ℕ) × (digits : List ℕ) × (is_e e ≡ true) × IsSign sign × IsSomeDigits digits × (text ≡ e ∷ (sign ++ digits)))

pub record IsNumber (text : List ℕ) : Type 0 where
  pub minus : List ℕ
  pub int : List ℕ
  pub frac : List ℕ
  pub exp : List ℕ
  pub is_minus : IsMinus minus
  pub is_int : IsInt int
  pub is_frac : IsFrac frac
  pub is_exp : IsExp exp
  pub parts : text ≡ minus ++ (int ++ (frac ++ exp))

-- ---- strings

-- a byte that stands for itself: all but `"`, `\` and those below space; past ASCII a byte of some character
abbrev pub is_plain : ℕ → Bool
is_plain byte = nat_le 32 byte && not (byte == 34 || byte == 92)

-- what `\` and one letter stand for: `"`, `\`, `/`, and b, f, n, r, t
abbrev pub escaped : ℕ → Option ℕ
escaped letter = if letter == 34 || letter == 92 || letter == 47 then Some letter
    else (if letter == 98 then Some 8
    else (if letter == 102 then Some 12
    else (if letter == 110 then Some 10
    else (if letter == 114 then Some 13
    else (if letter == 116 then Some 9 else None)))))

-- a hexadecimal digit, of either case
abbrev pub is_hex : ℕ → Bool
is_hex byte = nat_lt (digit_value byte) 16

-- four of them, and the number that they spell
pub record Quad : Type 0 where
  pub a : ℕ
  pub b : ℕ
  pub c : ℕ
  pub d : ℕ

abbrev pub is_quad : Quad → Bool
is_quad q = is_hex q.a && (is_hex q.b && (is_hex q.c && is_hex q.d))

abbrev pub unit_of : Quad → ℕ
unit_of q = ((digit_value q.a * 16 + digit_value q.b) * 16 + digit_value q.c) * 16 + digit_value q.d

-- `\u` and four digits, before what follows
abbrev pub spelled_unit : Quad → List ℕ → List ℕ
spelled_unit q rest = 92 ∷ 117 ∷ q.a ∷ q.b ∷ q.c ∷ q.d ∷ rest

-- What stands between the quotation marks, and the bytes of the string. A surrogate stands only in a pair.
pub data IsChars : List ℕ → List ℕ → Type 0 where
  no_chars : IsChars [] []
  plain : {byte : ℕ} {spelled value : List ℕ} → is_plain byte ≡ true → IsChars spelled value → IsChars (byte ∷ spelled) (byte ∷ value)
  escape : {letter meant : ℕ} {spelled value : List ℕ} → escaped letter ≡ Some meant → IsChars spelled value → IsChars (92 ∷ letter ∷ spelled) (meant ∷ value)
  unit : (q : Quad) {spelled value : List ℕ} → is_quad q ≡ true → is_high_surrogate (unit_of q) ≡ false → is_low_surrogate (unit_of q) ≡ false
      → IsChars spelled value → IsChars (spelled_unit q spelled) (encode_utf8 (unit_of q) ++ value)
  pair : (high low : Quad) {spelled value : List ℕ} → is_quad high ≡ true → is_high_surrogate (unit_of high) ≡ true → is_quad low ≡ true → is_low_surrogate (unit_of low) ≡ true
      → IsChars spelled value → IsChars (spelled_unit high (spelled_unit low spelled)) (encode_utf8 (surrogate_pair_char (unit_of high) (unit_of low)) ++ value)

-- ---- values

-- The first number is how many levels of arrays and objects may be open inside. An array is `[`, items
-- with `,` between them, `]`; an object is `{`, members with `,` between them, `}`; a member is a string,
-- `:`, a value. Blanks may stand round each of these bytes. An object has the members in the order in
-- which their names first come; a repeated name has the last of its values.
mutual
  pub data IsValue : ℕ → List ℕ → JsonTree → Type 0 where
    null : {levels : ℕ} → IsValue levels (110 ∷ 117 ∷ 108 ∷ 108 ∷ []) Null
    true_word : {levels : ℕ} → IsValue levels (116 ∷ 114 ∷ 117 ∷ 101 ∷ []) (Boolean true)
    false_word : {levels : ℕ} → IsValue levels (102 ∷ 97 ∷ 108 ∷ 115 ∷ 101 ∷ []) (Boolean false)
    number : {levels : ℕ} {text : List ℕ} → IsNumber text → IsValue levels text (Number text)
    string : {levels : ℕ} (text : List ℕ) {value : List ℕ} → IsChars text value → IsValue levels (34 ∷ (text ++ 34 ∷ [])) (String value)
    empty_array : {levels : ℕ} (blanks : List ℕ) → IsBlanks blanks → IsValue (suc levels) (91 ∷ (blanks ++ 93 ∷ [])) (array_of [])
    array : {levels : ℕ} (blanks text more : List ℕ) {v : JsonTree} {vs : List JsonTree}
        → IsBlanks blanks → IsValue levels text v → IsMoreItems levels more vs → IsValue (suc levels) (91 ∷ (blanks ++ (text ++ more))) (array_of (v ∷ vs))
    empty_object : {levels : ℕ} (blanks : List ℕ) → IsBlanks blanks → IsValue (suc levels) (123 ∷ (blanks ++ 125 ∷ [])) (object_of [])
    object : {levels : ℕ} (blanks text more : List ℕ) {m : List ℕ × JsonTree} {ms : List (List ℕ × JsonTree)}
        → IsBlanks blanks → IsMember levels text m → IsMoreMembers levels more ms → IsValue (suc levels) (123 ∷ (blanks ++ (text ++ more))) (object_of (put_all [] (m ∷ ms)))

  -- what follows an item, up to the `]`
  pub data IsMoreItems : ℕ → List ℕ → List JsonTree → Type 0 where
    last_item : {levels : ℕ} (blanks : List ℕ) → IsBlanks blanks → IsMoreItems levels (blanks ++ 93 ∷ []) []
    next_item : {levels : ℕ} (before after text more : List ℕ) {v : JsonTree} {vs : List JsonTree}
        → IsBlanks before → IsBlanks after → IsValue levels text v → IsMoreItems levels more vs → IsMoreItems levels (before ++ 44 ∷ (after ++ (text ++ more))) (v ∷ vs)

  pub data IsMember : ℕ → List ℕ → (List ℕ × JsonTree) → Type 0 where
    named : {levels : ℕ} (text before after value : List ℕ) {name : List ℕ} {v : JsonTree}
        → IsChars text name → IsBlanks before → IsBlanks after → IsValue levels value v → IsMember levels (34 ∷ (text ++ 34 ∷ (before ++ 58 ∷ (after ++ value)))) (name, v)

  -- what follows a member, up to the `}`
  pub data IsMoreMembers : ℕ → List ℕ → List (List ℕ × JsonTree) → Type 0 where
    last_member : {levels : ℕ} (blanks : List ℕ) → IsBlanks blanks → IsMoreMembers levels (blanks ++ 125 ∷ []) []
    next_member : {levels : ℕ} (before after text more : List ℕ) {m : List ℕ × JsonTree} {ms : List (List ℕ × JsonTree)}
        → IsBlanks before → IsBlanks after → IsMember levels text m → IsMoreMembers levels more ms → IsMoreMembers levels (before ++ 44 ∷ (after ++ (text ++ more))) (m ∷ ms)

-- JSON-text: UTF-8, a value with blanks round it
pub record IsJsonOf (levels : ℕ) (text : List ℕ) (tree : JsonTree) : Type 0 where
  pub before : List ℕ
  pub value : List ℕ
  pub after : List ℕ
  pub utf8 : IsUtf8 text
  pub is_before : IsBlanks before
  pub is_value : IsValue levels value tree
  pub is_after : IsBlanks after
  pub parts : text ≡ before ++ (value ++ after)

-- how many levels of arrays and objects may be open at any place
abbrev pub most_levels : ℕ
most_levels = 128

-- the value of a text in which no more levels are open anywhere
abbrev pub IsJson : List ℕ → JsonTree → Type 0
IsJson text tree = IsJsonOf most_levels text tree
