-- JSON read from the left, a byte at a time: what has come of a text decides what may come next.
-- Laws above it, in JsonFaults, say what it means in the words of the grammar.
use Rattle.std.specs.Prelude.{ℕ, zero, suc, Bool, true, false, ◌&&◌, ◌==◌, not, nat_le, List, [], ◌∷◌, ◌++◌, Option, Some, None, Result, Ok, Err, length, if◌then◌else◌}
use Rattle.std.specs.Char.{digit_value, encode_utf8}
use Rattle.std.specs.Char.Utf16.{is_high_surrogate, surrogate_pair_char}
use Rattle.path_name.specs.Bytes.{is_blank, is_digit}
use Rattle.json_ordered.specs.JsonTree.{JsonTree, Null, Boolean, Number, String, array_of, object_of, put}
use Rattle.json_ordered.specs.declared.number.Part.{Part}
use Rattle.json_ordered.specs.declared.number.Part.TheVariants.{Minus, Zero, Int, Point, Frac, E, Sign, Exp}
use Rattle.json_ordered.specs.Json.{is_e, is_sign, is_plain, escaped, is_hex, Quad, unit_of}

-- an array or object that is open around the place, with what it has so far; of an object also the name
-- whose value comes
pub data Frame : Type 0 where
  In_array : (done : List JsonTree) → Frame
  In_object : (done : List (List ℕ × JsonTree)) → (name : List ℕ) → Frame

-- what has come of an escape: nothing, `\`, `\u` and up to three digits, the first half of a pair, and
-- then the same of its second half
pub data Piece : Type 0 where
  Plain : Piece
  Slash : Piece
  Unit0 : Piece
  Unit1 : (a : ℕ) → Piece
  Unit2 : (a b : ℕ) → Piece
  Unit3 : (a b c : ℕ) → Piece
  High : (high : Quad) → Piece
  High_slash : (high : Quad) → Piece
  Low0 : (high : Quad) → Piece
  Low1 : (high : Quad) (a : ℕ) → Piece
  Low2 : (high : Quad) (a b : ℕ) → Piece
  Low3 : (high : Quad) (a b c : ℕ) → Piece

-- what a string is for: a value, or the name of the next member of an object that has these so far
pub data Purpose : Type 0 where
  As_value : Purpose
  As_name : (done : List (List ℕ × JsonTree)) → Purpose

-- what the place is: before a value, after `[`, after `{`, before a name, after a name, after a value, in
-- a word, in a number, in a string
pub data Place : Type 0 where
  Before_value : Place
  After_open_array : Place
  After_open_object : Place
  Before_name : (done : List (List ℕ × JsonTree)) → Place
  After_name : (done : List (List ℕ × JsonTree)) (name : List ℕ) → Place
  After_value : (v : JsonTree) → Place
  In_word : (left : List ℕ) (v : JsonTree) → Place
  In_number : (part : Part) (text : List ℕ) → Place
  In_string : (purpose : Purpose) (text : List ℕ) (piece : Piece) → Place

-- how many more levels may be opened, what is open from the inside out, and the place
pub record State : Type 0 where
  pub levels : ℕ
  pub stack : List Frame
  pub place : Place

-- after one more byte: a state, or no JSON text goes on so, or one level too many is opened
pub data Next : Type 0 where
  Go : (s : State) → Next
  Wrong : Next
  Deep : Next

abbrev pub at_place : ℕ → List Frame → Place → Next
at_place levels stack place = Go (record { levels = levels; stack = stack; place = place })

-- ---- numbers

-- the part after one more byte of a number; None where the number doesn't go on with it
abbrev pub part_after : Part → ℕ → Option Part
part_after Minus byte = if byte == 48 then Some Zero else (if is_digit byte then Some Int else None)
part_after Zero byte = if byte == 46 then Some Point else (if is_e byte then Some E else None)
part_after Int byte = if is_digit byte then Some Int else (if byte == 46 then Some Point else (if is_e byte then Some E else None))
part_after Point byte = if is_digit byte then Some Frac else None
part_after Frac byte = if is_digit byte then Some Frac else (if is_e byte then Some E else None)
part_after E byte = if is_sign byte then Some Sign else (if is_digit byte then Some Exp else None)
part_after Sign byte = if is_digit byte then Some Exp else None
part_after Exp byte = if is_digit byte then Some Exp else None

-- whether a number may end so
abbrev pub may_end : Part → Bool
may_end Minus = false
may_end Zero = true
may_end Int = true
may_end Point = false
may_end Frac = true
may_end E = false
may_end Sign = false
may_end Exp = true

-- ---- strings

-- after one more byte of a string that isn't its end: the escape goes on, or bytes of the string have
-- come, or no string goes on so
pub data Took : Type 0 where
  More : (piece : Piece) → Took
  Gave : (bytes : List ℕ) → Took
  No_char : Took

abbrev pub more_if : Bool → Piece → Took
more_if b piece = if b then More piece else No_char

-- a whole unit
abbrev pub took_unit : Quad → Took
took_unit q = if is_high_surrogate (unit_of q) then More (High q) else Gave (encode_utf8 (unit_of q))

abbrev pub took_letter : Option ℕ → Took
took_letter (Some meant) = Gave (meant ∷ [])
took_letter None = No_char

-- The second digit after a first digit `d` is below 12, as no low surrogate comes first.
abbrev pub take_byte : Piece → ℕ → Took
take_byte Plain byte = if byte == 92 then More Slash else (if is_plain byte then Gave (byte ∷ []) else No_char)
take_byte Slash byte = if byte == 117 then More Unit0 else took_letter (escaped byte)
take_byte Unit0 byte = more_if (is_hex byte) (Unit1 byte)
take_byte (Unit1 a) byte = more_if (is_hex byte && not (digit_value a == 13 && nat_le 12 (digit_value byte))) (Unit2 a byte)
take_byte (Unit2 a b) byte = more_if (is_hex byte) (Unit3 a b byte)
take_byte (Unit3 a b c) byte = if is_hex byte then took_unit (record { a = a; b = b; c = c; d = byte }) else No_char
take_byte (High high) byte = more_if (byte == 92) (High_slash high)
take_byte (High_slash high) byte = more_if (byte == 117) (Low0 high)
take_byte (Low0 high) byte = more_if (digit_value byte == 13) (Low1 high byte)
take_byte (Low1 high a) byte = more_if (is_hex byte && nat_le 12 (digit_value byte)) (Low2 high a byte)
take_byte (Low2 high a b) byte = more_if (is_hex byte) (Low3 high a b byte)
take_byte (Low3 high a b c) byte = if is_hex byte
    then Gave (encode_utf8 (surrogate_pair_char (unit_of high) (unit_of (record { a = a; b = b; c = c; d = byte })))) else No_char

abbrev pub after_string : Purpose → List ℕ → Place
after_string As_value text = After_value (String text)
after_string (As_name done) text = After_name done text

abbrev pub took : ℕ → List Frame → Purpose → List ℕ → Took → Next
took levels stack purpose text (More piece) = at_place levels stack (In_string purpose text piece)
took levels stack purpose text (Gave bytes) = at_place levels stack (In_string purpose (text ++ bytes) Plain)
took levels stack purpose text No_char = Wrong

-- ---- values

-- one more level
abbrev pub open_level : ℕ → List Frame → Place → Next
open_level zero stack place = Deep
open_level (suc levels) stack place = at_place levels stack place

-- the first byte of a value
abbrev pub begin_value : ℕ → List Frame → ℕ → Next
begin_value levels stack byte = if byte == 91 then open_level levels stack After_open_array
    else (if byte == 123 then open_level levels stack After_open_object
    else (if byte == 34 then at_place levels stack (In_string As_value [] Plain)
    else (if byte == 110 then at_place levels stack (In_word (117 ∷ 108 ∷ 108 ∷ []) Null)
    else (if byte == 116 then at_place levels stack (In_word (114 ∷ 117 ∷ 101 ∷ []) (Boolean true))
    else (if byte == 102 then at_place levels stack (In_word (97 ∷ 108 ∷ 115 ∷ 101 ∷ []) (Boolean false))
    else (if byte == 45 then at_place levels stack (In_number Minus (byte ∷ []))
    else (if byte == 48 then at_place levels stack (In_number Zero (byte ∷ []))
    else (if is_digit byte then at_place levels stack (In_number Int (byte ∷ []))
    else Wrong))))))))

-- a byte after a value, other than a blank: `,` or the end of what is open
abbrev pub end_value : ℕ → List Frame → JsonTree → ℕ → Next
end_value levels [] v byte = Wrong
end_value levels (In_array done ∷ stack) v byte = if byte == 44 then at_place levels (In_array (done ++ v ∷ []) ∷ stack) Before_value
    else (if byte == 93 then at_place (suc levels) stack (After_value (array_of (done ++ v ∷ []))) else Wrong)
end_value levels (In_object done name ∷ stack) v byte = if byte == 44 then at_place levels stack (Before_name (put done name v))
    else (if byte == 125 then at_place (suc levels) stack (After_value (object_of (put done name v))) else Wrong)

abbrev pub after_value : ℕ → List Frame → JsonTree → ℕ → Next
after_value levels stack v byte = if is_blank byte then at_place levels stack (After_value v) else end_value levels stack v byte

abbrev pub in_word : ℕ → List Frame → List ℕ → JsonTree → ℕ → Next
in_word levels stack [] v byte = after_value levels stack v byte
in_word levels stack (next ∷ left) v byte = if byte == next then at_place levels stack (In_word left v) else Wrong

abbrev pub in_number : ℕ → List Frame → Bool → List ℕ → ℕ → Option Part → Next
in_number levels stack ends text byte (Some part) = at_place levels stack (In_number part (text ++ byte ∷ []))
in_number levels stack true text byte None = after_value levels stack (Number text) byte
in_number levels stack false text byte None = Wrong

abbrev pub in_string : ℕ → List Frame → Purpose → List ℕ → Piece → ℕ → Next
in_string levels stack purpose text Plain byte = if byte == 34 then at_place levels stack (after_string purpose text) else took levels stack purpose text (take_byte Plain byte)
in_string levels stack purpose text piece byte = took levels stack purpose text (take_byte piece byte)

abbrev pub step_at : ℕ → List Frame → Place → ℕ → Next
step_at levels stack Before_value byte = if is_blank byte then at_place levels stack Before_value else begin_value levels stack byte
step_at levels stack After_open_array byte = if is_blank byte then at_place levels stack After_open_array
    else (if byte == 93 then at_place (suc levels) stack (After_value (array_of [])) else begin_value levels (In_array [] ∷ stack) byte)
step_at levels stack After_open_object byte = if is_blank byte then at_place levels stack After_open_object
    else (if byte == 125 then at_place (suc levels) stack (After_value (object_of []))
    else (if byte == 34 then at_place levels stack (In_string (As_name []) [] Plain) else Wrong))
step_at levels stack (Before_name done) byte = if is_blank byte then at_place levels stack (Before_name done)
    else (if byte == 34 then at_place levels stack (In_string (As_name done) [] Plain) else Wrong)
step_at levels stack (After_name done name) byte = if is_blank byte then at_place levels stack (After_name done name)
    else (if byte == 58 then at_place levels (In_object done name ∷ stack) Before_value else Wrong)
step_at levels stack (After_value v) byte = after_value levels stack v byte
step_at levels stack (In_word left v) byte = in_word levels stack left v byte
step_at levels stack (In_number part text) byte = in_number levels stack (may_end part) text byte (part_after part byte)
step_at levels stack (In_string purpose text piece) byte = in_string levels stack purpose text piece byte

unfoldable pub step : State → ℕ → Next
step s byte = step_at s.levels s.stack s.place byte

-- the value of a text that ends here, or None
abbrev pub whole_value : List Frame → Place → Option JsonTree
whole_value [] (After_value v) = Some v
whole_value [] (In_word [] v) = Some v
whole_value [] (In_number part text) = if may_end part then Some (Number text) else None
whole_value stack place = None

-- a fault, with how many bytes stand from its place on
pub data Stop : Type 0 where
  Syntax_with : (left : ℕ) → Stop
  Too_deep_with : (left : ℕ) → Stop

abbrev pub ended : Option JsonTree → Result JsonTree Stop
ended (Some v) = Ok v
ended None = Err (Syntax_with 0)

abbrev pub goes_on : Next → ℕ → (State → Result JsonTree Stop) → Result JsonTree Stop
goes_on (Go s) left read = read s
goes_on Wrong left read = Err (Syntax_with left)
goes_on Deep left read = Err (Too_deep_with left)

-- the rest of a text
unfoldable pub read_from : State → List ℕ → Result JsonTree Stop
read_from s [] = ended (whole_value s.stack s.place)
read_from s (byte ∷ rest) = goes_on (step s byte) (suc (length rest)) (λ t. read_from t rest)

-- before the first byte
abbrev pub start : ℕ → State
start levels = record { levels = levels; stack = []; place = Before_value }
