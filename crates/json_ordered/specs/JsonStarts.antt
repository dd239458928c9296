-- What the first byte of a value begins.
use Rattle.std.specs.Prelude.{ℕ, true, false, ◌==◌, List, [], ◌∷◌, if◌then◌else◌}
use Rattle.path_name.specs.Bytes.{is_digit}
use Rattle.json_ordered.specs.declared.number.Part.TheVariants.{Minus, Zero, Int}
use Rattle.json_ordered.specs.declared.start.Start.{Start}
use Rattle.json_ordered.specs.declared.start.Start.TheVariants as starts
use Rattle.json_ordered.specs.JsonTree.{Null, Boolean}
use Rattle.json_ordered.specs.JsonReading.{Frame, Plain, As_value, After_open_array, After_open_object, In_word, In_number, In_string, Next, Wrong, at_place, open_level}

abbrev pub start_of : ℕ → Start
start_of byte = if byte == 91 then starts.Array
    else (if byte == 123 then starts.Object
    else (if byte == 34 then starts.Quote
    else (if byte == 110 then starts.NullWord
    else (if byte == 116 then starts.TrueWord
    else (if byte == 102 then starts.FalseWord
    else (if byte == 45 then starts.Number Minus
    else (if byte == 48 then starts.Number Zero
    else (if is_digit byte then starts.Number Int
    else starts.Nothing))))))))

abbrev pub begun : ℕ → List Frame → ℕ → Start → Next
begun levels stack byte starts.Array = open_level levels stack After_open_array
begun levels stack byte starts.Object = open_level levels stack After_open_object
begun levels stack byte starts.Quote = at_place levels stack (In_string As_value [] Plain)
begun levels stack byte starts.NullWord = at_place levels stack (In_word (117 ∷ 108 ∷ 108 ∷ []) Null)
begun levels stack byte starts.TrueWord = at_place levels stack (In_word (114 ∷ 117 ∷ 101 ∷ []) (Boolean true))
begun levels stack byte starts.FalseWord = at_place levels stack (In_word (97 ∷ 108 ∷ 115 ∷ 101 ∷ []) (Boolean false))
begun levels stack byte (starts.Number part) = at_place levels stack (In_number part (byte ∷ []))
begun levels stack byte starts.Nothing = Wrong
