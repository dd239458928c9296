-- What the parts of the reader do, in terms of the reading of the rest of a text.
use Rattle.std.specs.Prelude.{◌≡◌, ℕ, ◌-◌, ◌<◌, ◌≤◌, nat_eq, true, false, List, [], ◌∷◌, ◌++◌, length, take, drop, Result, Err, MatchResult}
use Rattle.std.specs.Borrow.{Bor}
use Rattle.std.specs.Global.{Vec}
use Rattle.std.specs.Char.{digit_value}
use Rattle.path_name.specs.Bytes.{is_blank}
use Rattle.json_ordered.specs.declared.stop.Stop as stops
use Rattle.json_ordered.specs.declared.stop.Stop.TheVariants as stop
use Rattle.json_ordered.specs.declared.number.Part.{Part}
use Rattle.json_ordered.specs.JsonTree.{JsonTree, Number}
use Rattle.json_ordered.specs.Json.{IsBlanks, is_plain, Quad, unit_of}
use Rattle.json_ordered.specs.JsonReading.{Frame, Piece, Plain, Slash, Unit0, High, Purpose, after_string, Place, After_value, In_word, In_number, In_string, may_end, State, Stop, Syntax_with, Too_deep_with, read_from}

abbrev pub at : ℕ → List Frame → Place → State
at levels stack place = record { levels = levels; stack = stack; place = place }

-- the reading stops so, or memory ran out
abbrev pub Fails : stops.Stop → Result JsonTree Stop → Type 0
Fails (stop.Syntax left) read = read ≡ Err (Syntax_with left)
Fails (stop.TooDeep left) read = read ≡ Err (Too_deep_with left)
Fails stop.OutOfMemory read = Unit {0}

abbrev pub Ended : List ℕ → ℕ → Part → Result (Bor (List ℕ) × Bor (List ℕ)) stops.Stop → Type 0
Ended text len part result = MatchResult result
    (λ x. (may_end part ≡ true) × (x.0.now ≡ take len text) × (x.1.now ≡ drop len text))
    (λ e. (may_end part ≡ false) × (e ≡ stop.Syntax (length text - len)))

abbrev pub NumberSteps : List ℕ → Part → Result (Bor (List ℕ) × Bor (List ℕ)) stops.Stop → Type 0
NumberSteps text first result = (levels : ℕ) (stack : List Frame) → MatchResult result
    (λ x. (text ≡ x.0.now ++ x.1.now) × (read_from (at levels stack (In_number first (take 1 text))) (drop 1 text) ≡ read_from (at levels stack (After_value (Number x.0.now))) x.1.now))
    (λ e. Fails e (read_from (at levels stack (In_number first (take 1 text))) (drop 1 text)))

-- ---- strings

-- the first byte doesn't stand for itself
abbrev pub StopsPlain : List ℕ → Type 0
StopsPlain [] = Unit {0}
StopsPlain (byte ∷ rest) = is_plain byte ≡ false

-- the first byte is no digit in the range
abbrev pub NoHex : ℕ → ℕ → List ℕ → Type 0
NoHex least end [] = Unit {0}
NoHex least end (byte ∷ rest) = least ≤ digit_value byte → digit_value byte < end → ⊥

pub record Hex (text rest : List ℕ) (least end value : ℕ) : Type 0 where
  pub byte : ℕ
  pub parts : text ≡ byte ∷ rest
  pub value_is : value ≡ digit_value byte
  pub least_is : least ≤ digit_value byte
  pub end_is : digit_value byte < end

abbrev pub HexSteps : List ℕ → ℕ → ℕ → Result (ℕ × Bor (List ℕ)) stops.Stop → Type 0
HexSteps text least end result = MatchResult result (λ x. Hex text x.1.now least end x.0) (λ e. (e ≡ stop.Syntax (length text)) × NoHex least end text)

-- the next byte and what follows it, or an early end
abbrev pub NextByte : List ℕ → Result (ℕ × Bor (List ℕ)) stops.Stop → Type 0
NextByte text result = MatchResult result (λ x. text ≡ x.0 ∷ x.1.now) (λ e. (e ≡ stop.Syntax 0) × (text ≡ []))

-- the first byte is another
abbrev pub NoByte : ℕ → List ℕ → Type 0
NoByte wanted [] = Unit {0}
NoByte wanted (byte ∷ rest) = nat_eq byte wanted ≡ false

abbrev pub ByteSteps : List ℕ → ℕ → Result (Bor (List ℕ)) stops.Stop → Type 0
ByteSteps text wanted result = MatchResult result (λ rest. text ≡ wanted ∷ rest.now) (λ e. (e ≡ stop.Syntax (length text)) × NoByte wanted text)

-- an escape is read to its end
abbrev pub FromPiece : Piece → List ℕ → List ℕ → List ℕ → Result (Bor (List ℕ)) stops.Stop → Type 0
FromPiece piece text old new result = (levels : ℕ) (stack : List Frame) (purpose : Purpose) → MatchResult result
    (λ rest. read_from (at levels stack (In_string purpose old piece)) text ≡ read_from (at levels stack (In_string purpose new Plain)) rest.now)
    (λ e. Fails e (read_from (at levels stack (In_string purpose old piece)) text))

abbrev pub UnitSteps : List ℕ → List ℕ → List ℕ → Result (Bor (List ℕ)) stops.Stop → Type 0
UnitSteps text old new result = FromPiece Unit0 text old new result

abbrev pub EscapeSteps : List ℕ → List ℕ → List ℕ → Result (Bor (List ℕ)) stops.Stop → Type 0
EscapeSteps text old new result = FromPiece Slash text old new result

abbrev pub LowSteps : ℕ → List ℕ → List ℕ → List ℕ → Result (Bor (List ℕ)) stops.Stop → Type 0
LowSteps high text old new result = (q : Quad) → unit_of q ≡ high → FromPiece (High q) text old new result

abbrev pub StringSteps : List ℕ → Result (Vec ℕ × Bor (List ℕ)) stops.Stop → Type 0
StringSteps text result = (levels : ℕ) (stack : List Frame) (purpose : Purpose) → MatchResult result
    (λ x. read_from (at levels stack (In_string purpose [] Plain)) text ≡ read_from (at levels stack (after_string purpose x.0.items)) x.1.now)
    (λ e. Fails e (read_from (at levels stack (In_string purpose [] Plain)) text))

-- ---- blanks and words

-- the first byte is no blank
abbrev pub NoBlank : List ℕ → Type 0
NoBlank [] = Unit {0}
NoBlank (byte ∷ rest) = is_blank byte ≡ false

pub record Skips (text rest : List ℕ) : Type 0 where
  pub blanks : List ℕ
  pub are_blanks : IsBlanks blanks
  pub parts : text ≡ blanks ++ rest
  pub stops : NoBlank rest

abbrev pub WordSteps : List ℕ → List ℕ → Result (Bor (List ℕ)) stops.Stop → Type 0
WordSteps text word result = (levels : ℕ) (stack : List Frame) (v : JsonTree) → MatchResult result
    (λ rest. read_from (at levels stack (In_word word v)) text ≡ read_from (at levels stack (After_value v)) rest.now)
    (λ e. Fails e (read_from (at levels stack (In_word word v)) text))
