-- What may still come at each state of the reading, in the words of the grammar.
use Rattle.std.proofs.Common.{◌≡◌, ℕ, suc, Bool, true, ◌⊎◌, ◌<◌, ◌≤◌, List, [], ◌∷◌, ◌++◌, sym, ap, ◌∙◌, append_assoc}
use Rattle.std.specs.Prelude.{nat_lt}
use Rattle.std.specs.List.{list_all}
use Rattle.json_ordered.specs.JsonTree.{JsonTree, Number, String, array_of, object_of, put_all}
use Rattle.json_ordered.specs.Json.{IsBlanks, IsNumber, IsChars, IsValue, IsMoreItems, IsMember, IsMoreMembers, is_hex, is_quad, unit_of}
use Rattle.std.specs.Char.{digit_value}
use Rattle.std.specs.Char.Utf16.{is_high_surrogate}
use Rattle.json_ordered.specs.JsonReading.{Frame, In_array, In_object, Piece, Plain, Slash, Unit0, Unit1, Unit2, Unit3, High, High_slash, Low0, Low1, Low2, Low3, Purpose, As_value, As_name, Place, Before_value, After_open_array, After_open_object, Before_name, After_name, After_value, In_word, In_number, In_string, State, Next, Go, Wrong, Deep}
use Rattle.json_ordered.proofs.Numbers.{Reached}

-- two cuts in a row
pub seam : (rest x r y z : List ℕ) → rest ≡ x ++ r → r ≡ y ++ z → rest ≡ (x ++ y) ++ z
seam rest x r y z e f = e ∙ ap (λ (t : List ℕ). x ++ t) f ∙ sym (append_assoc x y z)

-- blanks, and then what P asks
abbrev pub Behind : (List ℕ → Type 0) → List ℕ → Type 0
Behind P text = (blanks : List ℕ) × (rest : List ℕ) × IsBlanks blanks × P rest × (text ≡ blanks ++ rest)

-- one byte, and then what P asks
abbrev pub Led : ℕ → (List ℕ → Type 0) → List ℕ → Type 0
Led byte P text = (rest : List ℕ) × P rest × (text ≡ byte ∷ rest)

module _ (tree : JsonTree) where
  -- what follows a whole value, up to the end of the text
  abbrev pub Closes : ℕ → List Frame → JsonTree → List ℕ → Type 0
  Closes levels [] v text = IsBlanks text × (v ≡ tree)
  Closes levels (In_array done ∷ stack) v text = (a : List ℕ) × (b : List ℕ) × (vs : List JsonTree) × IsMoreItems levels a vs × Closes (suc levels) stack (array_of (done ++ v ∷ vs)) b × (text ≡ a ++ b)
  Closes levels (In_object done name ∷ stack) v text = (a : List ℕ) × (b : List ℕ) × (ms : List (List ℕ × JsonTree)) × IsMoreMembers levels a ms × Closes (suc levels) stack (object_of (put_all done ((name, v) ∷ ms))) b × (text ≡ a ++ b)

  -- a value and what follows it
  abbrev pub Begun : ℕ → List Frame → List ℕ → Type 0
  Begun levels stack text = (a : List ℕ) × (b : List ℕ) × (v : JsonTree) × IsValue levels a v × Closes levels stack v b × (text ≡ a ++ b)

  -- a member and what follows it
  abbrev pub Begun_member : ℕ → List Frame → List (List ℕ × JsonTree) → List ℕ → Type 0
  Begun_member levels stack done text = (a : List ℕ) × (b : List ℕ) × (m : List ℕ × JsonTree) × IsMember levels a m × Closes levels (In_object done m.0 ∷ stack) m.1 b × (text ≡ a ++ b)

  abbrev pub Named : ℕ → List Frame → List (List ℕ × JsonTree) → List ℕ → List ℕ → Type 0
  Named levels stack done name text = Behind (Led 58 (Behind (Begun levels (In_object done name ∷ stack)))) text

  abbrev pub Spelled : ℕ → List Frame → Purpose → List ℕ → List ℕ → Type 0
  Spelled levels stack As_value value text = Closes levels stack (String value) text
  Spelled levels stack (As_name done) value text = Named levels stack done value text

  -- the rest of a string, and what follows it
  abbrev pub In_chars : ℕ → List Frame → Purpose → List ℕ → List ℕ → Type 0
  In_chars levels stack purpose so_far text = (spelled : List ℕ) × (b : List ℕ) × (value : List ℕ) × IsChars spelled value × Spelled levels stack purpose (so_far ++ value) b × (text ≡ spelled ++ 34 ∷ b)

  -- what has come of an escape
  abbrev pub pending : Piece → List ℕ → List ℕ
  pending Plain text = text
  pending Slash text = 92 ∷ text
  pending Unit0 text = 92 ∷ 117 ∷ text
  pending (Unit1 a) text = 92 ∷ 117 ∷ a ∷ text
  pending (Unit2 a b) text = 92 ∷ 117 ∷ a ∷ b ∷ text
  pending (Unit3 a b c) text = 92 ∷ 117 ∷ a ∷ b ∷ c ∷ text
  pending (High q) text = 92 ∷ 117 ∷ q.a ∷ q.b ∷ q.c ∷ q.d ∷ text
  pending (High_slash q) text = 92 ∷ 117 ∷ q.a ∷ q.b ∷ q.c ∷ q.d ∷ 92 ∷ text
  pending (Low0 q) text = 92 ∷ 117 ∷ q.a ∷ q.b ∷ q.c ∷ q.d ∷ 92 ∷ 117 ∷ text
  pending (Low1 q a) text = 92 ∷ 117 ∷ q.a ∷ q.b ∷ q.c ∷ q.d ∷ 92 ∷ 117 ∷ a ∷ text
  pending (Low2 q a b) text = 92 ∷ 117 ∷ q.a ∷ q.b ∷ q.c ∷ q.d ∷ 92 ∷ 117 ∷ a ∷ b ∷ text
  pending (Low3 q a b c) text = 92 ∷ 117 ∷ q.a ∷ q.b ∷ q.c ∷ q.d ∷ 92 ∷ 117 ∷ a ∷ b ∷ c ∷ text

  abbrev pub Rest_at : ℕ → List Frame → Place → List ℕ → Type 0
  Rest_at levels stack Before_value text = Behind (Begun levels stack) text
  Rest_at levels stack After_open_array text = Behind (λ t. Led 93 (Closes (suc levels) stack (array_of [])) t ⊎ Begun levels (In_array [] ∷ stack) t) text
  Rest_at levels stack After_open_object text = Behind (λ t. Led 125 (Closes (suc levels) stack (object_of [])) t ⊎ Begun_member levels stack [] t) text
  Rest_at levels stack (Before_name done) text = Behind (Begun_member levels stack done) text
  Rest_at levels stack (After_name done name) text = Named levels stack done name text
  Rest_at levels stack (After_value v) text = Closes levels stack v text
  Rest_at levels stack (In_word left v) text = (b : List ℕ) × Closes levels stack v b × (text ≡ left ++ b)
  Rest_at levels stack (In_number part so_far) text = (a : List ℕ) × (b : List ℕ) × IsNumber (so_far ++ a) × Closes levels stack (Number (so_far ++ a)) b × (text ≡ a ++ b)
  Rest_at levels stack (In_string purpose so_far piece) text = In_chars levels stack purpose so_far (pending piece text)

  abbrev pub Rest : State → List ℕ → Type 0
  Rest s text = Rest_at s.levels s.stack s.place text

  -- what comes after one more byte
  abbrev pub Ahead : Next → List ℕ → Type 0
  Ahead (Go s) text = Rest s text
  Ahead Wrong text = ⊥
  Ahead Deep text = ⊥

abbrev pub is_ascii : ℕ → Bool
is_ascii byte = nat_lt byte 128

-- what holds of a state that bytes have led to
abbrev pub FinePiece : Piece → Type 0
FinePiece Plain = Unit {0}
FinePiece Slash = Unit {0}
FinePiece Unit0 = Unit {0}
FinePiece (Unit1 a) = is_hex a ≡ true
FinePiece (Unit2 a b) = (is_hex a ≡ true) × (is_hex b ≡ true) × ((digit_value a ≡ 13) → digit_value b < 12)
FinePiece (Unit3 a b c) = (is_hex a ≡ true) × (is_hex b ≡ true) × ((digit_value a ≡ 13) → digit_value b < 12) × (is_hex c ≡ true)
FinePiece (High q) = (is_quad q ≡ true) × (is_high_surrogate (unit_of q) ≡ true)
FinePiece (High_slash q) = (is_quad q ≡ true) × (is_high_surrogate (unit_of q) ≡ true)
FinePiece (Low0 q) = (is_quad q ≡ true) × (is_high_surrogate (unit_of q) ≡ true)
FinePiece (Low1 q a) = (is_quad q ≡ true) × (is_high_surrogate (unit_of q) ≡ true) × (digit_value a ≡ 13)
FinePiece (Low2 q a b) = (is_quad q ≡ true) × (is_high_surrogate (unit_of q) ≡ true) × (digit_value a ≡ 13) × (is_hex b ≡ true) × (12 ≤ digit_value b)
FinePiece (Low3 q a b c) = (is_quad q ≡ true) × (is_high_surrogate (unit_of q) ≡ true) × (digit_value a ≡ 13) × (is_hex b ≡ true) × (12 ≤ digit_value b) × (is_hex c ≡ true)

abbrev pub FinePlace : Place → Type 0
FinePlace Before_value = Unit {0}
FinePlace After_open_array = Unit {0}
FinePlace After_open_object = Unit {0}
FinePlace (Before_name done) = Unit {0}
FinePlace (After_name done name) = Unit {0}
FinePlace (After_value v) = Unit {0}
FinePlace (In_word left v) = list_all is_ascii left ≡ true
FinePlace (In_number part text) = Reached part text
FinePlace (In_string purpose text piece) = FinePiece piece

abbrev pub Fine : State → Type 0
Fine s = FinePlace s.place

abbrev pub FineNext : Next → Type 0
FineNext (Go s) = Fine s
FineNext Wrong = Unit {0}
FineNext Deep = Unit {0}
