-- From each state some ASCII bytes complete a JSON text.
use Rattle.std.proofs.Common.{◌≡◌, ℕ, suc, Bool, true, false, ◌&&◌, eqb, List, [], ◌∷◌, ◌++◌, Ok, refl, ◌∙◌}
use Rattle.std.specs.Prelude.{not}
use Rattle.std.specs.List.{list_all}
use Rattle.std.specs.Char.{digit_value, encode_utf8}
use Rattle.std.specs.Char.Utf16.{is_high_surrogate, surrogate_pair_char}
use Rattle.json_ordered.specs.JsonTree.{JsonTree, Number, String, array_of, object_of, put}
use Rattle.json_ordered.specs.Json.{Quad, unit_of}
use Rattle.json_ordered.specs.declared.number.Part.{Part}
use Rattle.json_ordered.specs.declared.number.Part.TheVariants.{Minus, Zero, Int, Point, Frac, E, Sign, Exp}
use Rattle.json_ordered.specs.JsonReading.{Frame, In_array, In_object, Piece, Plain, Slash, Unit0, Unit1, Unit2, Unit3, High, High_slash, Low0, Low1, Low2, Low3, Purpose, As_value, As_name, Place, Before_value, After_open_array, After_open_object, Before_name, After_name, After_value, In_word, In_number, In_string, State, Go, may_end, after_string, step_at, read_from}
use Rattle.json_ordered.proofs.Numbers.{all_append}
use Rattle.json_ordered.proofs.Residual.{is_ascii, FinePlace, Fine}
use Rattle.json_ordered.specs.JsonSteps.{at}
use Rattle.json_ordered.proofs.Complete.{one_byte, Ends, number_done, word_read}

pub record Completes (s : State) : Type 0 where
  pub more : List ℕ
  pub tree : JsonTree
  pub ascii : list_all is_ascii more ≡ true
  pub read : read_from s more ≡ Ok tree

record Closed (levels : ℕ) (stack : List Frame) (v : JsonTree) : Type 0 where
  more : List ℕ
  tree : JsonTree
  ascii : list_all is_ascii more ≡ true
  ends : Ends more
  read : read_from (at levels stack (After_value v)) more ≡ Ok tree

closed : (stack : List Frame) (levels : ℕ) (v : JsonTree) → Closed levels stack v
unfolding read_from
closed [] levels v = record { more = []; tree = v; ascii = refl; ends = tt; read = refl }
closed (In_array done ∷ stack) levels v =
    let c = closed stack (suc levels) (array_of (done ++ v ∷ [])) in
    record { more = 93 ∷ c.more; tree = c.tree; ascii = c.ascii; ends = refl; read = one_byte levels (In_array done ∷ stack) (After_value v) (at (suc levels) stack (After_value (array_of (done ++ v ∷ [])))) 93 c.more refl ∙ c.read }
closed (In_object done name ∷ stack) levels v =
    let c = closed stack (suc levels) (object_of (put done name v)) in
    record { more = 125 ∷ c.more; tree = c.tree; ascii = c.ascii; ends = refl; read = one_byte levels (In_object done name ∷ stack) (After_value v) (at (suc levels) stack (After_value (object_of (put done name v)))) 125 c.more refl ∙ c.read }

module _ (levels : ℕ) (stack : List Frame) where
  prepend : (place : Place) (byte : ℕ) (t : State) → is_ascii byte ≡ true → step_at levels stack place byte ≡ Go t → Completes t → Completes (at levels stack place)
  prepend place byte t k e c = record { more = byte ∷ c.more; tree = c.tree; ascii = rw k c.ascii; read = one_byte levels stack place t byte c.more e ∙ c.read }

  after_value_completes : (v : JsonTree) → Completes (at levels stack (After_value v))
  after_value_completes v = let c = closed stack levels v in record { more = c.more; tree = c.tree; ascii = c.ascii; read = c.read }

  number_completes : (part : Part) (text : List ℕ) → may_end part ≡ true → Completes (at levels stack (In_number part text))
  number_completes part text m = let c = closed stack levels (Number text) in record { more = c.more; tree = c.tree; ascii = c.ascii; read = number_done levels stack part text c.more m c.ends ∙ c.read }

  part_completes : (part : Part) (text : List ℕ) → Completes (at levels stack (In_number part text))
  part_completes Minus text = prepend (In_number Minus text) 48 (at levels stack (In_number Zero (text ++ 48 ∷ []))) refl refl (number_completes Zero (text ++ 48 ∷ []) refl)
  part_completes Zero text = number_completes Zero text refl
  part_completes Int text = number_completes Int text refl
  part_completes Point text = prepend (In_number Point text) 48 (at levels stack (In_number Frac (text ++ 48 ∷ []))) refl refl (number_completes Frac (text ++ 48 ∷ []) refl)
  part_completes Frac text = number_completes Frac text refl
  part_completes E text = prepend (In_number E text) 48 (at levels stack (In_number Exp (text ++ 48 ∷ []))) refl refl (number_completes Exp (text ++ 48 ∷ []) refl)
  part_completes Sign text = prepend (In_number Sign text) 48 (at levels stack (In_number Exp (text ++ 48 ∷ []))) refl refl (number_completes Exp (text ++ 48 ∷ []) refl)
  part_completes Exp text = number_completes Exp text refl

  word_completes : (left : List ℕ) (v : JsonTree) → list_all is_ascii left ≡ true → Completes (at levels stack (In_word left v))
  word_completes left v k = let c = closed stack levels v in record { more = left ++ c.more; tree = c.tree; ascii = all_append is_ascii left c.more k c.ascii; read = word_read levels stack left v c.more ∙ c.read }

  value_completes : Completes (at levels stack Before_value)
  value_completes = prepend Before_value 48 (at levels stack (In_number Zero (48 ∷ []))) refl refl (part_completes Zero (48 ∷ []))

named_completes : (levels : ℕ) (stack : List Frame) (done : List (List ℕ × JsonTree)) (name : List ℕ) → Completes (at levels stack (After_name done name))
named_completes levels stack done name = prepend levels stack (After_name done name) 58 (at levels (In_object done name ∷ stack) Before_value) refl refl (value_completes levels (In_object done name ∷ stack))

string_ends : (levels : ℕ) (stack : List Frame) (purpose : Purpose) (text : List ℕ) → Completes (at levels stack (after_string purpose text))
string_ends levels stack As_value text = after_value_completes levels stack (String text)
string_ends levels stack (As_name done) text = named_completes levels stack done text

not_second : (b : Bool) → not (b && false) ≡ true
not_second true = refl
not_second false = refl

module _ (levels : ℕ) (stack : List Frame) (purpose : Purpose) (text : List ℕ) where
  abbrev here : Piece → State
  here piece = at levels stack (In_string purpose text piece)

  then_to : (piece : Piece) (byte : ℕ) (t : State) → is_ascii byte ≡ true → step_at levels stack (In_string purpose text piece) byte ≡ Go t → Completes t → Completes (here piece)
  then_to piece byte t k e c = prepend levels stack (In_string purpose text piece) byte t k e c

plain_completes : (levels : ℕ) (stack : List Frame) (purpose : Purpose) (text : List ℕ) → Completes (here levels stack purpose text Plain)
plain_completes levels stack purpose text = then_to levels stack purpose text Plain 34 (at levels stack (after_string purpose text)) refl refl (string_ends levels stack purpose text)

module _ (levels : ℕ) (stack : List Frame) (purpose : Purpose) (text : List ℕ) where
  gave : (bytes : List ℕ) → Completes (at levels stack (In_string purpose (text ++ bytes) Plain))
  gave bytes = plain_completes levels stack purpose (text ++ bytes)

  low3 : (q : Quad) (a b c : ℕ) → Completes (here levels stack purpose text (Low3 q a b c))
  low3 q a b c = let u = encode_utf8 (surrogate_pair_char (unit_of q) (unit_of (record { a = a; b = b; c = c; d = 48 }))) in
      then_to levels stack purpose text (Low3 q a b c) 48 (at levels stack (In_string purpose (text ++ u) Plain)) refl refl (gave u)

  low2 : (q : Quad) (a b : ℕ) → Completes (here levels stack purpose text (Low2 q a b))
  low2 q a b = then_to levels stack purpose text (Low2 q a b) 48 (here levels stack purpose text (Low3 q a b 48)) refl refl (low3 q a b 48)

  low1 : (q : Quad) (a : ℕ) → Completes (here levels stack purpose text (Low1 q a))
  low1 q a = then_to levels stack purpose text (Low1 q a) 99 (here levels stack purpose text (Low2 q a 99)) refl refl (low2 q a 99)

  low0 : (q : Quad) → Completes (here levels stack purpose text (Low0 q))
  low0 q = then_to levels stack purpose text (Low0 q) 100 (here levels stack purpose text (Low1 q 100)) refl refl (low1 q 100)

  high_slash : (q : Quad) → Completes (here levels stack purpose text (High_slash q))
  high_slash q = then_to levels stack purpose text (High_slash q) 117 (here levels stack purpose text (Low0 q)) refl refl (low0 q)

  high : (q : Quad) → Completes (here levels stack purpose text (High q))
  high q = then_to levels stack purpose text (High q) 92 (here levels stack purpose text (High_slash q)) refl refl (high_slash q)

  unit3_by : (a b c : ℕ) (o : Bool) → is_high_surrogate (unit_of (record { a = a; b = b; c = c; d = 48 })) ≡ o → Completes (here levels stack purpose text (Unit3 a b c))
  unit3_by a b c true e = let q : Quad = record { a = a; b = b; c = c; d = 48 } in then_to levels stack purpose text (Unit3 a b c) 48 (here levels stack purpose text (High q)) refl (rw e refl) (high q)
  unit3_by a b c false e = let u = encode_utf8 (unit_of (record { a = a; b = b; c = c; d = 48 })) in
      then_to levels stack purpose text (Unit3 a b c) 48 (at levels stack (In_string purpose (text ++ u) Plain)) refl (rw e refl) (gave u)

  unit3 : (a b c : ℕ) → Completes (here levels stack purpose text (Unit3 a b c))
  unit3 a b c = unit3_by a b c (is_high_surrogate (unit_of (record { a = a; b = b; c = c; d = 48 }))) refl

  unit2 : (a b : ℕ) → Completes (here levels stack purpose text (Unit2 a b))
  unit2 a b = then_to levels stack purpose text (Unit2 a b) 48 (here levels stack purpose text (Unit3 a b 48)) refl refl (unit3 a b 48)

  unit1 : (a : ℕ) → Completes (here levels stack purpose text (Unit1 a))
  unit1 a = then_to levels stack purpose text (Unit1 a) 48 (here levels stack purpose text (Unit2 a 48)) refl (rw (not_second (eqb (digit_value a) 13)) refl) (unit2 a 48)

  unit0 : Completes (here levels stack purpose text Unit0)
  unit0 = then_to levels stack purpose text Unit0 48 (here levels stack purpose text (Unit1 48)) refl refl (unit1 48)

  slash : Completes (here levels stack purpose text Slash)
  slash = then_to levels stack purpose text Slash 110 (at levels stack (In_string purpose (text ++ 10 ∷ []) Plain)) refl refl (gave (10 ∷ []))

  piece_completes : (piece : Piece) → Completes (here levels stack purpose text piece)
  piece_completes Plain = plain_completes levels stack purpose text
  piece_completes Slash = slash
  piece_completes Unit0 = unit0
  piece_completes (Unit1 a) = unit1 a
  piece_completes (Unit2 a b) = unit2 a b
  piece_completes (Unit3 a b c) = unit3 a b c
  piece_completes (High q) = high q
  piece_completes (High_slash q) = high_slash q
  piece_completes (Low0 q) = low0 q
  piece_completes (Low1 q a) = low1 q a
  piece_completes (Low2 q a b) = low2 q a b
  piece_completes (Low3 q a b c) = low3 q a b c

pub completes_at : (levels : ℕ) (stack : List Frame) (place : Place) → FinePlace place → Completes (at levels stack place)
completes_at levels stack Before_value f = value_completes levels stack
completes_at levels stack After_open_array f = prepend levels stack After_open_array 93 (at (suc levels) stack (After_value (array_of []))) refl refl (after_value_completes (suc levels) stack (array_of []))
completes_at levels stack After_open_object f = prepend levels stack After_open_object 125 (at (suc levels) stack (After_value (object_of []))) refl refl (after_value_completes (suc levels) stack (object_of []))
completes_at levels stack (Before_name done) f = prepend levels stack (Before_name done) 34 (at levels stack (In_string (As_name done) [] Plain)) refl refl (plain_completes levels stack (As_name done) [])
completes_at levels stack (After_name done name) f = named_completes levels stack done name
completes_at levels stack (After_value v) f = after_value_completes levels stack v
completes_at levels stack (In_word left v) f = word_completes levels stack left v f
completes_at levels stack (In_number part text) f = part_completes levels stack part text
completes_at levels stack (In_string purpose text piece) f = piece_completes levels stack purpose text piece

pub completes : (s : State) → Fine s → Completes s
completes s f = completes_at s.levels s.stack s.place f
