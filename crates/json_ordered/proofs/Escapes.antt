-- The steps of an escape.
use Rattle.std.proofs.Common.{◌≡◌, ℕ, suc, ◌<◌, ◌≤◌, Bool, true, false, cond, ◌&&◌, eqb, leb, ltb, List, [], ◌∷◌, ◌++◌, length, Some, None, Result, Ok, Err, refl, sym, ap, subst, ◌∙◌, arith}
use Rattle.std.specs.Prelude.{not, MatchResult}
use Rattle.std.specs.Borrow.{Bor}
use Rattle.std.specs.Char.{digit_value, encode_utf8}
use Rattle.std.specs.Char.Utf16.{is_high_surrogate, surrogate_pair_char}
use Rattle.std.proofs.lemmas.Bool.{eqb-true, ltb-true}
use Rattle.std.proofs.lemmas.Bool.Decides.{nat_tests}
use Rattle.json_ordered.specs.declared.stop.Stop as stops
use Rattle.json_ordered.specs.declared.stop.Stop.TheVariants as stop
use Rattle.json_ordered.specs.JsonTree.{JsonTree}
use Rattle.json_ordered.specs.Json.{Quad, unit_of, escaped}
use Rattle.json_ordered.specs.JsonReading.{Frame, Piece, Plain, Slash, Unit0, Unit1, Unit2, Unit3, High, High_slash, Low0, Low1, Low2, Low3, Purpose, In_string, Next, More, Gave, No_char, take_byte, took, more_if, in_string, step, whole_value, Stop, ended, goes_on, read_from}
use Rattle.json_ordered.specs.JsonSteps.{at, Fails, Hex, NoHex, NoByte}
use Rattle.json_ordered.proofs.Complete.{one_byte}
use Rattle.json_ordered.proofs.Units.{number_of}

-- the first byte is none of the string
abbrev pub FirstNo : Piece → List ℕ → Type 0
FirstNo piece [] = Unit {0}
FirstNo piece (byte ∷ rest) = take_byte piece byte ≡ No_char

pub fails_along : (e : stops.Stop) (r s : Result JsonTree Stop) → r ≡ s → Fails e s → Fails e r
fails_along e r s same h = subst (Fails e) (sym same) h

not_below : (x n : ℕ) → (x < n → ⊥) → ltb x n ≡ false
not_below x n h = go (ltb x n) refl
  where
    go : (b : Bool) → ltb x n ≡ b → ltb x n ≡ false
    go true e = absurd (h (ltb-true x n e))
    go false e = e

pub eqb_no : (x n : ℕ) → (x ≡ n → ⊥) → eqb x n ≡ false
eqb_no x n h = go (eqb x n) refl
  where
    go : (b : Bool) → eqb x n ≡ b → eqb x n ≡ false
    go true e = absurd (h (eqb-true x n e))
    go false e = e

below_is : (x n : ℕ) → x < n → ltb x n ≡ true
below_is x n h = grind (arith, nat_tests)

second_yes : (x y : ℕ) → y < cond (eqb x 13) 12 16 → ltb y 16 && not (eqb x 13 && leb 12 y) ≡ true
second_yes x y h = go (eqb x 13) h
  where
    go : (b : Bool) → y < cond b 12 16 → ltb y 16 && not (b && leb 12 y) ≡ true
    go true k = grind (arith, nat_tests)
    go false k = grind (arith, nat_tests)

second_no : (x y : ℕ) → (y < cond (eqb x 13) 12 16 → ⊥) → ltb y 16 && not (eqb x 13 && leb 12 y) ≡ false
second_no x y h = go (eqb x 13) (not_below y (cond (eqb x 13) 12 16) h)
  where
    go : (b : Bool) → ltb y (cond b 12 16) ≡ false → ltb y 16 && not (b && leb 12 y) ≡ false
    go true k = grind (arith, nat_tests)
    go false k = grind (arith, nat_tests)

thirteen_no : (y : ℕ) → (13 ≤ y → y < 14 → ⊥) → eqb y 13 ≡ false
thirteen_no y h = go (eqb y 13) refl
  where
    go : (b : Bool) → eqb y 13 ≡ b → eqb y 13 ≡ false
    go true e = let same : y ≡ 13 = eqb-true y 13 e in absurd (h (omega arith) (omega arith))
    go false e = e

thirteen_yes : (y : ℕ) → 13 ≤ y → y < 14 → eqb y 13 ≡ true
thirteen_yes y h k = grind (arith, nat_tests)

twelve_no : (y : ℕ) → (12 ≤ y → y < 16 → ⊥) → ltb y 16 && leb 12 y ≡ false
twelve_no y h = go (ltb y 16) (leb 12 y) refl refl
  where
    at_least : leb 12 y ≡ true → 12 ≤ y
    at_least e = grind (arith, nat_tests)

    go : (b c : Bool) → ltb y 16 ≡ b → leb 12 y ≡ c → ltb y 16 && leb 12 y ≡ false
    go true true e f = absurd (h (at_least f) (ltb-true y 16 e))
    go true false e f = rw (e, f) refl
    go false c e f = rw e refl

twelve_yes : (y : ℕ) → 12 ≤ y → y < 16 → ltb y 16 && leb 12 y ≡ true
twelve_yes y h k = grind (arith, nat_tests)

module _ (levels : ℕ) (stack : List Frame) (purpose : Purpose) (old : List ℕ) where
  abbrev pub rd : Piece → List ℕ → Result JsonTree Stop
  rd piece text = read_from (at levels stack (In_string purpose old piece)) text

  no_value : (piece : Piece) → whole_value stack (In_string purpose old piece) ≡ None
  no_value piece = by_stack stack
    where
      by_stack : (all : List Frame) → whole_value all (In_string purpose old piece) ≡ None
      by_stack [] = refl
      by_stack (frame ∷ all) = refl

  -- all but `Plain` go by take_byte alone
  abbrev Takes : Piece → Type 0
  Takes piece = (byte : ℕ) → in_string levels stack purpose old piece byte ≡ took levels stack purpose old (take_byte piece byte)

  pub halts : (piece : Piece) (text : List ℕ) (e : stops.Stop) → Takes piece → FirstNo piece text → e ≡ stop.Syntax (length text) → Fails e (rd piece text)
  unfolding read_from step
  halts piece [] e takes first is = subst (λ (f : stops.Stop). Fails f (rd piece [])) (sym is) (ap ended (no_value piece))
  halts piece (byte ∷ rest) e takes first is = subst (λ (f : stops.Stop). Fails f (rd piece (byte ∷ rest))) (sym is)
      (ap (λ (n : Next). goes_on n (suc (length rest)) (λ u. read_from u rest)) (takes byte ∙ ap (took levels stack purpose old) first))

  pub more : (piece next : Piece) (byte : ℕ) (text rest : List ℕ) → Takes piece → text ≡ byte ∷ rest → take_byte piece byte ≡ More next → rd piece text ≡ rd next rest
  more piece next byte text rest takes parts e =
      ap (rd piece) parts ∙ one_byte levels stack (In_string purpose old piece) (at levels stack (In_string purpose old next)) byte rest (takes byte ∙ ap (took levels stack purpose old) e)

  pub gave : (piece : Piece) (byte : ℕ) (bytes text rest : List ℕ) → Takes piece → text ≡ byte ∷ rest → take_byte piece byte ≡ Gave bytes → rd piece text ≡ read_from (at levels stack (In_string purpose (old ++ bytes) Plain)) rest
  gave piece byte bytes text rest takes parts e =
      ap (rd piece) parts ∙ one_byte levels stack (In_string purpose old piece) (at levels stack (In_string purpose (old ++ bytes) Plain)) byte rest (takes byte ∙ ap (took levels stack purpose old) e)

  -- ---- one unit

  unit0_no : (text : List ℕ) → NoHex 0 16 text → FirstNo Unit0 text
  unit0_no [] h = tt
  unit0_no (byte ∷ rest) h = ap (λ (b : Bool). more_if b (Unit1 byte)) (not_below (digit_value byte) 16 (h (omega arith)))

  pub unit0_halts : (text : List ℕ) (e : stops.Stop) → e ≡ stop.Syntax (length text) → NoHex 0 16 text → Fails e (rd Unit0 text)
  unit0_halts text e is h = halts Unit0 text e (λ _. refl) (unit0_no text h) is

  pub unit0_more : (text rest : List ℕ) (value : ℕ) (h : Hex text rest 0 16 value) → rd Unit0 text ≡ rd (Unit1 h.byte) rest
  unit0_more text rest value h = more Unit0 (Unit1 h.byte) h.byte text rest (λ _. refl) h.parts (ap (λ (b : Bool). more_if b (Unit1 h.byte)) (below_is (digit_value h.byte) 16 h.end_is))

  unit1_no : (a : ℕ) (text : List ℕ) → NoHex 0 (cond (eqb (digit_value a) 13) 12 16) text → FirstNo (Unit1 a) text
  unit1_no a [] h = tt
  unit1_no a (byte ∷ rest) h = ap (λ (b : Bool). more_if b (Unit2 a byte)) (second_no (digit_value a) (digit_value byte) (h (omega arith)))

  pub unit1_halts : (a : ℕ) (text : List ℕ) (e : stops.Stop) → e ≡ stop.Syntax (length text) → NoHex 0 (cond (eqb (digit_value a) 13) 12 16) text → Fails e (rd (Unit1 a) text)
  unit1_halts a text e is h = halts (Unit1 a) text e (λ _. refl) (unit1_no a text h) is

  pub unit1_more : (a end : ℕ) (text rest : List ℕ) (value : ℕ) (h : Hex text rest 0 end value) → end ≡ cond (eqb (digit_value a) 13) 12 16 → rd (Unit1 a) text ≡ rd (Unit2 a h.byte) rest
  unit1_more a end text rest value h e = more (Unit1 a) (Unit2 a h.byte) h.byte text rest (λ _. refl) h.parts
      (ap (λ (b : Bool). more_if b (Unit2 a h.byte)) (second_yes (digit_value a) (digit_value h.byte) (subst (λ (n : ℕ). digit_value h.byte < n) e h.end_is)))

  unit2_no : (a b : ℕ) (text : List ℕ) → NoHex 0 16 text → FirstNo (Unit2 a b) text
  unit2_no a b [] h = tt
  unit2_no a b (byte ∷ rest) h = ap (λ (o : Bool). more_if o (Unit3 a b byte)) (not_below (digit_value byte) 16 (h (omega arith)))

  pub unit2_halts : (a b : ℕ) (text : List ℕ) (e : stops.Stop) → e ≡ stop.Syntax (length text) → NoHex 0 16 text → Fails e (rd (Unit2 a b) text)
  unit2_halts a b text e is h = halts (Unit2 a b) text e (λ _. refl) (unit2_no a b text h) is

  pub unit2_more : (a b : ℕ) (text rest : List ℕ) (value : ℕ) (h : Hex text rest 0 16 value) → rd (Unit2 a b) text ≡ rd (Unit3 a b h.byte) rest
  unit2_more a b text rest value h = more (Unit2 a b) (Unit3 a b h.byte) h.byte text rest (λ _. refl) h.parts (ap (λ (o : Bool). more_if o (Unit3 a b h.byte)) (below_is (digit_value h.byte) 16 h.end_is))

  unit3_no : (a b c : ℕ) (text : List ℕ) → NoHex 0 16 text → FirstNo (Unit3 a b c) text
  unit3_no a b c [] h = tt
  unit3_no a b c (byte ∷ rest) h = rw (not_below (digit_value byte) 16 (h (omega arith))) refl

  pub unit3_halts : (a b c : ℕ) (text : List ℕ) (e : stops.Stop) → e ≡ stop.Syntax (length text) → NoHex 0 16 text → Fails e (rd (Unit3 a b c) text)
  unit3_halts a b c text e is h = halts (Unit3 a b c) text e (λ _. refl) (unit3_no a b c text h) is

  abbrev pub quad : ℕ → ℕ → ℕ → ℕ → Quad
  quad a b c d = record { a = a; b = b; c = c; d = d }

  pub unit3_high : (a b c : ℕ) (text rest : List ℕ) (value : ℕ) (h : Hex text rest 0 16 value) → is_high_surrogate (unit_of (quad a b c h.byte)) ≡ true → rd (Unit3 a b c) text ≡ rd (High (quad a b c h.byte)) rest
  unit3_high a b c text rest value h e = more (Unit3 a b c) (High (quad a b c h.byte)) h.byte text rest (λ _. refl) h.parts (rw (below_is (digit_value h.byte) 16 h.end_is, e) refl)

  pub unit3_gave : (a b c : ℕ) (text rest : List ℕ) (value : ℕ) (h : Hex text rest 0 16 value) → is_high_surrogate (unit_of (quad a b c h.byte)) ≡ false
      → rd (Unit3 a b c) text ≡ read_from (at levels stack (In_string purpose (old ++ encode_utf8 (unit_of (quad a b c h.byte))) Plain)) rest
  unit3_gave a b c text rest value h e = gave (Unit3 a b c) h.byte (encode_utf8 (unit_of (quad a b c h.byte))) text rest (λ _. refl) h.parts (rw (below_is (digit_value h.byte) 16 h.end_is, e) refl)

  -- ---- the other half

  high_no : (q : Quad) (text : List ℕ) → NoByte 92 text → FirstNo (High q) text
  high_no q [] h = tt
  high_no q (byte ∷ rest) h = ap (λ (b : Bool). more_if b (High_slash q)) h

  pub high_halts : (q : Quad) (text : List ℕ) (e : stops.Stop) → e ≡ stop.Syntax (length text) → NoByte 92 text → Fails e (rd (High q) text)
  high_halts q text e is h = halts (High q) text e (λ _. refl) (high_no q text h) is

  pub high_more : (q : Quad) (text rest : List ℕ) → text ≡ 92 ∷ rest → rd (High q) text ≡ rd (High_slash q) rest
  high_more q text rest parts = more (High q) (High_slash q) 92 text rest (λ _. refl) parts refl

  slash_no : (q : Quad) (text : List ℕ) → NoByte 117 text → FirstNo (High_slash q) text
  slash_no q [] h = tt
  slash_no q (byte ∷ rest) h = ap (λ (b : Bool). more_if b (Low0 q)) h

  pub slash_halts : (q : Quad) (text : List ℕ) (e : stops.Stop) → e ≡ stop.Syntax (length text) → NoByte 117 text → Fails e (rd (High_slash q) text)
  slash_halts q text e is h = halts (High_slash q) text e (λ _. refl) (slash_no q text h) is

  pub slash_more : (q : Quad) (text rest : List ℕ) → text ≡ 117 ∷ rest → rd (High_slash q) text ≡ rd (Low0 q) rest
  slash_more q text rest parts = more (High_slash q) (Low0 q) 117 text rest (λ _. refl) parts refl

  low0_no : (q : Quad) (text : List ℕ) → NoHex 13 14 text → FirstNo (Low0 q) text
  low0_no q [] h = tt
  low0_no q (byte ∷ rest) h = ap (λ (b : Bool). more_if b (Low1 q byte)) (thirteen_no (digit_value byte) h)

  pub low0_halts : (q : Quad) (text : List ℕ) (e : stops.Stop) → e ≡ stop.Syntax (length text) → NoHex 13 14 text → Fails e (rd (Low0 q) text)
  low0_halts q text e is h = halts (Low0 q) text e (λ _. refl) (low0_no q text h) is

  pub low0_more : (q : Quad) (text rest : List ℕ) (value : ℕ) (h : Hex text rest 13 14 value) → rd (Low0 q) text ≡ rd (Low1 q h.byte) rest
  low0_more q text rest value h = more (Low0 q) (Low1 q h.byte) h.byte text rest (λ _. refl) h.parts (ap (λ (b : Bool). more_if b (Low1 q h.byte)) (thirteen_yes (digit_value h.byte) h.least_is h.end_is))

  low1_no : (q : Quad) (a : ℕ) (text : List ℕ) → NoHex 12 16 text → FirstNo (Low1 q a) text
  low1_no q a [] h = tt
  low1_no q a (byte ∷ rest) h = ap (λ (b : Bool). more_if b (Low2 q a byte)) (twelve_no (digit_value byte) h)

  pub low1_halts : (q : Quad) (a : ℕ) (text : List ℕ) (e : stops.Stop) → e ≡ stop.Syntax (length text) → NoHex 12 16 text → Fails e (rd (Low1 q a) text)
  low1_halts q a text e is h = halts (Low1 q a) text e (λ _. refl) (low1_no q a text h) is

  pub low1_more : (q : Quad) (a : ℕ) (text rest : List ℕ) (value : ℕ) (h : Hex text rest 12 16 value) → rd (Low1 q a) text ≡ rd (Low2 q a h.byte) rest
  low1_more q a text rest value h = more (Low1 q a) (Low2 q a h.byte) h.byte text rest (λ _. refl) h.parts (ap (λ (b : Bool). more_if b (Low2 q a h.byte)) (twelve_yes (digit_value h.byte) h.least_is h.end_is))

  low2_no : (q : Quad) (a b : ℕ) (text : List ℕ) → NoHex 0 16 text → FirstNo (Low2 q a b) text
  low2_no q a b [] h = tt
  low2_no q a b (byte ∷ rest) h = ap (λ (o : Bool). more_if o (Low3 q a b byte)) (not_below (digit_value byte) 16 (h (omega arith)))

  pub low2_halts : (q : Quad) (a b : ℕ) (text : List ℕ) (e : stops.Stop) → e ≡ stop.Syntax (length text) → NoHex 0 16 text → Fails e (rd (Low2 q a b) text)
  low2_halts q a b text e is h = halts (Low2 q a b) text e (λ _. refl) (low2_no q a b text h) is

  pub low2_more : (q : Quad) (a b : ℕ) (text rest : List ℕ) (value : ℕ) (h : Hex text rest 0 16 value) → rd (Low2 q a b) text ≡ rd (Low3 q a b h.byte) rest
  low2_more q a b text rest value h = more (Low2 q a b) (Low3 q a b h.byte) h.byte text rest (λ _. refl) h.parts (ap (λ (o : Bool). more_if o (Low3 q a b h.byte)) (below_is (digit_value h.byte) 16 h.end_is))

  low3_no : (q : Quad) (a b c : ℕ) (text : List ℕ) → NoHex 0 16 text → FirstNo (Low3 q a b c) text
  low3_no q a b c [] h = tt
  low3_no q a b c (byte ∷ rest) h = rw (not_below (digit_value byte) 16 (h (omega arith))) refl

  pub low3_halts : (q : Quad) (a b c : ℕ) (text : List ℕ) (e : stops.Stop) → e ≡ stop.Syntax (length text) → NoHex 0 16 text → Fails e (rd (Low3 q a b c) text)
  low3_halts q a b c text e is h = halts (Low3 q a b c) text e (λ _. refl) (low3_no q a b c text h) is

  pub low3_gave : (q : Quad) (a b c : ℕ) (text rest : List ℕ) (value : ℕ) (h : Hex text rest 0 16 value)
      → rd (Low3 q a b c) text ≡ read_from (at levels stack (In_string purpose (old ++ encode_utf8 (surrogate_pair_char (unit_of q) (unit_of (quad a b c h.byte)))) Plain)) rest
  low3_gave q a b c text rest value h = gave (Low3 q a b c) h.byte (encode_utf8 (surrogate_pair_char (unit_of q) (unit_of (quad a b c h.byte)))) text rest (λ _. refl) h.parts (rw (below_is (digit_value h.byte) 16 h.end_is) refl)

  -- ---- a letter

  pub letter_gave : (letter byte : ℕ) (text rest : List ℕ) → text ≡ letter ∷ rest → eqb letter 117 ≡ false → escaped letter ≡ Some byte → rd Slash text ≡ read_from (at levels stack (In_string purpose (old ++ byte ∷ []) Plain)) rest
  letter_gave letter byte text rest parts nou e = gave Slash letter (byte ∷ []) text rest (λ _. refl) parts (rw (nou, e) refl)

  pub letter_u : (text rest : List ℕ) → text ≡ 117 ∷ rest → rd Slash text ≡ rd Unit0 rest
  letter_u text rest parts = more Slash Unit0 117 text rest (λ _. refl) parts refl

  pub letter_halts : (letter : ℕ) (text rest : List ℕ) (e : stops.Stop) → text ≡ letter ∷ rest → eqb letter 117 ≡ false → escaped letter ≡ None → e ≡ stop.Syntax (length text) → Fails e (rd Slash text)
  letter_halts letter text rest e parts nou esc is = halts Slash text e (λ _. refl) (subst (FirstNo Slash) (sym parts) (rw (nou, esc) refl)) is

  pub slash_end : (text : List ℕ) (e : stops.Stop) → text ≡ [] → e ≡ stop.Syntax 0 → Fails e (rd Slash text)
  slash_end text e none is = halts Slash text e (λ _. refl) (subst (FirstNo Slash) (sym none) tt) (is ∙ ap (λ (t : List ℕ). stop.Syntax (length t)) (sym none))

-- after a character was added
abbrev pub rd_plain : ℕ → List Frame → Purpose → List ℕ → ℕ → List ℕ → Result JsonTree Stop
rd_plain levels stack purpose old code text = read_from (at levels stack (In_string purpose (old ++ encode_utf8 code) Plain)) text

pub unit_code : (a b c d x y z w : ℕ) → x ≡ digit_value a → y ≡ digit_value b → z ≡ digit_value c → w ≡ digit_value d → unit_of (record { a = a; b = b; c = c; d = d }) ≡ number_of x y z w
unit_code a b c d x y z w hx hy hz hw = ap (λ (n : ℕ). number_of n (digit_value b) (digit_value c) (digit_value d)) (sym hx) ∙ ap (λ (n : ℕ). number_of x n (digit_value c) (digit_value d)) (sym hy)
    ∙ ap (λ (n : ℕ). number_of x y n (digit_value d)) (sym hz) ∙ ap (number_of x y z) (sym hw)

pub pair_code : (q : Quad) (a b c d x y z w high : ℕ) → unit_of q ≡ high → x ≡ digit_value a → y ≡ digit_value b → z ≡ digit_value c → w ≡ digit_value d
    → surrogate_pair_char (unit_of q) (unit_of (record { a = a; b = b; c = c; d = d })) ≡ surrogate_pair_char high (number_of x y z w)
pair_code q a b c d x y z w high same hx hy hz hw = ap (λ (n : ℕ). surrogate_pair_char n (unit_of (record { a = a; b = b; c = c; d = d }))) same ∙ ap (surrogate_pair_char high) (unit_code a b c d x y z w hx hy hz hw)

-- the rest of an escape, further along
pub from_along : (piece next : Piece) (text rest old new : List ℕ) (result : Result (Bor (List ℕ)) stops.Stop) (levels : ℕ) (stack : List Frame) (purpose : Purpose)
    → rd levels stack purpose old piece text ≡ rd levels stack purpose old next rest
    → MatchResult result (λ r. rd levels stack purpose old next rest ≡ rd levels stack purpose new Plain r.now) (λ e. Fails e (rd levels stack purpose old next rest))
    → MatchResult result (λ r. rd levels stack purpose old piece text ≡ rd levels stack purpose new Plain r.now) (λ e. Fails e (rd levels stack purpose old piece text))
from_along piece next text rest old new (Ok r) levels stack purpose same h = same ∙ h
from_along piece next text rest old new (Err e) levels stack purpose same h = fails_along e _ _ same h

-- the second digit, by the first digit's value
pub second_is : (first a end : ℕ) → end ≡ cond (eqb first 13) 12 16 → first ≡ digit_value a → end ≡ cond (eqb (digit_value a) 13) 12 16
second_is first a end e same = e ∙ ap (λ (n : ℕ). cond (eqb n 13) 12 16) same

pub second_none : (text : List ℕ) (a end : ℕ) → end ≡ cond (eqb (digit_value a) 13) 12 16 → NoHex 0 end text → NoHex 0 (cond (eqb (digit_value a) 13) 12 16) text
second_none text a end e h = subst (λ (n : ℕ). NoHex 0 n text) e h
