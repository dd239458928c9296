-- A byte past ASCII stands in a string alone, so a fault stands where a character begins.
use Rattle.std.proofs.Common.{◌≡◌, ℕ, ◌+◌, ◌<◌, ◌≤◌, Bool, true, false, cond, ◌&&◌, eqb, leb, lit<, ◌⊎◌, inl, inr, List, [], ◌∷◌, ◌++◌, length, get_or, Option, Some, None, refl, sym, ap, subst, ◌∙◌, append_assoc, arith, length-append}
use Rattle.std.specs.Prelude.{not}
use Rattle.std.specs.List.{list_all}
use Rattle.std.specs.Char.{digit_value}
use Rattle.std.specs.Str.{IsUtf8, IsCharBoundary}
use Rattle.std.proofs.lemmas.Bool.{eqb-true, ltb-true, cases_lt}
use Rattle.std.proofs.lemmas.Bool.Decides.{nat_tests}
use Rattle.std.proofs.lemmas.List.{append-nil, get_or_at}
use Rattle.std.proofs.lemmas.Str.{IsUtf8-take, IsCharBoundary-start, IsCharBoundary-end, IsCharBoundary-before_ascii, IsCharBoundary-after_ascii}
use Rattle.std.proofs.Math.Seq.{take-append_seam}
use Rattle.path_name.specs.Bytes.{is_blank, is_digit}
use Rattle.json_ordered.specs.JsonTree.{JsonTree, Number}
use Rattle.json_ordered.specs.Json.{is_hex, is_plain, is_e, is_sign, escaped}
use Rattle.json_ordered.specs.declared.number.Part.{Part}
use Rattle.json_ordered.specs.declared.number.Part.TheVariants.{Minus, Zero, Int, Point, Frac, E, Sign, Exp}
use Rattle.json_ordered.specs.JsonReading.{Frame, In_array, In_object, Piece, Plain, Slash, Unit0, Unit1, Unit2, Unit3, High, High_slash, Low0, Low1, Low2, Low3, Purpose, Place, Before_value, After_open_array, After_open_object, Before_name, After_name, After_value, In_word, In_number, In_string, State, Next, Go, Wrong, Deep, part_after, may_end, Took, More, Gave, No_char, more_if, took_letter, take_byte, took, begin_value, end_value, after_value, in_word, in_number, in_string, step_at, step, whole_value}
use Rattle.json_ordered.proofs.Residual.{is_ascii, FinePlace, Fine, FineNext}
use Rattle.json_ordered.proofs.Accepted.{fine_step_at}
use Rattle.json_ordered.proofs.Levels.{Leads}

abbrev IsPlainPiece : Piece → Type 0
IsPlainPiece Plain = Unit {0}
IsPlainPiece _ = ⊥

abbrev IsPlainPlace : Place → Type 0
IsPlainPlace (In_string purpose text piece) = IsPlainPiece piece
IsPlainPlace _ = ⊥

-- after a byte past ASCII
abbrev HighNext : Next → Type 0
HighNext (Go s) = IsPlainPlace s.place
HighNext Wrong = Unit {0}
HighNext Deep = Unit {0}

abbrev HighTook : Took → Type 0
HighTook (More piece) = ⊥
HighTook (Gave bytes) = Unit {0}
HighTook No_char = Unit {0}

high_pick : (b : Bool) (x y : Next) → (b ≡ true → HighNext x) → HighNext y → HighNext (cond b x y)
high_pick true x y f g = f refl
high_pick false x y f g = g

took_pick : (b : Bool) (x y : Took) → (b ≡ true → HighTook x) → HighTook y → HighTook (cond b x y)
took_pick true x y f g = f refl
took_pick false x y f g = g

high_took : (levels : ℕ) (stack : List Frame) (purpose : Purpose) (text : List ℕ) (t : Took) → HighTook t → HighNext (took levels stack purpose text t)
high_took levels stack purpose text (More piece) h = absurd h
high_took levels stack purpose text (Gave bytes) h = tt
high_took levels stack purpose text No_char h = tt

differ : {b : Bool} → b ≡ true → b ≡ false → ⊥
differ p q = cc

pub high_hex : (byte : ℕ) → 128 ≤ byte → digit_value byte ≡ 36
high_hex byte h = grind (arith, nat_tests)

module _ (byte : ℕ) (high : 128 ≤ byte) where
  is_not : (n : ℕ) → n < 128 → eqb byte n ≡ true → ⊥
  is_not n small e = let same : byte ≡ n = eqb-true byte n e in absurd (omega arith)

  is_other : (n : ℕ) → n < 128 → eqb byte n ≡ false
  is_other n small = grind (arith, nat_tests)

  no_blank : is_blank byte ≡ true → ⊥
  no_blank e = differ e (grind (arith, nat_tests))

  no_digit : is_digit byte ≡ false
  no_digit = grind (arith, nat_tests)

  no_hex : is_hex byte ≡ false
  no_hex = rw (high_hex byte high) refl

  no_e : is_e byte ≡ false
  no_e = grind (arith, nat_tests)

  no_sign : is_sign byte ≡ false
  no_sign = grind (arith, nat_tests)

  no_part : (part : Part) → part_after part byte ≡ None
  no_part Minus = rw (is_other 48 (lit< tt), no_digit) refl
  no_part Zero = rw (is_other 46 (lit< tt), no_e) refl
  no_part Int = rw (no_digit, is_other 46 (lit< tt), no_e) refl
  no_part Point = rw no_digit refl
  no_part Frac = rw (no_digit, no_e) refl
  no_part E = rw (no_sign, no_digit) refl
  no_part Sign = rw no_digit refl
  no_part Exp = rw no_digit refl

  pub no_letter : escaped byte ≡ None
  no_letter = rw (is_other 34 (lit< tt), is_other 92 (lit< tt), is_other 47 (lit< tt), is_other 98 (lit< tt), is_other 102 (lit< tt), is_other 110 (lit< tt), is_other 114 (lit< tt), is_other 116 (lit< tt)) refl

  high_end : (levels : ℕ) (stack : List Frame) (v : JsonTree) → HighNext (end_value levels stack v byte)
  high_end levels [] v = tt
  high_end levels (In_array done ∷ stack) v = high_pick (eqb byte 44) _ _ (λ k. is_not 44 (lit< tt) k) (high_pick (eqb byte 93) _ _ (λ k. is_not 93 (lit< tt) k) tt)
  high_end levels (In_object done name ∷ stack) v = high_pick (eqb byte 44) _ _ (λ k. is_not 44 (lit< tt) k) (high_pick (eqb byte 125) _ _ (λ k. is_not 125 (lit< tt) k) tt)

  high_after : (levels : ℕ) (stack : List Frame) (v : JsonTree) → HighNext (after_value levels stack v byte)
  high_after levels stack v = high_pick (is_blank byte) _ _ (λ k. no_blank k) (high_end levels stack v)

  high_word : (levels : ℕ) (stack : List Frame) (left : List ℕ) (v : JsonTree) → list_all is_ascii left ≡ true → HighNext (in_word levels stack left v byte)
  high_word levels stack [] v h = high_after levels stack v
  high_word levels stack (next ∷ left) v h = high_pick (eqb byte next) _ _ (λ k. is_not next (first_small (is_ascii next) refl h) k) tt
    where
      first_small : (b : Bool) → is_ascii next ≡ b → b && list_all is_ascii left ≡ true → next < 128
      first_small true e f = ltb-true next 128 e
      first_small false e f = absurd cc

  high_number : (levels : ℕ) (stack : List Frame) (ends : Bool) (text : List ℕ) (o : Option Part) → o ≡ None → HighNext (in_number levels stack ends text byte o)
  high_number levels stack ends text (Some part) e = absurd cc
  high_number levels stack true text None e = high_after levels stack (Number text)
  high_number levels stack false text None e = tt

  high_letter : (o : Option ℕ) → HighTook (took_letter o)
  high_letter (Some meant) = tt
  high_letter None = tt

  no_hex_more : (piece : Piece) → HighTook (more_if (is_hex byte) piece)
  no_hex_more piece = took_pick (is_hex byte) _ _ (λ k. differ k no_hex) tt

  no_both : (c : Bool) (piece : Piece) → HighTook (more_if (is_hex byte && c) piece)
  no_both c piece = took_pick (is_hex byte && c) _ _ (λ k. left_is (is_hex byte) no_hex k) tt
    where
      left_is : (b : Bool) → b ≡ false → b && c ≡ true → ⊥
      left_is true e k = cc
      left_is false e k = cc

  high_take : (piece : Piece) → HighTook (take_byte piece byte)
  high_take Plain = took_pick (eqb byte 92) _ _ (λ k. is_not 92 (lit< tt) k) (took_pick (is_plain byte) _ _ (λ _. tt) tt)
  high_take Slash = took_pick (eqb byte 117) _ _ (λ k. is_not 117 (lit< tt) k) (high_letter (escaped byte))
  high_take Unit0 = no_hex_more (Unit1 byte)
  high_take (Unit1 a) = no_both (not (eqb (digit_value a) 13 && leb 12 (digit_value byte))) (Unit2 a byte)
  high_take (Unit2 a b) = no_hex_more (Unit3 a b byte)
  high_take (Unit3 a b c) = took_pick (is_hex byte) _ _ (λ k. absurd (differ k no_hex)) tt
  high_take (High q) = took_pick (eqb byte 92) _ _ (λ k. is_not 92 (lit< tt) k) tt
  high_take (High_slash q) = took_pick (eqb byte 117) _ _ (λ k. is_not 117 (lit< tt) k) tt
  high_take (Low0 q) = took_pick (eqb (digit_value byte) 13) _ _ (λ k. let same : digit_value byte ≡ 13 = eqb-true (digit_value byte) 13 k in unlike (digit_value byte) same (high_hex byte high)) tt
    where
      unlike : (x : ℕ) → x ≡ 13 → x ≡ 36 → ⊥
      unlike x e f = absurd (omega arith)
  high_take (Low1 q a) = no_both (leb 12 (digit_value byte)) (Low2 q a byte)
  high_take (Low2 q a b) = no_hex_more (Low3 q a b byte)
  high_take (Low3 q a b c) = took_pick (is_hex byte) _ _ (λ _. tt) tt

  high_string : (levels : ℕ) (stack : List Frame) (purpose : Purpose) (text : List ℕ) (piece : Piece) → HighNext (in_string levels stack purpose text piece byte)
  high_string levels stack purpose text Plain = high_pick (eqb byte 34) _ _ (λ k. absurd (is_not 34 (lit< tt) k)) (high_took levels stack purpose text (take_byte Plain byte) (high_take Plain))
  high_string levels stack purpose text Slash = high_took levels stack purpose text (take_byte Slash byte) (high_take Slash)
  high_string levels stack purpose text Unit0 = high_took levels stack purpose text (take_byte Unit0 byte) (high_take Unit0)
  high_string levels stack purpose text (Unit1 a) = high_took levels stack purpose text (take_byte (Unit1 a) byte) (high_take (Unit1 a))
  high_string levels stack purpose text (Unit2 a b) = high_took levels stack purpose text (take_byte (Unit2 a b) byte) (high_take (Unit2 a b))
  high_string levels stack purpose text (Unit3 a b c) = high_took levels stack purpose text (take_byte (Unit3 a b c) byte) (high_take (Unit3 a b c))
  high_string levels stack purpose text (High q) = high_took levels stack purpose text (take_byte (High q) byte) (high_take (High q))
  high_string levels stack purpose text (High_slash q) = high_took levels stack purpose text (take_byte (High_slash q) byte) (high_take (High_slash q))
  high_string levels stack purpose text (Low0 q) = high_took levels stack purpose text (take_byte (Low0 q) byte) (high_take (Low0 q))
  high_string levels stack purpose text (Low1 q a) = high_took levels stack purpose text (take_byte (Low1 q a) byte) (high_take (Low1 q a))
  high_string levels stack purpose text (Low2 q a b) = high_took levels stack purpose text (take_byte (Low2 q a b) byte) (high_take (Low2 q a b))
  high_string levels stack purpose text (Low3 q a b c) = high_took levels stack purpose text (take_byte (Low3 q a b c) byte) (high_take (Low3 q a b c))

  high_begin : (levels : ℕ) (stack : List Frame) → HighNext (begin_value levels stack byte)
  high_begin levels stack =
      high_pick (eqb byte 91) _ _ (λ k. absurd (is_not 91 (lit< tt) k)) (
      high_pick (eqb byte 123) _ _ (λ k. absurd (is_not 123 (lit< tt) k)) (
      high_pick (eqb byte 34) _ _ (λ k. absurd (is_not 34 (lit< tt) k)) (
      high_pick (eqb byte 110) _ _ (λ k. is_not 110 (lit< tt) k) (
      high_pick (eqb byte 116) _ _ (λ k. is_not 116 (lit< tt) k) (
      high_pick (eqb byte 102) _ _ (λ k. is_not 102 (lit< tt) k) (
      high_pick (eqb byte 45) _ _ (λ k. is_not 45 (lit< tt) k) (
      high_pick (eqb byte 48) _ _ (λ k. is_not 48 (lit< tt) k) (
      high_pick (is_digit byte) _ _ (λ k. differ k no_digit) tt))))))))

  high_step_at : (levels : ℕ) (stack : List Frame) (place : Place) → FinePlace place → HighNext (step_at levels stack place byte)
  high_step_at levels stack Before_value f = high_pick (is_blank byte) _ _ (λ k. no_blank k) (high_begin levels stack)
  high_step_at levels stack After_open_array f = high_pick (is_blank byte) _ _ (λ k. no_blank k) (high_pick (eqb byte 93) _ _ (λ k. is_not 93 (lit< tt) k) (high_begin levels (In_array [] ∷ stack)))
  high_step_at levels stack After_open_object f = high_pick (is_blank byte) _ _ (λ k. no_blank k) (high_pick (eqb byte 125) _ _ (λ k. is_not 125 (lit< tt) k) (high_pick (eqb byte 34) _ _ (λ k. absurd (is_not 34 (lit< tt) k)) tt))
  high_step_at levels stack (Before_name done) f = high_pick (is_blank byte) _ _ (λ k. no_blank k) (high_pick (eqb byte 34) _ _ (λ k. absurd (is_not 34 (lit< tt) k)) tt)
  high_step_at levels stack (After_name done name) f = high_pick (is_blank byte) _ _ (λ k. no_blank k) (high_pick (eqb byte 58) _ _ (λ k. is_not 58 (lit< tt) k) tt)
  high_step_at levels stack (After_value v) f = high_after levels stack v
  high_step_at levels stack (In_word left v) f = high_word levels stack left v f
  high_step_at levels stack (In_number part text) f = high_number levels stack (may_end part) text (part_after part byte) (no_part part)
  high_step_at levels stack (In_string purpose text piece) f = high_string levels stack purpose text piece

  plain_high : is_plain byte ≡ true
  plain_high = grind (arith, nat_tests)

  plain_goes : (levels : ℕ) (stack : List Frame) (place : Place) → IsPlainPlace place → (s : State) × (step_at levels stack place byte ≡ Go s)
  plain_goes levels stack (In_string purpose text Plain) h = (record { levels = levels; stack = stack; place = In_string purpose (text ++ byte ∷ []) Plain }, rw (is_other 34 (lit< tt), is_other 92 (lit< tt), least) refl)
    where
      least : leb 32 byte ≡ true
      least = grind (arith, nat_tests)
  plain_goes levels stack (In_string purpose text Slash) h = absurd h
  plain_goes levels stack (In_string purpose text Unit0) h = absurd h
  plain_goes levels stack (In_string purpose text (Unit1 a)) h = absurd h
  plain_goes levels stack (In_string purpose text (Unit2 a b)) h = absurd h
  plain_goes levels stack (In_string purpose text (Unit3 a b c)) h = absurd h
  plain_goes levels stack (In_string purpose text (High q)) h = absurd h
  plain_goes levels stack (In_string purpose text (High_slash q)) h = absurd h
  plain_goes levels stack (In_string purpose text (Low0 q)) h = absurd h
  plain_goes levels stack (In_string purpose text (Low1 q a)) h = absurd h
  plain_goes levels stack (In_string purpose text (Low2 q a b)) h = absurd h
  plain_goes levels stack (In_string purpose text (Low3 q a b c)) h = absurd h
  plain_goes levels stack Before_value h = absurd h
  plain_goes levels stack After_open_array h = absurd h
  plain_goes levels stack After_open_object h = absurd h
  plain_goes levels stack (Before_name done) h = absurd h
  plain_goes levels stack (After_name done name) h = absurd h
  plain_goes levels stack (After_value v) h = absurd h
  plain_goes levels stack (In_word left v) h = absurd h
  plain_goes levels stack (In_number part text) h = absurd h

-- ---- runs

fine_go : (n : Next) (t : State) → FineNext n → n ≡ Go t → Fine t
fine_go (Go u) t f e = subst Fine (go_same u t e) f
  where
    go_same : (a b : State) → Go a ≡ Go b → a ≡ b
    go_same a b p = cc
fine_go Wrong t f e = absurd cc
fine_go Deep t f e = absurd cc

pub fine_step : (s t : State) (byte : ℕ) → Fine s → step s byte ≡ Go t → Fine t
unfolding step
fine_step s t byte f e = fine_go (step_at s.levels s.stack s.place byte) t (fine_step_at s.levels s.stack s.place byte f) e

pub leads_fine : (front : List ℕ) (s t : State) → Fine s → Leads s front t → Fine t
leads_fine [] s t f h = subst Fine h f
leads_fine (byte ∷ front) s t f (m, e, h) = leads_fine front m t (fine_step s m byte f e) h

high_go : (n : Next) (t : State) → HighNext n → n ≡ Go t → IsPlainPlace t.place
high_go (Go u) t h e = subst (λ (v : State). IsPlainPlace v.place) (go_same u t e) h
  where
    go_same : (a b : State) → Go a ≡ Go b → a ≡ b
    go_same a b p = cc
high_go Wrong t h e = absurd cc
high_go Deep t h e = absurd cc

high_step : (s t : State) (byte : ℕ) → 128 ≤ byte → Fine s → step s byte ≡ Go t → IsPlainPlace t.place
unfolding step
high_step s t byte high f e = high_go (step_at s.levels s.stack s.place byte) t (high_step_at byte high s.levels s.stack s.place f) e

-- nothing has come, or the last byte is ASCII, or the place is inside a string
record Last (front : List ℕ) (t : State) : Type 0 where
  before : List ℕ
  last : ℕ
  parts : front ≡ before ++ last ∷ []
  kind : (last < 128) ⊎ IsPlainPlace t.place

last_of : (byte : ℕ) (front : List ℕ) (s t : State) → Fine s → Leads s (byte ∷ front) t → Last (byte ∷ front) t
last_of byte [] s t f (m, e, same) = record {
  before = [];
  last = byte;
  parts = refl;
  kind = elim (cases_lt byte 128) [ inl lt ↦ inl lt | inr le ↦ inr (subst (λ (u : State). IsPlainPlace u.place) same (high_step s m byte le f e)) ];
}
last_of byte (b ∷ front) s t f (m, e, h) =
    let l = last_of b front m t (fine_step s m byte f e) h in
    record { before = byte ∷ l.before; last = l.last; parts = ap (λ (x : List ℕ). byte ∷ x) l.parts; kind = l.kind }

-- no state goes on with what follows
abbrev pub Halts : State → List ℕ → Type 0
Halts t [] = whole_value t.stack t.place ≡ None
Halts t (byte ∷ rest) = step t byte ≡ Wrong

not_wrong : (t u : State) (byte : ℕ) → step t byte ≡ Wrong → step t byte ≡ Go u → ⊥
not_wrong t u byte e k = unlike (step t byte) e k
  where
    unlike : (n : Next) → n ≡ Wrong → n ≡ Go u → ⊥
    unlike n p q = cc

in_string_boundary : (front rest : List ℕ) (t : State) → IsPlainPlace t.place → Halts t rest → IsCharBoundary (front ++ rest) (length front)
unfolding step
in_string_boundary front [] t p h = subst (λ (n : ℕ). IsCharBoundary (front ++ []) n) (ap length (append-nil front)) (IsCharBoundary-end (front ++ []))
in_string_boundary front (byte ∷ rest) t p h = elim (cases_lt byte 128) [
  | inl lt ↦ IsCharBoundary-before_ascii (front ++ byte ∷ rest) (length front) (omega (arith, length-append front (byte ∷ rest))) (subst (λ (x : ℕ). x < 128) (sym (get_or_at front byte rest 0 (length front) refl)) lt)
  | inr le ↦ let g = plain_goes byte le t.levels t.stack t.place p in absurd (not_wrong t g.0 byte h g.1)
]

boundary_of : (front rest : List ℕ) (t : State) → IsUtf8 (front ++ rest) → Last front t → Halts t rest → IsCharBoundary (front ++ rest) (length front)
boundary_of front rest t utf8 l h = elim l.kind [
  | inl lt ↦ let seam : front ++ rest ≡ l.before ++ l.last ∷ rest = ap (λ (x : List ℕ). x ++ rest) l.parts ∙ append_assoc l.before (l.last ∷ []) rest in
      let here : get_or (front ++ rest) (length l.before) 0 ≡ l.last = ap (λ (x : List ℕ). get_or x (length l.before) 0) seam ∙ get_or_at l.before l.last rest 0 (length l.before) refl in
      let len : length front ≡ length l.before + 1 = ap length l.parts ∙ length-append l.before (l.last ∷ []) in
      subst (λ (n : ℕ). IsCharBoundary (front ++ rest) n) (sym len) (IsCharBoundary-after_ascii (front ++ rest) (length l.before) utf8 (omega (arith, length-append front rest)) (subst (λ (x : ℕ). x < 128) (sym here) lt))
  | inr p ↦ in_string_boundary front rest t p h
]

boundary : (front rest : List ℕ) (s t : State) → Fine s → Leads s front t → IsUtf8 (front ++ rest) → Halts t rest → IsCharBoundary (front ++ rest) (length front)
boundary [] rest s t f l utf8 h = IsCharBoundary-start rest utf8
boundary (byte ∷ front) rest s t f l utf8 h = boundary_of (byte ∷ front) rest t utf8 (last_of byte front s t f l) h

-- what stands before a fault is UTF-8
pub front_utf8 : (front rest : List ℕ) (s t : State) → Fine s → Leads s front t → IsUtf8 (front ++ rest) → Halts t rest → IsUtf8 front
front_utf8 front rest s t f l utf8 h = subst IsUtf8 (take-append_seam front rest) (IsUtf8-take (front ++ rest) (length front) utf8 (boundary front rest s t f l utf8 h))
