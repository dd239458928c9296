-- Reading a whole text: what is accepted is in the grammar.
use Rattle.std.proofs.Common.{◌≡◌, ℕ, zero, suc, Bool, true, false, cond, ◌&&◌, eqb, leb, ◌<◌, ◌≤◌, List, [], ◌∷◌, ◌++◌, length, Option, Some, None, Ok, refl, sym, ap, subst, ◌∙◌, arith}
use Rattle.std.specs.Prelude.{not}
use Rattle.std.specs.List.{list_all}
use Rattle.std.specs.Str.{IsUtf8}
use Rattle.std.specs.Char.{digit_value}
use Rattle.std.specs.Char.Utf16.{is_high_surrogate}
use Rattle.std.proofs.lemmas.Bool.{eqb-true}
use Rattle.std.proofs.lemmas.Bool.Decides.{nat_tests}
use Rattle.std.proofs.lemmas.List.{append-nil}
use Rattle.path_name.specs.Bytes.{is_blank, is_digit}
use Rattle.json_ordered.specs.JsonTree.{JsonTree, Number}
use Rattle.json_ordered.specs.Json.{IsNumber, IsValue, IsJsonOf, Quad, is_hex, is_plain, escaped, unit_of}
use Rattle.json_ordered.specs.declared.number.Part.{Part}
use Rattle.json_ordered.specs.JsonReading.{Frame, In_array, In_object, Piece, Plain, Slash, Unit0, Unit1, Unit2, Unit3, High, High_slash, Low0, Low1, Low2, Low3, Purpose, As_value, As_name, Place, Before_value, After_open_array, After_open_object, Before_name, After_name, After_value, In_word, In_number, In_string, State, Next, Go, Wrong, Deep, part_after, may_end, Took, More, Gave, No_char, took_letter, take_byte, after_string, took, open_level, begin_value, end_value, after_value, in_word, in_number, in_string, step_at, step, whole_value, ended, goes_on, read_from, start}
use Rattle.json_ordered.proofs.Numbers.{ReachedNext, number_goes_on, number_ends, begins_minus, begins_zero, begins_int}
use Rattle.json_ordered.proofs.Residual.{is_ascii, Rest_at, Rest, Ahead, FinePiece, FinePlace, Fine, FineNext}
use Rattle.json_ordered.proofs.Sound.{step_back}

-- ---- what holds of each state that bytes lead to

fine_pick : (b : Bool) (x y : Next) → (b ≡ true → FineNext x) → (b ≡ false → FineNext y) → FineNext (cond b x y)
fine_pick true x y f g = f refl
fine_pick false x y f g = g refl

fine_end : (levels : ℕ) (stack : List Frame) (v : JsonTree) (byte : ℕ) → FineNext (end_value levels stack v byte)
fine_end levels [] v byte = tt
fine_end levels (In_array done ∷ stack) v byte = fine_pick (eqb byte 44) _ _ (λ _. tt) (λ _. fine_pick (eqb byte 93) _ _ (λ _. tt) (λ _. tt))
fine_end levels (In_object done name ∷ stack) v byte = fine_pick (eqb byte 44) _ _ (λ _. tt) (λ _. fine_pick (eqb byte 125) _ _ (λ _. tt) (λ _. tt))

fine_after : (levels : ℕ) (stack : List Frame) (v : JsonTree) (byte : ℕ) → FineNext (after_value levels stack v byte)
fine_after levels stack v byte = fine_pick (is_blank byte) _ _ (λ _. tt) (λ _. fine_end levels stack v byte)

both : (b c : Bool) → b && c ≡ true → (b ≡ true) × (c ≡ true)
both true c h = (refl, h)
both false c h = absurd cc

fine_word : (levels : ℕ) (stack : List Frame) (left : List ℕ) (v : JsonTree) (byte : ℕ) → list_all is_ascii left ≡ true → FineNext (in_word levels stack left v byte)
fine_word levels stack [] v byte h = fine_after levels stack v byte
fine_word levels stack (next ∷ left) v byte h = fine_pick (eqb byte next) _ _ (λ _. (both (is_ascii next) (list_all is_ascii left) h).1) (λ _. tt)

fine_number : (levels : ℕ) (stack : List Frame) (ends : Bool) (text : List ℕ) (byte : ℕ) (next : Option Part) → ReachedNext next (text ++ byte ∷ []) → FineNext (in_number levels stack ends text byte next)
fine_number levels stack true text byte (Some part) h = h
fine_number levels stack false text byte (Some part) h = h
fine_number levels stack true text byte None h = fine_after levels stack (Number text) byte
fine_number levels stack false text byte None h = tt

abbrev FineTook : Took → Type 0
FineTook (More piece) = FinePiece piece
FineTook (Gave bytes) = Unit {0}
FineTook No_char = Unit {0}

fine_took : (levels : ℕ) (stack : List Frame) (purpose : Purpose) (text : List ℕ) (t : Took) → FineTook t → FineNext (took levels stack purpose text t)
fine_took levels stack purpose text (More piece) h = h
fine_took levels stack purpose text (Gave bytes) h = tt
fine_took levels stack purpose text No_char h = tt

took_pick : (b : Bool) (x y : Took) → (b ≡ true → FineTook x) → (b ≡ false → FineTook y) → FineTook (cond b x y)
took_pick true x y f g = f refl
took_pick false x y f g = g refl

fine_letter : (o : Option ℕ) → FineTook (took_letter o)
fine_letter (Some meant) = tt
fine_letter None = tt

not_both : (x y : ℕ) → not (eqb x 13 && leb 12 y) ≡ true → x ≡ 13 → y < 12
not_both x y h e = grind (arith, nat_tests)

is_at_least : (y : ℕ) → leb 12 y ≡ true → 12 ≤ y
is_at_least y h = grind (arith, nat_tests)

fine_take : (piece : Piece) (byte : ℕ) → FinePiece piece → FineTook (take_byte piece byte)
fine_take Plain byte f = took_pick (eqb byte 92) _ _ (λ _. tt) (λ _. took_pick (is_plain byte) _ _ (λ _. tt) (λ _. tt))
fine_take Slash byte f = took_pick (eqb byte 117) _ _ (λ _. tt) (λ _. fine_letter (escaped byte))
fine_take Unit0 byte f = took_pick (is_hex byte) _ _ (λ k. k) (λ _. tt)
fine_take (Unit1 a) byte f = took_pick (is_hex byte && not (eqb (digit_value a) 13 && leb 12 (digit_value byte))) _ _
    (λ k. let parts = both _ _ k in (f, parts.0, not_both (digit_value a) (digit_value byte) parts.1)) (λ _. tt)
fine_take (Unit2 a b) byte f = took_pick (is_hex byte) _ _ (λ k. (f.0, f.1, f.2, k)) (λ _. tt)
fine_take (Unit3 a b c) byte f = let q : Quad = record { a = a; b = b; c = c; d = byte } in
    took_pick (is_hex byte) _ _ (λ k. took_pick (is_high_surrogate (unit_of q)) _ _ (λ e. (rw (f.0, f.1, f.3, k) refl, e)) (λ _. tt)) (λ _. tt)
fine_take (High q) byte f = took_pick (eqb byte 92) _ _ (λ _. f) (λ _. tt)
fine_take (High_slash q) byte f = took_pick (eqb byte 117) _ _ (λ _. f) (λ _. tt)
fine_take (Low0 q) byte f = took_pick (eqb (digit_value byte) 13) _ _ (λ k. (f.0, f.1, eqb-true _ 13 k)) (λ _. tt)
fine_take (Low1 q a) byte f = took_pick (is_hex byte && leb 12 (digit_value byte)) _ _ (λ k. let parts = both _ _ k in (f.0, f.1, f.2, parts.0, is_at_least (digit_value byte) parts.1)) (λ _. tt)
fine_take (Low2 q a b) byte f = took_pick (is_hex byte) _ _ (λ k. (f.0, f.1, f.2, f.3, f.4, k)) (λ _. tt)
fine_take (Low3 q a b c) byte f = took_pick (is_hex byte) _ _ (λ _. tt) (λ _. tt)

fine_after_string : (levels : ℕ) (stack : List Frame) (purpose : Purpose) (text : List ℕ) → FinePlace (after_string purpose text)
fine_after_string levels stack As_value text = tt
fine_after_string levels stack (As_name done) text = tt

fine_string : (levels : ℕ) (stack : List Frame) (purpose : Purpose) (text : List ℕ) (piece : Piece) (byte : ℕ) → FinePiece piece → FineNext (in_string levels stack purpose text piece byte)
fine_string levels stack purpose text Plain byte f = fine_pick (eqb byte 34) _ _ (λ _. fine_after_string levels stack purpose text) (λ _. fine_took levels stack purpose text (take_byte Plain byte) (fine_take Plain byte f))
fine_string levels stack purpose text Slash byte f = fine_took levels stack purpose text (take_byte Slash byte) (fine_take Slash byte f)
fine_string levels stack purpose text Unit0 byte f = fine_took levels stack purpose text (take_byte Unit0 byte) (fine_take Unit0 byte f)
fine_string levels stack purpose text (Unit1 a) byte f = fine_took levels stack purpose text (take_byte (Unit1 a) byte) (fine_take (Unit1 a) byte f)
fine_string levels stack purpose text (Unit2 a b) byte f = fine_took levels stack purpose text (take_byte (Unit2 a b) byte) (fine_take (Unit2 a b) byte f)
fine_string levels stack purpose text (Unit3 a b c) byte f = fine_took levels stack purpose text (take_byte (Unit3 a b c) byte) (fine_take (Unit3 a b c) byte f)
fine_string levels stack purpose text (High q) byte f = fine_took levels stack purpose text (take_byte (High q) byte) (fine_take (High q) byte f)
fine_string levels stack purpose text (High_slash q) byte f = fine_took levels stack purpose text (take_byte (High_slash q) byte) (fine_take (High_slash q) byte f)
fine_string levels stack purpose text (Low0 q) byte f = fine_took levels stack purpose text (take_byte (Low0 q) byte) (fine_take (Low0 q) byte f)
fine_string levels stack purpose text (Low1 q a) byte f = fine_took levels stack purpose text (take_byte (Low1 q a) byte) (fine_take (Low1 q a) byte f)
fine_string levels stack purpose text (Low2 q a b) byte f = fine_took levels stack purpose text (take_byte (Low2 q a b) byte) (fine_take (Low2 q a b) byte f)
fine_string levels stack purpose text (Low3 q a b c) byte f = fine_took levels stack purpose text (take_byte (Low3 q a b c) byte) (fine_take (Low3 q a b c) byte f)

fine_open : (levels : ℕ) (stack : List Frame) (place : Place) → FinePlace place → FineNext (open_level levels stack place)
fine_open zero stack place f = tt
fine_open (suc levels) stack place f = f

fine_begin : (levels : ℕ) (stack : List Frame) (byte : ℕ) → FineNext (begin_value levels stack byte)
fine_begin levels stack byte =
    fine_pick (eqb byte 91) _ _ (λ _. fine_open levels stack After_open_array tt) (λ _.
    fine_pick (eqb byte 123) _ _ (λ _. fine_open levels stack After_open_object tt) (λ _.
    fine_pick (eqb byte 34) _ _ (λ _. tt) (λ _.
    fine_pick (eqb byte 110) _ _ (λ _. refl) (λ _.
    fine_pick (eqb byte 116) _ _ (λ _. refl) (λ _.
    fine_pick (eqb byte 102) _ _ (λ _. refl) (λ _.
    fine_pick (eqb byte 45) _ _ (λ k. begins_minus byte k) (λ _.
    fine_pick (eqb byte 48) _ _ (λ k. begins_zero byte k) (λ other.
    fine_pick (is_digit byte) _ _ (λ k. begins_int byte other k) (λ _. tt)))))))))

pub fine_step_at : (levels : ℕ) (stack : List Frame) (place : Place) (byte : ℕ) → FinePlace place → FineNext (step_at levels stack place byte)
fine_step_at levels stack Before_value byte f = fine_pick (is_blank byte) _ _ (λ _. tt) (λ _. fine_begin levels stack byte)
fine_step_at levels stack After_open_array byte f = fine_pick (is_blank byte) _ _ (λ _. tt) (λ _. fine_pick (eqb byte 93) _ _ (λ _. tt) (λ _. fine_begin levels (In_array [] ∷ stack) byte))
fine_step_at levels stack After_open_object byte f = fine_pick (is_blank byte) _ _ (λ _. tt) (λ _. fine_pick (eqb byte 125) _ _ (λ _. tt) (λ _. fine_pick (eqb byte 34) _ _ (λ _. tt) (λ _. tt)))
fine_step_at levels stack (Before_name done) byte f = fine_pick (is_blank byte) _ _ (λ _. tt) (λ _. fine_pick (eqb byte 34) _ _ (λ _. tt) (λ _. tt))
fine_step_at levels stack (After_name done name) byte f = fine_pick (is_blank byte) _ _ (λ _. tt) (λ _. fine_pick (eqb byte 58) _ _ (λ _. tt) (λ _. tt))
fine_step_at levels stack (After_value v) byte f = fine_after levels stack v byte
fine_step_at levels stack (In_word left v) byte f = fine_word levels stack left v byte f
fine_step_at levels stack (In_number part text) byte f = fine_number levels stack (may_end part) text byte (part_after part byte) (number_goes_on part text byte f)
fine_step_at levels stack (In_string purpose text piece) byte f = fine_string levels stack purpose text piece byte f

-- ---- a whole text

module _ (tree : JsonTree) where
  value_is : (v : JsonTree) → ended (Some v) ≡ Ok tree → v ≡ tree
  value_is v e = cc

  number_back : (b : Bool) (text : List ℕ) → ended (cond b (Some (Number text)) None) ≡ Ok tree → (b ≡ true) × (Number text ≡ tree)
  number_back true text e = (refl, cc)
  number_back false text e = absurd cc

  end_back : (levels : ℕ) (stack : List Frame) (place : Place) → FinePlace place → ended (whole_value stack place) ≡ Ok tree → Rest_at tree levels stack place []
  end_back levels [] Before_value f e = absurd cc
  end_back levels [] After_open_array f e = absurd cc
  end_back levels [] After_open_object f e = absurd cc
  end_back levels [] (Before_name done) f e = absurd cc
  end_back levels [] (After_name done name) f e = absurd cc
  end_back levels [] (After_value v) f e = (refl, value_is v e)
  end_back levels [] (In_word [] v) f e = ([], (refl, value_is v e), refl)
  end_back levels [] (In_word (next ∷ left) v) f e = absurd cc
  end_back levels [] (In_number part text) f e =
      let h = number_back (may_end part) text e in
      let same = sym (append-nil text) in
      ([], [], subst IsNumber same (number_ends part text h.0 f), (refl, subst (λ (t : List ℕ). Number t ≡ tree) same h.1), refl)
  end_back levels [] (In_string purpose text piece) f e = absurd cc
  end_back levels (frame ∷ stack) place f e = absurd (none_is (frame ∷ stack) frame stack place refl e)
    where
      none_is : (all : List Frame) (frame : Frame) (stack : List Frame) (place : Place) → all ≡ frame ∷ stack → ended (whole_value (frame ∷ stack) place) ≡ Ok tree → ⊥
      none_is all frame stack place same h = cc

  next_back : (n : Next) (left : ℕ) (rest : List ℕ) → ((t : State) → Fine t → read_from t rest ≡ Ok tree → Rest tree t rest) → FineNext n → goes_on n left (λ t. read_from t rest) ≡ Ok tree → Ahead tree n rest
  next_back (Go t) left rest ih f e = ih t f e
  next_back Wrong left rest ih f e = absurd cc
  next_back Deep left rest ih f e = absurd cc

  pub accepted : (text : List ℕ) (s : State) → Fine s → read_from s text ≡ Ok tree → Rest tree s text
  unfolding read_from step
  accepted [] s f e = end_back s.levels s.stack s.place f e
  accepted (byte ∷ rest) s f e = step_back tree s.levels s.stack s.place byte rest f
      (next_back (step_at s.levels s.stack s.place byte) (suc (length rest)) rest (λ t g h. accepted rest t g h) (fine_step_at s.levels s.stack s.place byte f) e)

  pub is_json_of : (levels : ℕ) (text : List ℕ) → IsUtf8 text → read_from (start levels) text ≡ Ok tree → IsJsonOf levels text tree
  is_json_of levels text utf8 e =
      let (before, r, isb, (a, b, v, isv, (isa, same), e2), e1) = accepted text (start levels) tt e in
      record { before = before; value = a; after = b; utf8 = utf8; is_before = isb; is_value = subst (λ (w : JsonTree). IsValue levels a w) same isv; is_after = isa; parts = e1 ∙ ap (λ (t : List ℕ). before ++ t) e2 }
