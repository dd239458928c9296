-- What reading accepts is in the grammar, with the value that reading gives.
use Rattle.std.proofs.Common.{◌≡◌, ℕ, zero, suc, Bool, true, false, cond, eqb, ltb, ◌<◌, ◌≤◌, ◌⊎◌, inl, inr, List, [], ◌∷◌, ◌++◌, Option, Some, None, refl, sym, ap, subst, ◌∙◌, append_assoc}
use Rattle.std.specs.Char.{digit_value, encode_utf8}
use Rattle.std.specs.Char.Utf16.{is_high_surrogate, is_low_surrogate, surrogate_pair_char}
use Rattle.std.proofs.lemmas.Bool.{eqb-true, ltb-true}
use Rattle.std.proofs.lemmas.List.{append-nil}
use Rattle.path_name.specs.Bytes.{is_blank, is_digit}
use Rattle.json_ordered.specs.JsonTree.{JsonTree, Null, Boolean, Number, String, array_of, object_of, put, put_all}
use Rattle.json_ordered.specs.Json.{IsNumber, IsChars, no_chars, plain, escape, unit, pair, IsValue, null, true_word, false_word, number, string, empty_array, array, empty_object, object, IsMoreItems, last_item, next_item, named, IsMoreMembers, last_member, next_member, Quad, is_hex, is_quad, is_plain, escaped, unit_of}
use Rattle.json_ordered.specs.declared.number.Part.{Part}
use Rattle.json_ordered.specs.declared.number.Part.TheVariants.{Minus, Zero, Int}
use Rattle.json_ordered.specs.JsonReading.{Frame, In_array, In_object, Piece, Plain, Slash, Unit0, Unit1, Unit2, Unit3, High, High_slash, Low0, Low1, Low2, Low3, Purpose, As_value, As_name, Place, Before_value, After_open_array, After_open_object, Before_name, After_name, After_value, In_word, In_number, In_string, Next, part_after, may_end, Took, More, Gave, more_if, took_letter, take_byte, after_string, took, open_level, begin_value, end_value, after_value, in_word, in_number, in_string, step_at}
use Rattle.json_ordered.proofs.Units.{not_low, surely_low}
use Rattle.json_ordered.proofs.Numbers.{Reached, number_ends}
use Rattle.json_ordered.proofs.Residual.{seam, Behind, Led, Closes, Begun, Begun_member, Spelled, In_chars, pending, Rest_at, Ahead, FinePiece, FinePlace}

behind_none : (P : List ℕ → Type 0) (text : List ℕ) → P text → Behind P text
behind_none P text h = ([], text, refl, h, refl)

behind_more : (P : List ℕ → Type 0) (byte : ℕ) (text : List ℕ) → is_blank byte ≡ true → Behind P text → Behind P (byte ∷ text)
behind_more P byte text k h = (byte ∷ h.0, h.1, rw k h.2, h.3, ap (λ (t : List ℕ). byte ∷ t) h.4)

more_items_blank : (byte : ℕ) → is_blank byte ≡ true → {levels : ℕ} {a : List ℕ} {vs : List JsonTree} → IsMoreItems levels a vs → IsMoreItems levels (byte ∷ a) vs
more_items_blank byte k (last_item blanks h) = last_item (byte ∷ blanks) (rw k h)
more_items_blank byte k (next_item before after text more h i v m) = next_item (byte ∷ before) after text more (rw k h) i v m

more_members_blank : (byte : ℕ) → is_blank byte ≡ true → {levels : ℕ} {a : List ℕ} {ms : List (List ℕ × JsonTree)} → IsMoreMembers levels a ms → IsMoreMembers levels (byte ∷ a) ms
more_members_blank byte k (last_member blanks h) = last_member (byte ∷ blanks) (rw k h)
more_members_blank byte k (next_member before after text more h i v m) = next_member (byte ∷ before) after text more (rw k h) i v m

module _ (tree : JsonTree) where
  pick : (b : Bool) (x y : Next) (rest : List ℕ) (P : Type 0) → (b ≡ true → Ahead tree x rest → P) → (b ≡ false → Ahead tree y rest → P) → Ahead tree (cond b x y) rest → P
  pick true x y rest P f g h = f refl h
  pick false x y rest P f g h = g refl h

  -- ---- after a value

  closes_blank : (levels : ℕ) (stack : List Frame) (v : JsonTree) (byte : ℕ) (rest : List ℕ) → is_blank byte ≡ true → Closes tree levels stack v rest → Closes tree levels stack v (byte ∷ rest)
  closes_blank levels [] v byte rest k h = (rw k h.0, h.1)
  closes_blank levels (In_array done ∷ stack) v byte rest k h = (byte ∷ h.0, h.1, h.2, more_items_blank byte k h.3, h.4, ap (λ (t : List ℕ). byte ∷ t) h.5)
  closes_blank levels (In_object done name ∷ stack) v byte rest k h = (byte ∷ h.0, h.1, h.2, more_members_blank byte k h.3, h.4, ap (λ (t : List ℕ). byte ∷ t) h.5)

  item_goes_on : (levels : ℕ) (stack : List Frame) (done : List JsonTree) (v : JsonTree) (rest : List ℕ) → Behind (Begun tree levels (In_array (done ++ v ∷ []) ∷ stack)) rest → Closes tree levels (In_array done ∷ stack) v (44 ∷ rest)
  item_goes_on levels stack done v rest (after, r, isb, (a, b, w, isv, (a2, b2, ws, more, closes, e3), e2), e1) = (
    44 ∷ (after ++ (a ++ a2)),
    b2,
    w ∷ ws,
    next_item [] after a a2 refl isb isv more,
    subst (λ (vs : List JsonTree). Closes tree (suc levels) stack (array_of vs) b2) (append_assoc done (v ∷ []) (w ∷ ws)) closes,
    ap (λ (t : List ℕ). 44 ∷ t) (seam rest after r (a ++ a2) b2 e1 (seam r a b a2 b2 e2 e3)),
  )

  member_goes_on : (levels : ℕ) (stack : List Frame) (done : List (List ℕ × JsonTree)) (name : List ℕ) (v : JsonTree) (rest : List ℕ) → Behind (Begun_member tree levels stack (put done name v)) rest → Closes tree levels (In_object done name ∷ stack) v (44 ∷ rest)
  member_goes_on levels stack done name v rest (after, r, isb, (a, b, m, ism, (a2, b2, ms, more, closes, e3), e2), e1) = (
    44 ∷ (after ++ (a ++ a2)),
    b2,
    m ∷ ms,
    next_member [] after a a2 refl isb ism more,
    closes,
    ap (λ (t : List ℕ). 44 ∷ t) (seam rest after r (a ++ a2) b2 e1 (seam r a b a2 b2 e2 e3)),
  )

  from_byte : (P : List ℕ → Type 0) (byte n : ℕ) (rest : List ℕ) → eqb byte n ≡ true → P (n ∷ rest) → P (byte ∷ rest)
  from_byte P byte n rest k h = subst (λ (b : ℕ). P (b ∷ rest)) (sym (eqb-true byte n k)) h

  end_value_back : (levels : ℕ) (stack : List Frame) (v : JsonTree) (byte : ℕ) (rest : List ℕ) → Ahead tree (end_value levels stack v byte) rest → Closes tree levels stack v (byte ∷ rest)
  end_value_back levels [] v byte rest h = absurd h
  end_value_back levels (In_array done ∷ stack) v byte rest h =
      let P : List ℕ → Type 0 = Closes tree levels (In_array done ∷ stack) v in
      pick (eqb byte 44) _ _ rest (P (byte ∷ rest))
      (λ k i. from_byte P byte 44 rest k (item_goes_on levels stack done v rest i))
      (λ _. pick (eqb byte 93) _ _ rest (P (byte ∷ rest)) (λ k i. from_byte P byte 93 rest k (93 ∷ [], rest, [], last_item [] refl, i, refl)) (λ _ i. absurd i))
      h
  end_value_back levels (In_object done name ∷ stack) v byte rest h =
      let P : List ℕ → Type 0 = Closes tree levels (In_object done name ∷ stack) v in
      pick (eqb byte 44) _ _ rest (P (byte ∷ rest))
      (λ k i. from_byte P byte 44 rest k (member_goes_on levels stack done name v rest i))
      (λ _. pick (eqb byte 125) _ _ rest (P (byte ∷ rest)) (λ k i. from_byte P byte 125 rest k (125 ∷ [], rest, [], last_member [] refl, i, refl)) (λ _ i. absurd i))
      h

  after_value_back : (levels : ℕ) (stack : List Frame) (v : JsonTree) (byte : ℕ) (rest : List ℕ) → Ahead tree (after_value levels stack v byte) rest → Closes tree levels stack v (byte ∷ rest)
  after_value_back levels stack v byte rest h = pick (is_blank byte) _ _ rest (Closes tree levels stack v (byte ∷ rest)) (λ k i. closes_blank levels stack v byte rest k i) (λ _ i. end_value_back levels stack v byte rest i) h

  -- ---- words and numbers

  in_word_back : (levels : ℕ) (stack : List Frame) (left : List ℕ) (v : JsonTree) (byte : ℕ) (rest : List ℕ) → Ahead tree (in_word levels stack left v byte) rest → Rest_at tree levels stack (In_word left v) (byte ∷ rest)
  in_word_back levels stack [] v byte rest h = (byte ∷ rest, after_value_back levels stack v byte rest h, refl)
  in_word_back levels stack (next ∷ left) v byte rest h = pick (eqb byte next) _ _ rest (Rest_at tree levels stack (In_word (next ∷ left) v) (byte ∷ rest))
      (λ k i. (i.0, i.1, ap (λ (t : List ℕ). byte ∷ t) i.2 ∙ ap (λ (b : ℕ). b ∷ (left ++ i.0)) (eqb-true byte next k))) (λ _ i. absurd i) h

  in_number_back : (levels : ℕ) (stack : List Frame) (ends : Bool) (part : Part) (text : List ℕ) (byte : ℕ) (next : Option Part) (rest : List ℕ) → ends ≡ may_end part → Reached part text
      → Ahead tree (in_number levels stack ends text byte next) rest → Rest_at tree levels stack (In_number part text) (byte ∷ rest)
  in_number_back levels stack true part text byte (Some p) rest e r h =
      let same = append_assoc text (byte ∷ []) h.0 in
      (byte ∷ h.0, h.1, subst IsNumber same h.2, subst (λ (t : List ℕ). Closes tree levels stack (Number t) h.1) same h.3, ap (λ (t : List ℕ). byte ∷ t) h.4)
  in_number_back levels stack false part text byte (Some p) rest e r h =
      let same = append_assoc text (byte ∷ []) h.0 in
      (byte ∷ h.0, h.1, subst IsNumber same h.2, subst (λ (t : List ℕ). Closes tree levels stack (Number t) h.1) same h.3, ap (λ (t : List ℕ). byte ∷ t) h.4)
  in_number_back levels stack true part text byte None rest e r h =
      let same = sym (append-nil text) in
      ([], byte ∷ rest, subst IsNumber same (number_ends part text (sym e) r), subst (λ (t : List ℕ). Closes tree levels stack (Number t) (byte ∷ rest)) same (after_value_back levels stack (Number text) byte rest h), refl)
  in_number_back levels stack false part text byte None rest e r h = absurd h

  -- ---- strings

  gave_back : (levels : ℕ) (stack : List Frame) (purpose : Purpose) (so_far before bytes rest : List ℕ) → ((spelled value : List ℕ) → IsChars spelled value → IsChars (before ++ spelled) (bytes ++ value))
      → In_chars tree levels stack purpose (so_far ++ bytes) rest → In_chars tree levels stack purpose so_far (before ++ rest)
  gave_back levels stack purpose so_far before bytes rest f h = (
    before ++ h.0,
    h.1,
    bytes ++ h.2,
    f h.0 h.2 h.3,
    subst (λ (t : List ℕ). Spelled tree levels stack purpose t h.1) (append_assoc so_far bytes h.2) h.4,
    seam (before ++ rest) before rest h.0 (34 ∷ h.1) refl h.5,
  )

  more_back : (b : Bool) (levels : ℕ) (stack : List Frame) (purpose : Purpose) (so_far : List ℕ) (piece : Piece) (rest : List ℕ) (P : Type 0) → (b ≡ true → In_chars tree levels stack purpose so_far (pending tree piece rest) → P)
      → Ahead tree (took levels stack purpose so_far (more_if b piece)) rest → P
  more_back true levels stack purpose so_far piece rest P f h = f refl h
  more_back false levels stack purpose so_far piece rest P f h = absurd h

  pick_took : (b : Bool) (x y : Took) (levels : ℕ) (stack : List Frame) (purpose : Purpose) (so_far rest : List ℕ) (P : Type 0)
      → (b ≡ true → Ahead tree (took levels stack purpose so_far x) rest → P) → (b ≡ false → Ahead tree (took levels stack purpose so_far y) rest → P) → Ahead tree (took levels stack purpose so_far (cond b x y)) rest → P
  pick_took true x y levels stack purpose so_far rest P f g h = f refl h
  pick_took false x y levels stack purpose so_far rest P f g h = g refl h

  letter_back : (o : Option ℕ) (letter : ℕ) (levels : ℕ) (stack : List Frame) (purpose : Purpose) (so_far rest : List ℕ) → escaped letter ≡ o → Ahead tree (took levels stack purpose so_far (took_letter o)) rest
      → In_chars tree levels stack purpose so_far (92 ∷ letter ∷ rest)
  letter_back (Some meant) letter levels stack purpose so_far rest e h = gave_back levels stack purpose so_far (92 ∷ letter ∷ []) (meant ∷ []) rest (λ s v i. escape e i) h
  letter_back None letter levels stack purpose so_far rest e h = absurd h

  quad_is : (a b c d : ℕ) → is_hex a ≡ true → is_hex b ≡ true → is_hex c ≡ true → is_hex d ≡ true → is_quad (record { a = a; b = b; c = c; d = d }) ≡ true
  quad_is a b c d ha hb hc hd = rw (ha, hb, hc, hd) refl

  -- a unit that is no high surrogate is no low one either, by its second digit
  no_low : (a b c d : ℕ) → is_hex a ≡ true → is_hex b ≡ true → is_hex c ≡ true → is_hex d ≡ true → ((digit_value a ≡ 13) → digit_value b < 12) → is_low_surrogate (unit_of (record { a = a; b = b; c = c; d = d })) ≡ false
  no_low a b c d ha hb hc hd second = not_low (digit_value a) (digit_value b) (digit_value c) (digit_value d) (ltb-true _ 16 ha) (ltb-true _ 16 hb) (ltb-true _ 16 hc) (ltb-true _ 16 hd) second

  is_low : (a b c d : ℕ) → digit_value a ≡ 13 → is_hex b ≡ true → 12 ≤ digit_value b → is_hex c ≡ true → is_hex d ≡ true → is_low_surrogate (unit_of (record { a = a; b = b; c = c; d = d })) ≡ true
  is_low a b c d ha hb low hc hd = surely_low (digit_value a) (digit_value b) (digit_value c) (digit_value d) ha (ltb-true _ 16 hb) (ltb-true _ 16 hc) (ltb-true _ 16 hd) low

  unit_back : (o : Bool) (q : Quad) (levels : ℕ) (stack : List Frame) (purpose : Purpose) (so_far rest : List ℕ) → is_high_surrogate (unit_of q) ≡ o → is_quad q ≡ true → is_low_surrogate (unit_of q) ≡ false
      → Ahead tree (took levels stack purpose so_far (cond o (More (High q)) (Gave (encode_utf8 (unit_of q))))) rest → In_chars tree levels stack purpose so_far (pending tree (High q) rest)
  unit_back true q levels stack purpose so_far rest e hq low h = h
  unit_back false q levels stack purpose so_far rest e hq low h = gave_back levels stack purpose so_far (92 ∷ 117 ∷ q.a ∷ q.b ∷ q.c ∷ q.d ∷ []) (encode_utf8 (unit_of q)) rest (λ s v i. unit q hq e low i) h

  take_back : (piece : Piece) (byte : ℕ) (levels : ℕ) (stack : List Frame) (purpose : Purpose) (so_far rest : List ℕ) → FinePiece piece → Ahead tree (took levels stack purpose so_far (take_byte piece byte)) rest
      → In_chars tree levels stack purpose so_far (pending tree piece (byte ∷ rest))
  take_back Plain byte levels stack purpose so_far rest f h =
      let P : Type 0 = In_chars tree levels stack purpose so_far (byte ∷ rest) in
      pick_took (eqb byte 92) _ _ levels stack purpose so_far rest P
      (λ k i. from_byte (In_chars tree levels stack purpose so_far) byte 92 rest k i)
      (λ _. pick_took (is_plain byte) _ _ levels stack purpose so_far rest P (λ k i. gave_back levels stack purpose so_far (byte ∷ []) (byte ∷ []) rest (λ s v c. plain k c) i) (λ _ i. absurd i)) h
  take_back Slash byte levels stack purpose so_far rest f h =
      let P : List ℕ → Type 0 = λ t. In_chars tree levels stack purpose so_far (92 ∷ t) in
      pick_took (eqb byte 117) _ _ levels stack purpose so_far rest (P (byte ∷ rest)) (λ k i. from_byte P byte 117 rest k i) (λ _ i. letter_back (escaped byte) byte levels stack purpose so_far rest refl i) h
  take_back Unit0 byte levels stack purpose so_far rest f h = more_back (is_hex byte) levels stack purpose so_far (Unit1 byte) rest (In_chars tree levels stack purpose so_far (pending tree (Unit1 byte) rest)) (λ _ i. i) h
  take_back (Unit1 a) byte levels stack purpose so_far rest f h = more_back _ levels stack purpose so_far (Unit2 a byte) rest (In_chars tree levels stack purpose so_far (pending tree (Unit2 a byte) rest)) (λ _ i. i) h
  take_back (Unit2 a b) byte levels stack purpose so_far rest f h = more_back _ levels stack purpose so_far (Unit3 a b byte) rest (In_chars tree levels stack purpose so_far (pending tree (Unit3 a b byte) rest)) (λ _ i. i) h
  take_back (Unit3 a b c) byte levels stack purpose so_far rest f h =
      let q : Quad = record { a = a; b = b; c = c; d = byte } in
      pick_took (is_hex byte) _ _ levels stack purpose so_far rest (In_chars tree levels stack purpose so_far (pending tree (High q) rest))
      (λ k i. unit_back (is_high_surrogate (unit_of q)) q levels stack purpose so_far rest refl (quad_is a b c byte f.0 f.1 f.3 k) (no_low a b c byte f.0 f.1 f.3 k f.2) i) (λ _ i. absurd i) h
  take_back (High q) byte levels stack purpose so_far rest f h =
      let P : List ℕ → Type 0 = λ t. In_chars tree levels stack purpose so_far (pending tree (High q) t) in
      more_back (eqb byte 92) levels stack purpose so_far (High_slash q) rest (P (byte ∷ rest)) (λ k i. from_byte P byte 92 rest k i) h
  take_back (High_slash q) byte levels stack purpose so_far rest f h =
      let P : List ℕ → Type 0 = λ t. In_chars tree levels stack purpose so_far (pending tree (High_slash q) t) in
      more_back (eqb byte 117) levels stack purpose so_far (Low0 q) rest (P (byte ∷ rest)) (λ k i. from_byte P byte 117 rest k i) h
  take_back (Low0 q) byte levels stack purpose so_far rest f h = more_back _ levels stack purpose so_far (Low1 q byte) rest (In_chars tree levels stack purpose so_far (pending tree (Low1 q byte) rest)) (λ _ i. i) h
  take_back (Low1 q a) byte levels stack purpose so_far rest f h = more_back _ levels stack purpose so_far (Low2 q a byte) rest (In_chars tree levels stack purpose so_far (pending tree (Low2 q a byte) rest)) (λ _ i. i) h
  take_back (Low2 q a b) byte levels stack purpose so_far rest f h = more_back _ levels stack purpose so_far (Low3 q a b byte) rest (In_chars tree levels stack purpose so_far (pending tree (Low3 q a b byte) rest)) (λ _ i. i) h
  take_back (Low3 q a b c) byte levels stack purpose so_far rest f h =
      let low : Quad = record { a = a; b = b; c = c; d = byte } in
      pick_took (is_hex byte) _ _ levels stack purpose so_far rest (In_chars tree levels stack purpose so_far (pending tree (Low3 q a b c) (byte ∷ rest)))
      (λ k i. gave_back levels stack purpose so_far (92 ∷ 117 ∷ q.a ∷ q.b ∷ q.c ∷ q.d ∷ 92 ∷ 117 ∷ a ∷ b ∷ c ∷ byte ∷ []) (encode_utf8 (surrogate_pair_char (unit_of q) (unit_of low))) rest
      (λ s v chars. pair q low f.0 f.1 (quad_is a b c byte (hex_d a f.2) f.3 f.5 k) (is_low a b c byte f.2 f.3 f.4 f.5 k) chars) i) (λ _ i. absurd i) h
    where
      hex_d : (x : ℕ) → digit_value x ≡ 13 → is_hex x ≡ true
      hex_d x e = ap (λ (n : ℕ). ltb n 16) e

  spelled_back : (levels : ℕ) (stack : List Frame) (purpose : Purpose) (text rest : List ℕ) → Rest_at tree levels stack (after_string purpose text) rest → Spelled tree levels stack purpose text rest
  spelled_back levels stack As_value text rest h = h
  spelled_back levels stack (As_name done) text rest h = h

  in_string_back : (levels : ℕ) (stack : List Frame) (purpose : Purpose) (so_far : List ℕ) (piece : Piece) (byte : ℕ) (rest : List ℕ) → FinePiece piece → Ahead tree (in_string levels stack purpose so_far piece byte) rest
      → In_chars tree levels stack purpose so_far (pending tree piece (byte ∷ rest))
  in_string_back levels stack purpose so_far Plain byte rest f h =
      let P : List ℕ → Type 0 = In_chars tree levels stack purpose so_far in
      pick (eqb byte 34) _ _ rest (P (byte ∷ rest))
      (λ k i. from_byte P byte 34 rest k ([], rest, [], no_chars, spelled_back levels stack purpose (so_far ++ []) rest (subst (λ (t : List ℕ). Rest_at tree levels stack (after_string purpose t) rest) (sym (append-nil so_far)) i), refl))
      (λ _ i. take_back Plain byte levels stack purpose so_far rest tt i) h
  in_string_back levels stack purpose so_far Slash byte rest f h = take_back Slash byte levels stack purpose so_far rest f h
  in_string_back levels stack purpose so_far Unit0 byte rest f h = take_back Unit0 byte levels stack purpose so_far rest f h
  in_string_back levels stack purpose so_far (Unit1 a) byte rest f h = take_back (Unit1 a) byte levels stack purpose so_far rest f h
  in_string_back levels stack purpose so_far (Unit2 a b) byte rest f h = take_back (Unit2 a b) byte levels stack purpose so_far rest f h
  in_string_back levels stack purpose so_far (Unit3 a b c) byte rest f h = take_back (Unit3 a b c) byte levels stack purpose so_far rest f h
  in_string_back levels stack purpose so_far (High q) byte rest f h = take_back (High q) byte levels stack purpose so_far rest f h
  in_string_back levels stack purpose so_far (High_slash q) byte rest f h = take_back (High_slash q) byte levels stack purpose so_far rest f h
  in_string_back levels stack purpose so_far (Low0 q) byte rest f h = take_back (Low0 q) byte levels stack purpose so_far rest f h
  in_string_back levels stack purpose so_far (Low1 q a) byte rest f h = take_back (Low1 q a) byte levels stack purpose so_far rest f h
  in_string_back levels stack purpose so_far (Low2 q a b) byte rest f h = take_back (Low2 q a b) byte levels stack purpose so_far rest f h
  in_string_back levels stack purpose so_far (Low3 q a b c) byte rest f h = take_back (Low3 q a b c) byte levels stack purpose so_far rest f h

  -- ---- the first byte of a value

  open_array_back : (levels : ℕ) (stack : List Frame) (rest : List ℕ) → Ahead tree (open_level levels stack After_open_array) rest → Begun tree levels stack (91 ∷ rest)
  open_array_back zero stack rest h = absurd h
  open_array_back (suc levels) stack rest (blanks, r, isb, inl (b, closes, e2), e1) =
      (91 ∷ (blanks ++ 93 ∷ []), b, array_of [], empty_array blanks isb, closes, ap (λ (t : List ℕ). 91 ∷ t) (seam rest blanks r (93 ∷ []) b e1 e2))
  open_array_back (suc levels) stack rest (blanks, r, isb, inr (a, b, v, isv, (a2, b2, vs, more, closes, e3), e2), e1) =
      (91 ∷ (blanks ++ (a ++ a2)), b2, array_of (v ∷ vs), array blanks a a2 isb isv more, closes, ap (λ (t : List ℕ). 91 ∷ t) (seam rest blanks r (a ++ a2) b2 e1 (seam r a b a2 b2 e2 e3)))

  open_object_back : (levels : ℕ) (stack : List Frame) (rest : List ℕ) → Ahead tree (open_level levels stack After_open_object) rest → Begun tree levels stack (123 ∷ rest)
  open_object_back zero stack rest h = absurd h
  open_object_back (suc levels) stack rest (blanks, r, isb, inl (b, closes, e2), e1) =
      (123 ∷ (blanks ++ 125 ∷ []), b, object_of [], empty_object blanks isb, closes, ap (λ (t : List ℕ). 123 ∷ t) (seam rest blanks r (125 ∷ []) b e1 e2))
  open_object_back (suc levels) stack rest (blanks, r, isb, inr (a, b, m, ism, (a2, b2, ms, more, closes, e3), e2), e1) =
      (123 ∷ (blanks ++ (a ++ a2)), b2, object_of (put_all [] (m ∷ ms)), object blanks a a2 isb ism more, closes, ap (λ (t : List ℕ). 123 ∷ t) (seam rest blanks r (a ++ a2) b2 e1 (seam r a b a2 b2 e2 e3)))

  string_back : (levels : ℕ) (stack : List Frame) (rest : List ℕ) → In_chars tree levels stack As_value [] rest → Begun tree levels stack (34 ∷ rest)
  string_back levels stack rest (spelled, b, value, chars, closes, e) = (34 ∷ (spelled ++ 34 ∷ []), b, String value, string spelled chars, closes, ap (λ (t : List ℕ). 34 ∷ t) (seam rest spelled (34 ∷ b) (34 ∷ []) b e refl))

  name_back : (levels : ℕ) (stack : List Frame) (done : List (List ℕ × JsonTree)) (rest : List ℕ) → In_chars tree levels stack (As_name done) [] rest → Begun_member tree levels stack done (34 ∷ rest)
  name_back levels stack done rest (spelled, b, name, chars, (before, t, isb, (r, (after, t2, isa, (a, b2, v, isv, closes, e4), e3), e2), e1), e) = (
    34 ∷ (spelled ++ 34 ∷ (before ++ 58 ∷ (after ++ a))),
    b2,
    (name, v),
    named spelled before after a chars isb isa isv,
    closes,
    ap (λ (x : List ℕ). 34 ∷ x) (seam rest spelled (34 ∷ b) (34 ∷ (before ++ 58 ∷ (after ++ a))) b2 e (ap (λ (x : List ℕ). 34 ∷ x) (seam b before t (58 ∷ (after ++ a)) b2 e1 (e2 ∙ ap (λ (x : List ℕ). 58 ∷ x) (seam r after t2 a b2 e3 e4))))),
  )

  word_back : (levels : ℕ) (stack : List Frame) (first : ℕ) (left : List ℕ) (v : JsonTree) (rest : List ℕ) → IsValue levels (first ∷ left) v → Rest_at tree levels stack (In_word left v) rest → Begun tree levels stack (first ∷ rest)
  word_back levels stack first left v rest isv h = (first ∷ left, h.0, v, isv, h.1, ap (λ (t : List ℕ). first ∷ t) h.2)

  number_back : (levels : ℕ) (stack : List Frame) (part : Part) (byte : ℕ) (rest : List ℕ) → Rest_at tree levels stack (In_number part (byte ∷ [])) rest → Begun tree levels stack (byte ∷ rest)
  number_back levels stack part byte rest h = (byte ∷ h.0, h.1, Number (byte ∷ h.0), number h.2, h.3, ap (λ (t : List ℕ). byte ∷ t) h.4)

  begin_back : (levels : ℕ) (stack : List Frame) (byte : ℕ) (rest : List ℕ) → Ahead tree (begin_value levels stack byte) rest → Begun tree levels stack (byte ∷ rest)
  begin_back levels stack byte rest h =
      let B : List ℕ → Type 0 = Begun tree levels stack in
      let P : Type 0 = B (byte ∷ rest) in
      pick (eqb byte 91) _ _ rest P (λ k i. from_byte B byte 91 rest k (open_array_back levels stack rest i)) (λ _.
      pick (eqb byte 123) _ _ rest P (λ k i. from_byte B byte 123 rest k (open_object_back levels stack rest i)) (λ _.
      pick (eqb byte 34) _ _ rest P (λ k i. from_byte B byte 34 rest k (string_back levels stack rest i)) (λ _.
      pick (eqb byte 110) _ _ rest P (λ k i. from_byte B byte 110 rest k (word_back levels stack 110 (117 ∷ 108 ∷ 108 ∷ []) Null rest null i)) (λ _.
      pick (eqb byte 116) _ _ rest P (λ k i. from_byte B byte 116 rest k (word_back levels stack 116 (114 ∷ 117 ∷ 101 ∷ []) (Boolean true) rest true_word i)) (λ _.
      pick (eqb byte 102) _ _ rest P (λ k i. from_byte B byte 102 rest k (word_back levels stack 102 (97 ∷ 108 ∷ 115 ∷ 101 ∷ []) (Boolean false) rest false_word i)) (λ _.
      pick (eqb byte 45) _ _ rest P (λ k i. number_back levels stack Minus byte rest i) (λ _.
      pick (eqb byte 48) _ _ rest P (λ k i. number_back levels stack Zero byte rest i) (λ _.
      pick (is_digit byte) _ _ rest P (λ k i. number_back levels stack Int byte rest i) (λ _ i. absurd i))))))))) h

  -- ---- every place

  pub step_back : (levels : ℕ) (stack : List Frame) (place : Place) (byte : ℕ) (rest : List ℕ) → FinePlace place → Ahead tree (step_at levels stack place byte) rest → Rest_at tree levels stack place (byte ∷ rest)
  step_back levels stack Before_value byte rest f h = let P : List ℕ → Type 0 = Begun tree levels stack in
      pick (is_blank byte) _ _ rest (Behind P (byte ∷ rest)) (λ k i. behind_more P byte rest k i) (λ _ i. behind_none P (byte ∷ rest) (begin_back levels stack byte rest i)) h
  step_back levels stack After_open_array byte rest f h = let P : List ℕ → Type 0 = λ t. Led 93 (Closes tree (suc levels) stack (array_of [])) t ⊎ Begun tree levels (In_array [] ∷ stack) t in
      pick (is_blank byte) _ _ rest (Behind P (byte ∷ rest)) (λ k i. behind_more P byte rest k i)
      (λ _. pick (eqb byte 93) _ _ rest (Behind P (byte ∷ rest)) (λ k i. from_byte (Behind P) byte 93 rest k (behind_none P (93 ∷ rest) (inl (rest, i, refl)))) (λ _ i. behind_none P (byte ∷ rest) (inr (begin_back levels (In_array [] ∷ stack) byte rest i)))) h
  step_back levels stack After_open_object byte rest f h = let P : List ℕ → Type 0 = λ t. Led 125 (Closes tree (suc levels) stack (object_of [])) t ⊎ Begun_member tree levels stack [] t in
      pick (is_blank byte) _ _ rest (Behind P (byte ∷ rest)) (λ k i. behind_more P byte rest k i)
      (λ _. pick (eqb byte 125) _ _ rest (Behind P (byte ∷ rest)) (λ k i. from_byte (Behind P) byte 125 rest k (behind_none P (125 ∷ rest) (inl (rest, i, refl))))
      (λ _. pick (eqb byte 34) _ _ rest (Behind P (byte ∷ rest)) (λ k i. from_byte (Behind P) byte 34 rest k (behind_none P (34 ∷ rest) (inr (name_back levels stack [] rest i)))) (λ _ i. absurd i))) h
  step_back levels stack (Before_name done) byte rest f h = let P : List ℕ → Type 0 = Begun_member tree levels stack done in
      pick (is_blank byte) _ _ rest (Behind P (byte ∷ rest)) (λ k i. behind_more P byte rest k i)
      (λ _. pick (eqb byte 34) _ _ rest (Behind P (byte ∷ rest)) (λ k i. from_byte (Behind P) byte 34 rest k (behind_none P (34 ∷ rest) (name_back levels stack done rest i))) (λ _ i. absurd i)) h
  step_back levels stack (After_name done name) byte rest f h = let P : List ℕ → Type 0 = Led 58 (Behind (Begun tree levels (In_object done name ∷ stack))) in
      pick (is_blank byte) _ _ rest (Behind P (byte ∷ rest)) (λ k i. behind_more P byte rest k i)
      (λ _. pick (eqb byte 58) _ _ rest (Behind P (byte ∷ rest)) (λ k i. from_byte (Behind P) byte 58 rest k (behind_none P (58 ∷ rest) (rest, i, refl))) (λ _ i. absurd i)) h
  step_back levels stack (After_value v) byte rest f h = after_value_back levels stack v byte rest h
  step_back levels stack (In_word left v) byte rest f h = in_word_back levels stack left v byte rest h
  step_back levels stack (In_number part text) byte rest f h = in_number_back levels stack (may_end part) part text byte (part_after part byte) rest refl f h
  step_back levels stack (In_string purpose text piece) byte rest f h = in_string_back levels stack purpose text piece byte rest f h
