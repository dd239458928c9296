-- The pieces of each kind of element, by the byte that stands first.
use Rattle.std.proofs.Common.{◌≡◌, ◌≢◌, ℕ, suc, ◌+◌, ◌<◌, ◌≤◌, Bool, true, false, ◌&&◌, ◌||◌, ◌==◌, ◌⊎◌, List, [], ◌∷◌, length, get_or, drop, Option, Some, None, refl, sym, ap, subst, ◌∙◌, inl, inr, arith}
use Rattle.std.proofs.lemmas.Bool.{eqb-true}
use Rattle.std.proofs.lemmas.Bool.Decides.{nat_tests}
use Rattle.std.proofs.lemmas.List.{drop_more, drop_all, drop-drop}
use Rattle.std.specs.Prelude.{not}
use Rattle.path_name.specs.Bytes.{continues_identifier}
use Rattle.memchr.specs.Find.{is_byte2, is_byte3}
use Rattle.php_lex.specs.Places.{has_first, has_word_at, begins_with, after_run, is_space, is_line_end, SkipsTo}
use Rattle.php_lex.specs.Comments.{comment}
use Rattle.php_lex.specs.Quotes.{Element, Single, Double, Nowdoc, Heredoc, Nested, Opened, heredoc, quoted, closing_line, closing}
use Rattle.php_lex.specs.Marks.{can_open}
use Rattle.php_lex.specs.Elements.{Piece, Close, Plain, Child, opens_code, closed_or, heredoc_piece, comment_or, quoted_or, brace_piece, piece_in}
use Rattle.php_lex.specs.Pieces.{opens_code_at, SameEnd}
use Rattle.php_lex.proofs.Ends.{same_trans, same_plain, same_front}
use Rattle.php_lex.proofs.Firsts.{first_at, first_within}

or_left : (a b : Bool) → a || b ≡ false → a ≡ false
or_left true b h = absurd cc
or_left false b h = refl

or_right : (a b : Bool) → a || b ≡ false → b ≡ false
or_right true b h = absurd cc
or_right false b h = h

or_rest : (a b : Bool) → a || b ≡ true → a ≡ false → b ≡ true
or_rest true b h e = absurd cc
or_rest false b h e = h

and_false : (a b : Bool) → b ≡ false → a && b ≡ false
and_false true b h = h
and_false false b h = refl

cell : (text : List ℕ) (k : ℕ) → k < length text → drop k text ≡ get_or text k 0 ∷ drop (k + 1) text
cell text k lt = drop_more text k 0 lt

two_more : (text : List ℕ) (k : ℕ) → drop 1 (drop (k + 1) text) ≡ drop (k + 2) text
two_more text k = drop-drop 1 (k + 1) text ∙ ap (λ (n : ℕ). drop n text) (let e : (k + 1) + 1 ≡ k + 2 = omega arith in e)

-- what is plain up to a byte that passes
pub plain_skip : (e : Element) (p : ℕ → Bool) → ((b : ℕ) (t : List ℕ) → p b ≡ false → piece_in e (b ∷ t) ≡ Plain t) → (text : List ℕ) (k : ℕ) → SkipsTo p text 0 k → SameEnd e text (drop k text)
plain_skip e p other text k s =
    let within = s.within in
    same_front e text k (λ j lt.
    let here : j < length text = omega arith in
    ap (piece_in e) (cell text j here) ∙ other (get_or text j 0) (drop (j + 1) text) (sym (first_at p text j here) ∙ s.none j (omega arith) lt))

-- the piece at a place
pub piece_at : (e : Element) (p : ℕ → Bool) (piece : List ℕ → Piece) → ((b : ℕ) (t : List ℕ) → p b ≡ true → piece_in e (b ∷ t) ≡ piece t) → (text : List ℕ) (k : ℕ)
    → has_first p (drop k text) ≡ true → piece_in e (drop k text) ≡ piece (drop (k + 1) text)
piece_at e p piece here text k h =
    let lt = first_within p k text h in
    ap (piece_in e) (cell text k lt) ∙ here (get_or text k 0) (drop (k + 1) text) (sym (first_at p text k lt) ∙ h)

-- ---- single quotes

pub single_other : (b : ℕ) (t : List ℕ) → is_byte2 39 92 b ≡ false → piece_in Single (b ∷ t) ≡ Plain t
unfolding piece_in
single_other b t h = rw (or_left (b == 39) (b == 92) h, or_right (b == 39) (b == 92) h) refl

single_close : (b : ℕ) (t : List ℕ) → (b == 39) ≡ true → piece_in Single (b ∷ t) ≡ Close t
unfolding piece_in
single_close b t h = rw h refl

single_escape : (b : ℕ) (t : List ℕ) → (b == 39) ≡ false → (b == 92) ≡ true → piece_in Single (b ∷ t) ≡ Plain (drop 1 t)
unfolding piece_in
single_escape b t g h = rw (g, h) refl

pub single_closed : (text : List ℕ) (k : ℕ) → has_first (λ b. b == 39) (drop k text) ≡ true → piece_in Single (drop k text) ≡ Close (drop (k + 1) text)
single_closed text k h = piece_at Single (λ b. b == 39) Close single_close text k h

pub single_escaped : (text : List ℕ) (k : ℕ) → k < length text → SkipsTo (is_byte2 39 92) text 0 k → has_first (λ b. b == 39) (drop k text) ≡ false → SameEnd Single text (drop (k + 2) text)
single_escaped text k lt s other =
    let b = get_or text k 0 in
    let no_quote : (b == 39) ≡ false = sym (first_at (λ b. b == 39) text k lt) ∙ other in
    let one : is_byte2 39 92 b ≡ true = sym (first_at (is_byte2 39 92) text k lt) ∙ s.found lt in
    let is : piece_in Single (drop k text) ≡ Plain (drop (k + 2) text) =
    ap (piece_in Single) (cell text k lt) ∙ single_escape b (drop (k + 1) text) no_quote (or_rest (b == 39) (b == 92) one no_quote) ∙ ap Plain (two_more text k) in
    same_trans (plain_skip Single (is_byte2 39 92) single_other text k s) (same_plain is)

-- ---- double quotes and backticks

module _ (q : ℕ) where
  double_other : (b : ℕ) (t : List ℕ) → is_byte3 q 92 36 b ≡ false → opens_code b t ≡ false → piece_in (Double q) (b ∷ t) ≡ Plain t
  unfolding piece_in
  double_other b t h o =
      let front = or_left (b == q || b == 92) (b == 36) h in
      rw (or_left (b == q) (b == 92) front, or_right (b == q) (b == 92) front, o) refl

  double_close : (b : ℕ) (t : List ℕ) → (b == q) ≡ true → piece_in (Double q) (b ∷ t) ≡ Close t
  unfolding piece_in
  double_close b t h = rw h refl

  double_escape : (b : ℕ) (t : List ℕ) → (b == q) ≡ false → (b == 92) ≡ true → piece_in (Double q) (b ∷ t) ≡ Plain (drop 1 t)
  unfolding piece_in
  double_escape b t g h = rw (g, h) refl

  double_child : (b : ℕ) (t : List ℕ) → (b == q) ≡ false → (b == 92) ≡ false → opens_code b t ≡ true → piece_in (Double q) (b ∷ t) ≡ Child Nested (drop 1 t)
  unfolding piece_in
  double_child b t g h o = rw (g, h, o) refl

  double_plain : (b : ℕ) (t : List ℕ) → (b == q) ≡ false → (b == 92) ≡ false → opens_code b t ≡ false → piece_in (Double q) (b ∷ t) ≡ Plain t
  unfolding piece_in
  double_plain b t g h o = rw (g, h, o) refl

  no_dollar : (t : List ℕ) → has_first (is_byte3 q 92 36) t ≡ false → has_first (λ b. b == 36) t ≡ false
  no_dollar [] h = refl
  no_dollar (b ∷ t) h = or_right (b == q || b == 92) (b == 36) h

  opens_none : (b : ℕ) (t : List ℕ) → (b == 123) && has_first (λ c. c == 36) t ≡ false → (b == 36) ≡ false → opens_code b t ≡ false
  opens_none b t e f = rw (e, f) refl

  -- what is plain up to a place that is no later than the byte that was found
  pub double_skip : (text : List ℕ) (k m : ℕ) → SkipsTo (is_byte3 q 92 36) text 0 k → m ≤ k
      → ((j : ℕ) → j < m → j + 1 ≡ k → has_first (λ b. b == 123) (drop j text) && has_first (λ b. b == 36) (drop k text) ≡ false) → SameEnd (Double q) text (drop m text)
  double_skip text k m s le last =
      let within = s.within in
      same_front (Double q) text m (λ j lt.
      let here : j < length text = omega arith in
      let b = get_or text j 0 in
      let t = drop (j + 1) text in
      let other : is_byte3 q 92 36 b ≡ false = sym (first_at (is_byte3 q 92 36) text j here) ∙ s.none j (omega arith) (omega arith) in
      let pair : (b == 123) && has_first (λ c. c == 36) t ≡ false = elim (le_or (j + 1) k (omega arith)) [
        | inl less ↦ and_false (b == 123) _ (no_dollar t (s.none (j + 1) (omega arith) less))
        | inr same ↦ ap (λ (x : Bool). x && has_first (λ c. c == 36) t) (sym (first_at (λ c. c == 123) text j here)) ∙ ap (λ (n : ℕ). has_first (λ c. c == 123) (drop j text) && has_first (λ c. c == 36) (drop n text)) same ∙ last j lt same
      ] in
      ap (piece_in (Double q)) (cell text j here) ∙ double_other b t other (opens_none b t pair (or_right (b == q || b == 92) (b == 36) other)))
    where
      le_or : (a b : ℕ) → a ≤ b → (a < b) ⊎ (a ≡ b)
      le_or a b le = grind arith

  pub double_closed : (text : List ℕ) (k : ℕ) → has_first (λ b. b == q) (drop k text) ≡ true → piece_in (Double q) (drop k text) ≡ Close (drop (k + 1) text)
  double_closed text k h = piece_at (Double q) (λ b. b == q) Close double_close text k h

  -- a byte that is no quote
  module _ (text : List ℕ) (k : ℕ) (lt : k < length text) (no_quote : has_first (λ b. b == q) (drop k text) ≡ false) where
    is_no_quote : (get_or text k 0 == q) ≡ false
    is_no_quote = sym (first_at (λ b. b == q) text k lt) ∙ no_quote

    pub double_escaped : has_first (λ b. b == 92) (drop k text) ≡ true → piece_in (Double q) (drop k text) ≡ Plain (drop (k + 2) text)
    double_escaped h =
        ap (piece_in (Double q)) (cell text k lt) ∙ double_escape (get_or text k 0) (drop (k + 1) text) is_no_quote (sym (first_at (λ b. b == 92) text k lt) ∙ h) ∙ ap Plain (two_more text k)

    module _ (no_slash : has_first (λ b. b == 92) (drop k text) ≡ false) where
      is_no_slash : (get_or text k 0 == 92) ≡ false
      is_no_slash = sym (first_at (λ b. b == 92) text k lt) ∙ no_slash

      pub double_opens : opens_code (get_or text k 0) (drop (k + 1) text) ≡ true → piece_in (Double q) (drop k text) ≡ Child Nested (drop (k + 2) text)
      double_opens o = ap (piece_in (Double q)) (cell text k lt) ∙ double_child (get_or text k 0) (drop (k + 1) text) is_no_quote is_no_slash o ∙ ap (Child Nested) (two_more text k)

      pub double_passes : opens_code (get_or text k 0) (drop (k + 1) text) ≡ false → piece_in (Double q) (drop k text) ≡ Plain (drop (k + 1) text)
      double_passes o = ap (piece_in (Double q)) (cell text k lt) ∙ double_plain (get_or text k 0) (drop (k + 1) text) is_no_quote is_no_slash o

  -- what was found is a dollar, if it is neither of the other two
  pub is_dollar : (text : List ℕ) (k : ℕ) → k < length text → SkipsTo (is_byte3 q 92 36) text 0 k → has_first (λ b. b == q) (drop k text) ≡ false → has_first (λ b. b == 92) (drop k text) ≡ false
      → (get_or text k 0 == 36) ≡ true
  is_dollar text k lt s g h =
      let b = get_or text k 0 in
      let three : is_byte3 q 92 36 b ≡ true = sym (first_at (is_byte3 q 92 36) text k lt) ∙ s.found lt in
      or_rest (b == q || b == 92) (b == 36) three (both_false (b == q) (b == 92) (sym (first_at (λ b. b == q) text k lt) ∙ g) (sym (first_at (λ b. b == 92) text k lt) ∙ h))
    where
      both_false : (a b : Bool) → a ≡ false → b ≡ false → a || b ≡ false
      both_false a b e f = rw (e, f) refl

  -- a byte before k is neither
  pub no_byte_before : (text : List ℕ) (k j : ℕ) → SkipsTo (is_byte3 q 92 36) text 0 k → j < k → (has_first (λ b. b == q) (drop j text) ≡ false) × (has_first (λ b. b == 92) (drop j text) ≡ false)
  no_byte_before text k j s lt =
      let within = s.within in
      let here : j < length text = omega arith in
      let b = get_or text j 0 in
      let none : is_byte3 q 92 36 b ≡ false = sym (first_at (is_byte3 q 92 36) text j here) ∙ s.none j (omega arith) lt in
      let front = or_left (b == q || b == 92) (b == 36) none in
      (first_at (λ b. b == q) text j here ∙ or_left (b == q) (b == 92) front, first_at (λ b. b == 92) text j here ∙ or_right (b == q) (b == 92) front)

pub brace_dollar : (b : ℕ) (t : List ℕ) → (b == 123) ≡ true → has_first (λ c. c == 36) t ≡ true → opens_code b t ≡ true
brace_dollar b t e f = rw (e, f) refl

dollar_brace : (x : Bool) (b : ℕ) (t : List ℕ) → (b == 36) ≡ true → has_first (λ c. c == 123) t ≡ true → x || ((b == 36) && has_first (λ c. c == 123) t) ≡ true
dollar_brace true b t e f = refl
dollar_brace false b t e f = rw (e, f) refl

pub dollar_opens : (b : ℕ) (t : List ℕ) → (b == 36) ≡ true → has_first (λ c. c == 123) t ≡ true → opens_code b t ≡ true
dollar_opens b t e f = dollar_brace ((b == 123) && has_first (λ c. c == 36) t) b t e f

dollar_is_no_brace : (b : ℕ) → (b == 36) ≡ true → (b == 123) ≡ false
dollar_is_no_brace b e = let is : b ≡ 36 = eqb-true b 36 e in ap (λ (x : ℕ). x == 123) is

pub dollar_passes : (b : ℕ) (t : List ℕ) → (b == 36) ≡ true → has_first (λ c. c == 123) t ≡ false → opens_code b t ≡ false
dollar_passes b t e f = rw (dollar_is_no_brace b e, e, f) refl

pub other_byte : (b c : ℕ) (t : List ℕ) → b ≢ c → has_first (λ x. x == b) t ≡ true → has_first (λ x. x == c) t ≡ false
other_byte b c [] ne h = refl
other_byte b c (x ∷ t) ne h = let is : x ≡ b = eqb-true x b h in ap (λ (y : ℕ). y == c) is ∙ unequal b c ne where
  unequal : (b c : ℕ) → b ≢ c → (b == c) ≡ false
  unequal b c ne = grind (arith, nat_tests)

pub no_pair : (a b : Bool) → b ≡ false → a && b ≡ false
no_pair a b h = and_false a b h

pub no_pair_left : (a b : Bool) → a ≡ false → a && b ≡ false
no_pair_left true b h = absurd cc
no_pair_left false b h = refl

pub nothing_at_end : (p : ℕ → Bool) (text : List ℕ) (k : ℕ) → length text ≤ k → has_first p (drop k text) ≡ false
nothing_at_end p text k le = ap (has_first p) (drop_all k text le)

-- ---- nowdocs and heredocs

line_no : (label : List ℕ) (text : List ℕ) → has_first is_line_end text ≡ false → closing label text ≡ None
line_no label text h = rw h refl

pub nowdoc_other : (label : List ℕ) (b : ℕ) (t : List ℕ) → is_byte2 10 13 b ≡ false → piece_in (Nowdoc label) (b ∷ t) ≡ Plain t
unfolding piece_in
nowdoc_other label b t h = rw h refl

pub nowdoc_closed : (label text rest : List ℕ) → closing label text ≡ Some rest → piece_in (Nowdoc label) text ≡ Close rest
unfolding piece_in
nowdoc_closed label [] rest h = absurd cc
nowdoc_closed label (b ∷ t) rest h = ap (λ (o : Option (List ℕ)). closed_or o (Plain t)) h

nowdoc_open : (label : List ℕ) (b : ℕ) (t : List ℕ) → closing label (b ∷ t) ≡ None → piece_in (Nowdoc label) (b ∷ t) ≡ Plain t
unfolding piece_in
nowdoc_open label b t e = ap (λ (o : Option (List ℕ)). closed_or o (Plain t)) e

pub nowdoc_passes : (label text : List ℕ) (k : ℕ) → k < length text → closing label (drop k text) ≡ None → piece_in (Nowdoc label) (drop k text) ≡ Plain (drop (k + 1) text)
nowdoc_passes label text k lt h =
    ap (piece_in (Nowdoc label)) (cell text k lt) ∙ nowdoc_open label (get_or text k 0) (drop (k + 1) text) (ap (closing label) (sym (cell text k lt)) ∙ h)

pub heredoc_closed : (label text rest : List ℕ) → closing label text ≡ Some rest → piece_in (Heredoc label) text ≡ Close rest
unfolding piece_in
heredoc_closed label [] rest h = absurd cc
heredoc_closed label (b ∷ t) rest h = ap (λ (o : Option (List ℕ)). closed_or o (heredoc_piece b t)) h

heredoc_open : (label : List ℕ) (b : ℕ) (t : List ℕ) → closing label (b ∷ t) ≡ None → piece_in (Heredoc label) (b ∷ t) ≡ heredoc_piece b t
unfolding piece_in
heredoc_open label b t h = ap (λ (o : Option (List ℕ)). closed_or o (heredoc_piece b t)) h

-- by the first two bytes
module _ (label : List ℕ) where
  pub heredoc_line : (text : List ℕ) → 0 < length text → has_first is_line_end text ≡ true → closing label text ≡ None → piece_in (Heredoc label) text ≡ Plain (drop 1 text)
  heredoc_line [] lt e h = absurd (omega arith)
  heredoc_line (b ∷ t) lt e h = heredoc_open label b t h ∙ rw (line_is_no_slash b e, line_is_no_brace b e, line_is_no_dollar b e) refl where
    line_is_no_slash : (b : ℕ) → is_line_end b ≡ true → (b == 92) ≡ false
    line_is_no_slash b e = grind (arith, nat_tests)

    line_is_no_brace : (b : ℕ) → is_line_end b ≡ true → (b == 123) ≡ false
    line_is_no_brace b e = grind (arith, nat_tests)

    line_is_no_dollar : (b : ℕ) → is_line_end b ≡ true → (b == 36) ≡ false
    line_is_no_dollar b e = grind (arith, nat_tests)

  module _ (text : List ℕ) (other : has_first is_line_end text ≡ false) where
    pub heredoc_short : has_first (λ b. b == 92) text ≡ true → (length text ≡ 1) ⊎ (has_first is_line_end (drop 1 text) ≡ true) → piece_in (Heredoc label) text ≡ Plain (drop 1 text)
    heredoc_short = short text other where
      short : (text : List ℕ) → has_first is_line_end text ≡ false → has_first (λ b. b == 92) text ≡ true → (length text ≡ 1) ⊎ (has_first is_line_end (drop 1 text) ≡ true) → piece_in (Heredoc label) text ≡ Plain (drop 1 text)
      short [] o h e = absurd cc
      short (b ∷ []) o h e = heredoc_open label b [] (line_no label (b ∷ []) o) ∙ rw h refl
      short (b ∷ c ∷ t) o h (inl e) = absurd (omega arith)
      short (b ∷ c ∷ t) o h (inr e) = heredoc_open label b (c ∷ t) (line_no label (b ∷ c ∷ t) o) ∙ rw (h, e) refl

    pub heredoc_escape : has_first (λ b. b == 92) text ≡ true → has_first is_line_end (drop 1 text) ≡ false → piece_in (Heredoc label) text ≡ Plain (drop 2 text)
    heredoc_escape = escape text other where
      escape : (text : List ℕ) → has_first is_line_end text ≡ false → has_first (λ b. b == 92) text ≡ true → has_first is_line_end (drop 1 text) ≡ false → piece_in (Heredoc label) text ≡ Plain (drop 2 text)
      escape [] o h e = absurd cc
      escape (b ∷ t) o h e = heredoc_open label b t (line_no label (b ∷ t) o) ∙ rw (h, e) refl

    -- `{$` or `${`, or neither
    pub heredoc_opens : has_first (λ b. b == 92) text ≡ false
        → opens_code_at text ≡ true → piece_in (Heredoc label) text ≡ Child Nested (drop 2 text)
    heredoc_opens = opens text other where
      opens : (text : List ℕ) → has_first is_line_end text ≡ false → has_first (λ b. b == 92) text ≡ false
          → opens_code_at text ≡ true → piece_in (Heredoc label) text ≡ Child Nested (drop 2 text)
      opens [] o h e = absurd cc
      opens (b ∷ t) o h e = heredoc_open label b t (line_no label (b ∷ t) o) ∙ rw (h, e) refl

    pub heredoc_passes : has_first (λ b. b == 92) text ≡ false
        → opens_code_at text ≡ false → 0 < length text → piece_in (Heredoc label) text ≡ Plain (drop 1 text)
    heredoc_passes = passes text other where
      passes : (text : List ℕ) → has_first is_line_end text ≡ false → has_first (λ b. b == 92) text ≡ false
          → opens_code_at text ≡ false → 0 < length text → piece_in (Heredoc label) text ≡ Plain (drop 1 text)
      passes [] o h e lt = absurd (omega arith)
      passes (b ∷ t) o h e lt = heredoc_open label b t (line_no label (b ∷ t) o) ∙ rw (h, e) refl

-- ---- nested code

pub nested_comment : (text rest : List ℕ) → 0 < length text → comment text ≡ Some rest → piece_in Nested text ≡ Plain rest
unfolding piece_in
nested_comment [] rest lt h = absurd (omega arith)
nested_comment (b ∷ t) rest lt h = ap (λ (o : Option (List ℕ)). comment_or o (quoted_or (quoted (b ∷ t)) (brace_piece b t))) h

pub nested_quoted : (text : List ℕ) (o : Opened) → 0 < length text → comment text ≡ None → quoted text ≡ Some o → piece_in Nested text ≡ Child o.element o.inside
unfolding piece_in
nested_quoted [] o lt h q = absurd (omega arith)
nested_quoted (b ∷ t) o lt h q =
    ap (λ (c : Option (List ℕ)). comment_or c (quoted_or (quoted (b ∷ t)) (brace_piece b t))) h ∙ ap (λ (c : Option Opened). quoted_or c (brace_piece b t)) q

nested_brace : (b : ℕ) (t : List ℕ) → comment (b ∷ t) ≡ None → quoted (b ∷ t) ≡ None → piece_in Nested (b ∷ t) ≡ brace_piece b t
unfolding piece_in
nested_brace b t h q =
    ap (λ (c : Option (List ℕ)). comment_or c (quoted_or (quoted (b ∷ t)) (brace_piece b t))) h ∙ ap (λ (c : Option Opened). quoted_or c (brace_piece b t)) q

pub nested_open : (text : List ℕ) → comment text ≡ None → quoted text ≡ None → has_first (λ b. b == 123) text ≡ true → piece_in Nested text ≡ Child Nested (drop 1 text)
nested_open [] h q e = absurd cc
nested_open (b ∷ t) h q e = nested_brace b t h q ∙ rw e refl

pub nested_close : (text : List ℕ) → comment text ≡ None → quoted text ≡ None → has_first (λ b. b == 123) text ≡ false → has_first (λ b. b == 125) text ≡ true → piece_in Nested text ≡ Close (drop 1 text)
nested_close [] h q e f = absurd cc
nested_close (b ∷ t) h q e f = nested_brace b t h q ∙ rw (e, f) refl

pub nested_passes : (text : List ℕ) → 0 < length text → comment text ≡ None → quoted text ≡ None → has_first (λ b. b == 123) text ≡ false → has_first (λ b. b == 125) text ≡ false → piece_in Nested text ≡ Plain (drop 1 text)
nested_passes [] lt h q e f = absurd (omega arith)
nested_passes (b ∷ t) lt h q e f = nested_brace b t h q ∙ rw (e, f) refl

-- what no comment, quoted element or brace begins with
nothing_opens : (b : ℕ) (t : List ℕ) → can_open b ≡ false → (comment (b ∷ t) ≡ None) × (quoted (b ∷ t) ≡ None)
nothing_opens b t h =
    let n34 = or_left (b == 34) _ h in
    let m1 = or_right (b == 34) _ h in
    let n35 = or_left (b == 35) _ m1 in
    let m2 = or_right (b == 35) _ m1 in
    let n39 = or_left (b == 39) _ m2 in
    let m3 = or_right (b == 39) _ m2 in
    let n47 = or_left (b == 47) _ m3 in
    let m4 = or_right (b == 47) _ m3 in
    let n60 = or_left (b == 60) _ m4 in
    let n96 = or_right (b == 60) _ m4 in
    (rw (n47, n35) refl, rw (n39, n34, n96, n60) refl)

pub nested_other : (text : List ℕ) → 0 < length text → has_first (λ b. b == 123) text ≡ false → has_first (λ b. b == 125) text ≡ false → has_first can_open text ≡ false
    → piece_in Nested text ≡ Plain (drop 1 text)
nested_other [] lt e f h = absurd (omega arith)
nested_other (b ∷ t) lt e f h = let none = nothing_opens b t h in nested_passes (b ∷ t) lt none.0 none.1 e f

pub nested_first_open : (text : List ℕ) → has_first (λ b. b == 123) text ≡ true → piece_in Nested text ≡ Child Nested (drop 1 text)
nested_first_open [] e = absurd cc
nested_first_open (b ∷ t) e = subst (λ (x : ℕ). piece_in Nested (x ∷ t) ≡ Child Nested t) (sym (eqb-true b 123 e)) (nested_open (123 ∷ t) refl refl refl)

pub nested_first_close : (text : List ℕ) → has_first (λ b. b == 125) text ≡ true → piece_in Nested text ≡ Close (drop 1 text)
nested_first_close [] e = absurd cc
nested_first_close (b ∷ t) e = subst (λ (x : ℕ). piece_in Nested (x ∷ t) ≡ Close t) (sym (eqb-true b 125 e)) (nested_close (125 ∷ t) refl refl refl refl)

-- with `<` begins a heredoc or nothing
pub nested_less : (text : List ℕ) → has_first (λ b. b == 60) text ≡ true → heredoc text ≡ None → piece_in Nested text ≡ Plain (drop 1 text)
nested_less [] e h = absurd cc
nested_less (b ∷ t) e h =
    let is : b ≡ 60 = eqb-true b 60 e in
    subst (λ (x : ℕ). piece_in Nested (x ∷ t) ≡ Plain t) (sym is) (nested_passes (60 ∷ t) (omega arith) refl (subst (λ (x : ℕ). heredoc (x ∷ t) ≡ None) is h) refl refl)

pub nested_heredoc : (text : List ℕ) (o : Opened) → has_first (λ b. b == 60) text ≡ true → heredoc text ≡ Some o → piece_in Nested text ≡ Child o.element o.inside
nested_heredoc [] o e h = absurd cc
nested_heredoc (b ∷ t) o e h =
    let is : b ≡ 60 = eqb-true b 60 e in
    subst (λ (x : ℕ). piece_in Nested (x ∷ t) ≡ Child o.element o.inside) (sym is) (nested_quoted (60 ∷ t) o (omega arith) refl (subst (λ (x : ℕ). heredoc (x ∷ t) ≡ Some o) is h))

-- ---- closing labels

pub word_within : (word : List ℕ) (n : ℕ) (text : List ℕ) → n ≤ length text → has_word_at n word text ≡ true → n + length word ≤ length text
word_within [] n text le h = omega arith
word_within (b ∷ bs) n text le h =
    let parts = and_parts (has_first (λ c. c == b) (drop n text)) (has_word_at (suc n) bs text) h in
    let lt = first_within (λ c. c == b) n text parts.0 in
    let more : suc n + length bs ≤ length text = word_within bs (suc n) text (omega arith) parts.1 in
    omega arith
  where
    and_parts : (a b : Bool) → a && b ≡ true → (a ≡ true) × (b ≡ true)
    and_parts true b h = (refl, h)
    and_parts false b h = absurd cc

pub closing_is : (label text : List ℕ) → has_first is_line_end text ≡ true → closing label text ≡ closing_line label (after_run is_space (drop 1 text))
closing_is label text h = rw h refl

pub closing_line_yes : (label line : List ℕ) → begins_with label line && not (has_first continues_identifier (drop (length label) line)) ≡ true → closing_line label line ≡ Some (drop (length label) line)
closing_line_yes label line h = rw h refl

pub and_first : (a b : Bool) → a && b ≡ true → a ≡ true
and_first true b h = refl
and_first false b h = absurd cc

pub heredoc_long : (text : List ℕ) → opens_code_at text ≡ true → 2 ≤ length text
heredoc_long [] h = absurd cc
heredoc_long (b ∷ []) h = absurd (neither (b == 123) (b == 36) h) where
  neither : (x y : Bool) → (x && false) || (y && false) ≡ true → ⊥
  neither true true h = cc
  neither true false h = cc
  neither false true h = cc
  neither false false h = cc
heredoc_long (b ∷ c ∷ t) h = omega arith
