-- The tokens of a text, piece by piece.
use Rattle.std.proofs.Common.{◌≡◌, ℕ, zero, suc, ◌+◌, ◌<◌, ◌≤◌, Bool, true, false, cond, eqb, List, [], ◌∷◌, length, Option, Some, None, refl, sym, ap, ◌∙◌, arith}
use Rattle.std.specs.Prelude.{◌&&◌}
use Rattle.path_name.specs.Bytes.{is_blank, is_digit}
use Rattle.table_scan.specs.declared.mark.Mark.{Mark}
use Rattle.table_scan.specs.declared.mark.Mark.TheVariants as marks
use Rattle.table_scan.specs.TableTokens.{Token, spelling, marks_anywhere, behind, Piece, End, Gap, Lexeme, ends_line, line_end, behind_block, block_piece, slash_piece, is_special, in_front, unquoted, quoted_piece, front_digits, most_digits, number_piece, or_else, mark_piece, lexeme_at, piece_at, and_then, tokens_within, tokens, left_of}
use Rattle.table_scan.specs.TableSteps.{IsNoGap}
use Rattle.std.proofs.lemmas.Bool.{ne_eqb}
use Rattle.table_scan.proofs.Cases.{by_test}

-- ---- a piece takes a byte at least

abbrev IsShorter : Piece → ℕ → Type 0
IsShorter End n = Unit {0}
IsShorter (Gap rest) n = length rest < n
IsShorter (Lexeme token rest) n = length rest < n

abbrev EndsWithin : Option (List ℕ) → ℕ → Type 0
EndsWithin None n = Unit {0}
EndsWithin (Some rest) n = length rest ≤ n

abbrev ReadsWithin : Option (List ℕ × List ℕ) → ℕ → Type 0
ReadsWithin None n = Unit {0}
ReadsWithin (Some read) n = length read.1 ≤ n

one_of : (n : ℕ) (b : Bool) (x y : Piece) → (b ≡ true → IsShorter x n) → (b ≡ false → IsShorter y n) → IsShorter (cond b x y) n
one_of n true x y f g = f refl
one_of n false x y f g = g refl

line_within : (text : List ℕ) → length (line_end text) ≤ length text
line_within [] = omega arith
line_within (byte ∷ rest) = by_test (ends_line byte) (λ e. rw e (omega arith)) (λ e. rw e (omega (arith, line_within rest)))

ends_more : (o : Option (List ℕ)) (n m : ℕ) → n ≤ m → EndsWithin o n → EndsWithin o m
ends_more None n m l h = tt
ends_more (Some rest) n m l h = omega (arith, l, h)

block_within : (text : List ℕ) → EndsWithin (behind_block text) (length text)
block_within [] = tt
block_within (byte ∷ []) = tt
block_within (byte ∷ next ∷ rest) = by_test (eqb byte 42 && eqb next 47)
    (λ e. rw e (let l : length rest ≤ suc (suc (length rest)) = omega arith in l))
    (λ e. rw e (ends_more (behind_block (next ∷ rest)) (suc (length rest)) (suc (suc (length rest))) (omega arith) (block_within (next ∷ rest))))

block_shorter : (inside : List ℕ) (o : Option (List ℕ)) (n : ℕ) → length inside < n → EndsWithin o (length inside) → IsShorter (block_piece inside o) n
block_shorter inside None n l h = l
block_shorter inside (Some rest) n l h = omega (arith, l, h)

slash_shorter : (text : List ℕ) (n : ℕ) → length text < n → IsShorter (slash_piece text) n
slash_shorter [] n l = l
slash_shorter (byte ∷ rest) n l = one_of n (eqb byte 47) _ _ (λ _. let k : length (line_end rest) < n = omega (arith, line_within rest) in k)
    (λ _. one_of n (eqb byte 42) _ _ (λ _. block_shorter rest (behind_block rest) n (omega arith) (block_within rest)) (λ _. l))

front_within : (bytes : List ℕ) (o : Option (List ℕ × List ℕ)) (n m : ℕ) → n ≤ m → ReadsWithin o n → ReadsWithin (in_front bytes o) m
front_within bytes None n m l h = tt
front_within bytes (Some read) n m l h = omega (arith, l, h)

quoted_within : (text : List ℕ) → ReadsWithin (unquoted text) (length text)
quoted_within [] = tt
quoted_within (byte ∷ []) = by (eqb byte 39) refl
  where
    by : (b : Bool) → eqb byte 39 ≡ b → ReadsWithin (unquoted (byte ∷ [])) 1
    by true e = rw e (let l : 0 ≤ 1 = omega arith in l)
    by false e = rw e tt
quoted_within (byte ∷ next ∷ rest) = by_test (eqb byte 39)
    (λ e. rw e (let l : suc (length rest) ≤ suc (suc (length rest)) = omega arith in l))
    (λ e. by_test (eqb byte 92 && is_special next)
    (λ f. rw (e, f) (front_within (next ∷ []) (unquoted rest) (length rest) (suc (suc (length rest))) (omega arith) (quoted_within rest)))
    (λ f. rw (e, f) (front_within (byte ∷ []) (unquoted (next ∷ rest)) (suc (length rest)) (suc (suc (length rest))) (omega arith) (quoted_within (next ∷ rest)))))

quoted_shorter : (inside : List ℕ) (o : Option (List ℕ × List ℕ)) (n : ℕ) → length inside < n → ReadsWithin o (length inside) → IsShorter (quoted_piece inside o) n
quoted_shorter inside None n l h = l
quoted_shorter inside (Some read) n l h = omega (arith, l, h)

digits_within : (n : ℕ) (text : List ℕ) → length (front_digits n text).1 ≤ length text
unfolding front_digits
digits_within zero text = omega arith
digits_within (suc n) [] = omega arith
digits_within (suc n) (byte ∷ rest) = by_test (is_digit byte) (λ e. rw e (omega (arith, digits_within n rest))) (λ e. rw e (omega arith))

pub digit_first : (n byte : ℕ) (rest : List ℕ) → is_digit byte ≡ true → front_digits (suc n) (byte ∷ rest) ≡ (byte ∷ (front_digits n rest).0, (front_digits n rest).1)
unfolding front_digits
digit_first n byte rest e = rw e refl

number_shorter : (byte : ℕ) (rest : List ℕ) (n : ℕ) → length rest < n → is_digit byte ≡ true → IsShorter (number_piece (front_digits most_digits (byte ∷ rest))) n
number_shorter byte rest n l e = rw (digit_first 19 byte rest e) (let k : length (front_digits 19 rest).1 < n = omega (arith, l, digits_within 19 rest) in k)

pub behind_length : (front text rest : List ℕ) → behind front text ≡ Some rest → length front + length rest ≡ length text
behind_length [] text rest e = let k : text ≡ rest = cc in omega (arith, ap length k)
behind_length (byte ∷ front) [] rest e = absurd cc
behind_length (byte ∷ front) (first ∷ text) rest e = by_test (eqb first byte)
    (λ k. let h : behind front text ≡ Some rest = rw k at e in omega (arith, behind_length front text rest h))
    (λ k. let no : ◌≡◌ {A = Option (List ℕ)} None (Some rest) = rw k at e in absurd cc)

pub mark_is_some : (mark : Mark) → 0 < length (spelling mark)
unfolding spelling
mark_is_some marks.Tag = omega arith
mark_is_some marks.VendorDir = omega arith
mark_is_some marks.BaseDir = omega arith
mark_is_some marks.Dirname = omega arith
mark_is_some marks.ThisDir = omega arith
mark_is_some marks.ThisFile = omega arith
mark_is_some marks.Return = omega arith
mark_is_some marks.Array = omega arith
mark_is_some marks.Arrow = omega arith
mark_is_some marks.Assign = omega arith
mark_is_some marks.Open = omega arith
mark_is_some marks.Close = omega arith
mark_is_some marks.Comma = omega arith
mark_is_some marks.Dot = omega arith
mark_is_some marks.Semicolon = omega arith

mark_shorter : (some : List Mark) (byte : ℕ) (rest : List ℕ) → IsShorter (mark_piece some (byte ∷ rest)) (suc (length rest))
mark_shorter [] byte rest = let l : length rest < suc (length rest) = omega arith in l
mark_shorter (mark ∷ others) byte rest = by (behind (spelling mark) (byte ∷ rest)) refl (mark_shorter others byte rest)
  where
    by : (o : Option (List ℕ)) → behind (spelling mark) (byte ∷ rest) ≡ o → IsShorter (mark_piece others (byte ∷ rest)) (suc (length rest)) → IsShorter (or_else mark o (mark_piece others (byte ∷ rest))) (suc (length rest))
    by None e k = k
    by (Some after) e k = omega (arith, behind_length (spelling mark) (byte ∷ rest) after e, mark_is_some mark)

lexeme_shorter : (byte : ℕ) (rest : List ℕ) → IsShorter (lexeme_at (byte ∷ rest)) (suc (length rest))
unfolding lexeme_at
lexeme_shorter byte rest =
    let l : length rest < suc (length rest) = omega arith in
    one_of (suc (length rest)) (eqb byte 39) _ _ (λ _. quoted_shorter rest (unquoted rest) (suc (length rest)) l (quoted_within rest))
    (λ _. one_of (suc (length rest)) (is_digit byte) _ _ (λ e. number_shorter byte rest (suc (length rest)) l e) (λ _. mark_shorter marks_anywhere byte rest))

shorter : (text : List ℕ) → IsShorter (piece_at text) (length text)
unfolding piece_at
shorter [] = tt
shorter (byte ∷ rest) =
    let l : length rest < suc (length rest) = omega arith in
    let n = suc (length rest) in
    one_of n (is_blank byte) _ _ (λ _. l)
    (λ _. one_of n (eqb byte 35) _ _ (λ _. let k : length (line_end rest) < n = omega (arith, line_within rest) in k)
    (λ _. one_of n (eqb byte 47) _ _ (λ _. slash_shorter rest n l) (λ _. lexeme_shorter byte rest)))

-- ---- the tokens of a text don't depend on how many pieces are allowed, where these are enough

enough : (n m : ℕ) (text : List ℕ) → length text ≤ n → length text ≤ m → tokens_within n text ≡ tokens_within m text
unfolding tokens_within piece_at
enough zero zero text l k = refl
enough zero (suc m) [] l k = refl
enough zero (suc m) (byte ∷ rest) l k = absurd (omega arith)
enough (suc n) zero [] l k = refl
enough (suc n) zero (byte ∷ rest) l k = absurd (omega arith)
enough (suc n) (suc m) text l k = by (piece_at text) (shorter text) (λ rest below. enough n m rest (omega arith) (omega arith))
  where
    by : (p : Piece) → IsShorter p (length text) → ((rest : List ℕ) → length rest < length text → tokens_within n rest ≡ tokens_within m rest)
        → and_then (length text) p (λ rest. tokens_within n rest) ≡ and_then (length text) p (λ rest. tokens_within m rest)
    by End s on = refl
    by (Gap rest) s on = on rest s
    by (Lexeme token rest) s on = ap (λ ts. record { left = length text; token = token } ∷ ts) (on rest s)

-- the tokens by the piece at the front
pub tokens_by_piece : (text : List ℕ) → tokens text ≡ and_then (length text) (piece_at text) (λ rest. tokens rest)
unfolding tokens tokens_within piece_at
tokens_by_piece [] = refl
tokens_by_piece (byte ∷ rest) = by (piece_at (byte ∷ rest)) (shorter (byte ∷ rest))
  where
    by : (p : Piece) → IsShorter p (suc (length rest)) → and_then (suc (length rest)) p (λ r. tokens_within (length rest) r) ≡ and_then (suc (length rest)) p (λ r. tokens_within (length r) r)
    by End s = refl
    by (Gap r) s = enough (length rest) (length r) r (omega arith) (omega arith)
    by (Lexeme token r) s = ap (λ ts. record { left = suc (length rest); token = token } ∷ ts) (enough (length rest) (length r) r (omega arith) (omega arith))

pub tokens-gap : (text rest : List ℕ) → piece_at text ≡ Gap rest → tokens text ≡ tokens rest
tokens-gap text rest e = tokens_by_piece text ∙ ap (λ p. and_then (length text) p (λ r. tokens r)) e

pub tokens-lexeme : (text rest : List ℕ) (token : Token) → piece_at text ≡ Lexeme token rest → tokens text ≡ record { left = length text; token = token } ∷ tokens rest
tokens-lexeme text rest token e = tokens_by_piece text ∙ ap (λ p. and_then (length text) p (λ r. tokens r)) e

-- ---- what kind of piece stands there

abbrev IsLexeme : Piece → Type 0
IsLexeme End = ⊥
IsLexeme (Gap rest) = ⊥
IsLexeme (Lexeme token rest) = Unit {0}

abbrev IsThere : Piece → Type 0
IsThere End = ⊥
IsThere (Gap rest) = Unit {0}
IsThere (Lexeme token rest) = Unit {0}

lexeme_of : (b : Bool) (x y : Piece) → IsLexeme x → IsLexeme y → IsLexeme (cond b x y)
lexeme_of true x y f g = f
lexeme_of false x y f g = g

there_of : (b : Bool) (x y : Piece) → IsThere x → IsThere y → IsThere (cond b x y)
there_of true x y f g = f
there_of false x y f g = g

lexeme_is_there : (p : Piece) → IsLexeme p → IsThere p
lexeme_is_there End h = h
lexeme_is_there (Gap rest) h = tt
lexeme_is_there (Lexeme token rest) h = tt

lexeme_is_no_gap : (p : Piece) → IsLexeme p → IsNoGap p
lexeme_is_no_gap End h = tt
lexeme_is_no_gap (Gap rest) h = h
lexeme_is_no_gap (Lexeme token rest) h = tt

mark_is_lexeme : (some : List Mark) (text : List ℕ) → IsLexeme (mark_piece some text)
mark_is_lexeme [] text = tt
mark_is_lexeme (mark ∷ others) text = by (behind (spelling mark) text) (mark_is_lexeme others text)
  where
    by : (o : Option (List ℕ)) → IsLexeme (mark_piece others text) → IsLexeme (or_else mark o (mark_piece others text))
    by None h = h
    by (Some rest) h = tt

quoted_is_lexeme : (inside : List ℕ) (o : Option (List ℕ × List ℕ)) → IsLexeme (quoted_piece inside o)
quoted_is_lexeme inside None = tt
quoted_is_lexeme inside (Some read) = tt

lexeme_is : (byte : ℕ) (rest : List ℕ) → IsLexeme (lexeme_at (byte ∷ rest))
unfolding lexeme_at
lexeme_is byte rest = lexeme_of (eqb byte 39) _ _ (quoted_is_lexeme rest (unquoted rest)) (lexeme_of (is_digit byte) _ _ tt (mark_is_lexeme marks_anywhere (byte ∷ rest)))

pub lexeme_no_gap : (byte : ℕ) (rest : List ℕ) → IsNoGap (lexeme_at (byte ∷ rest))
lexeme_no_gap byte rest = lexeme_is_no_gap (lexeme_at (byte ∷ rest)) (lexeme_is byte rest)

block_is_there : (inside : List ℕ) (o : Option (List ℕ)) → IsThere (block_piece inside o)
block_is_there inside None = tt
block_is_there inside (Some rest) = tt

slash_is_there : (text : List ℕ) → IsThere (slash_piece text)
slash_is_there [] = tt
slash_is_there (byte ∷ rest) = there_of (eqb byte 47) _ _ tt (there_of (eqb byte 42) _ _ (block_is_there rest (behind_block rest)) tt)

piece_is_there : (byte : ℕ) (rest : List ℕ) → IsThere (piece_at (byte ∷ rest))
unfolding piece_at
piece_is_there byte rest = there_of (is_blank byte) _ _ tt (there_of (eqb byte 35) _ _ tt (there_of (eqb byte 47) _ _ (slash_is_there rest) (lexeme_is_there (lexeme_at (byte ∷ rest)) (lexeme_is byte rest))))

pub end_is_nothing : (text : List ℕ) → piece_at text ≡ End → text ≡ []
end_is_nothing [] e = refl
end_is_nothing (byte ∷ rest) e = absurd (let h : IsThere End = rw e at (piece_is_there byte rest) in h)

pub left_at_token : (text : List ℕ) → IsNoGap (piece_at text) → left_of (tokens text) ≡ length text
left_at_token text h = ap left_of (tokens_by_piece text) ∙ by (piece_at text) refl h
  where
    by : (p : Piece) → piece_at text ≡ p → IsNoGap p → left_of (and_then (length text) p (λ r. tokens r)) ≡ length text
    by End e k = ap length (sym (end_is_nothing text e))
    by (Gap rest) e k = absurd k
    by (Lexeme token rest) e k = refl

-- no token stands exactly where nothing stands
pub no_tokens : (text : List ℕ) → IsNoGap (piece_at text) → tokens text ≡ [] → text ≡ []
no_tokens text h none = by (piece_at text) refl h (sym (tokens_by_piece text) ∙ none)
  where
    by : (p : Piece) → piece_at text ≡ p → IsNoGap p → and_then (length text) p (λ r. tokens r) ≡ [] → text ≡ []
    by End e k n = end_is_nothing text e
    by (Gap rest) e k n = absurd k
    by (Lexeme token rest) e k n = absurd cc

pub tokens-nil : tokens [] ≡ []
unfolding tokens tokens_within piece_at
tokens-nil = refl

-- no blank and no comment
pub plain_no_gap : (text : List ℕ) (byte : ℕ) (rest : List ℕ) → text ≡ byte ∷ rest → is_blank byte ≡ false → (byte ≡ 35 → ⊥) → (byte ≡ 47 → ⊥) → IsNoGap (piece_at text)
unfolding piece_at
plain_no_gap text byte rest e blank hash slash = rw (e, blank, ne_eqb byte 35 hash, ne_eqb byte 47 slash) (lexeme_no_gap byte rest)

pub nothing_is_there : (text : List ℕ) → length text ≡ 0 → tokens text ≡ []
nothing_is_there [] e = tokens-nil
nothing_is_there (byte ∷ rest) e = absurd (omega arith)
