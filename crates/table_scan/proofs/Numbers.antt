-- Numbers, digit by digit.
use Rattle.std.proofs.Common.{◌≡◌, ℕ, zero, suc, ◌+◌, ◌-◌, ◌<◌, ◌≤◌, Bool, true, false, cond, eqb, List, [], ◌∷◌, ◌++◌, length, get_or, take, drop, Option, Some, None, Ok, Err, refl, sym, ap, ◌∙◌, append_assoc, arith}
use Rattle.std.proofs.lemmas.Bool.Decides.{nat_tests}
use Rattle.std.proofs.lemmas.List.{append-nil, drop_more, take_more, drop_all, length-take}
use Rattle.path_name.specs.Bytes.{is_blank, is_digit}
use Rattle.table_scan.specs.declared.mark.Mark.{Mark}
use Rattle.table_scan.specs.TableTokens.{Marked, Quoted, Number, Stray, spelling, marks_anywhere, behind, Piece, End, Gap, Lexeme, behind_block, block_piece, slash_piece, unquoted, quoted_piece, front_digits, most_digits, number_piece, or_else, mark_piece, lexeme_at, piece_at, and_then, tokens}
use Rattle.table_scan.specs.TableSteps.{IsNoGap, number_at}
use Rattle.table_scan.proofs.Cases.{by_test}
use Rattle.table_scan.proofs.Tokens.{digit_first, tokens_by_piece, tokens-lexeme, tokens-nil, end_is_nothing}

-- how many more digits are read behind len of them
abbrev pub DigitsSoFar : List ℕ → ℕ → Type 0
DigitsSoFar text len = front_digits most_digits text ≡ (take len text ++ (front_digits (20 - len) (drop len text)).0, (front_digits (20 - len) (drop len text)).1)

no_digits-zero : (text : List ℕ) → front_digits 0 text ≡ ([], text)
unfolding front_digits
no_digits-zero text = refl

no_digits-nil : (n : ℕ) → front_digits n [] ≡ ([], [])
unfolding front_digits
no_digits-nil zero = refl
no_digits-nil (suc n) = refl

no_digits-byte : (n byte : ℕ) (rest : List ℕ) → is_digit byte ≡ false → front_digits (suc n) (byte ∷ rest) ≡ ([], byte ∷ rest)
unfolding front_digits
no_digits-byte n byte rest e = rw e refl

stop_here : (text : List ℕ) (len : ℕ) → DigitsSoFar text len → front_digits (20 - len) (drop len text) ≡ ([], drop len text) → front_digits most_digits text ≡ (take len text, drop len text)
stop_here text len h e = h ∙ rw e (ap (λ f. (f, drop len text)) (append-nil (take len text)))

pub digits_start : (text : List ℕ) → DigitsSoFar text 0
digits_start text = refl

pub digits_more : (text : List ℕ) (len : ℕ) → len < length text → len < 20 → is_digit (get_or text len 0) ≡ true → DigitsSoFar text len → DigitsSoFar text (len + 1)
digits_more text len l most d h =
    let count : 20 - len ≡ suc (20 - (len + 1)) = omega arith in
    let e : front_digits (20 - len) (drop len text) ≡ (get_or text len 0 ∷ (front_digits (20 - (len + 1)) (drop (len + 1) text)).0, (front_digits (20 - (len + 1)) (drop (len + 1) text)).1)
    = ap (λ n. front_digits n (drop len text)) count ∙ ap (front_digits (suc (20 - (len + 1)))) (drop_more text len 0 l) ∙ digit_first (20 - (len + 1)) (get_or text len 0) (drop (len + 1) text) d in
    let x = front_digits (20 - (len + 1)) (drop (len + 1) text) in
    h ∙ rw e (ap (λ f. (f, x.1)) (sym (ap (λ t. t ++ x.0) (take_more text len 0 l) ∙ append_assoc (take len text) (get_or text len 0 ∷ []) x.0)))

pub digits_end_at_byte : (text : List ℕ) (len : ℕ) → len < length text → len < 20 → is_digit (get_or text len 0) ≡ false → DigitsSoFar text len → front_digits most_digits text ≡ (take len text, drop len text)
digits_end_at_byte text len l most d h =
    let count : 20 - len ≡ suc (20 - (len + 1)) = omega arith in
    stop_here text len h (ap (λ n. front_digits n (drop len text)) count ∙ ap (front_digits (suc (20 - (len + 1)))) (drop_more text len 0 l) ∙ no_digits-byte (20 - (len + 1)) (get_or text len 0) (drop (len + 1) text) d ∙ ap (λ r. ([], r)) (sym (drop_more text len 0 l)))

pub digits_end_at_end : (text : List ℕ) (len : ℕ) → length text ≤ len → DigitsSoFar text len → front_digits most_digits text ≡ (take len text, drop len text)
digits_end_at_end text len l h =
    let none : drop len text ≡ [] = drop_all len text l in
    stop_here text len h (ap (front_digits (20 - len)) none ∙ no_digits-nil (20 - len) ∙ ap (λ r. ([], r)) (sym none))

pub digits_end_at_most : (text : List ℕ) (len : ℕ) → len ≡ 20 → DigitsSoFar text len → front_digits most_digits text ≡ (take len text, drop len text)
digits_end_at_most text len e h =
    let count : 20 - len ≡ 0 = omega arith in
    stop_here text len h (ap (λ n. front_digits n (drop len text)) count ∙ no_digits-zero (drop len text))

-- ---- the number at the front

digit_is_plain : (byte : ℕ) → is_digit byte ≡ true → (is_blank byte ≡ false) × (eqb byte 35 ≡ false) × (eqb byte 47 ≡ false) × (eqb byte 39 ≡ false)
digit_is_plain byte d = (grind (arith, nat_tests), grind (arith, nat_tests), grind (arith, nat_tests), grind (arith, nat_tests))

pub number_piece_at : (byte : ℕ) (rest : List ℕ) → is_digit byte ≡ true → piece_at (byte ∷ rest) ≡ number_piece (front_digits most_digits (byte ∷ rest))
unfolding piece_at lexeme_at
number_piece_at byte rest d = let p = digit_is_plain byte d in rw (p.0, p.1, p.2, p.3, d) refl

abbrev IsNotNumber : Piece → Type 0
IsNotNumber (Lexeme (Number digits) rest) = ⊥
IsNotNumber _ = Unit {0}

one_of : (b : Bool) (x y : Piece) → (b ≡ true → IsNotNumber x) → IsNotNumber y → IsNotNumber (cond b x y)
one_of true x y f g = f refl
one_of false x y f g = g

mark_not_number : (text : List ℕ) (some : List Mark) → IsNotNumber (mark_piece some text)
mark_not_number text [] = tt
mark_not_number text (mark ∷ others) = by (behind (spelling mark) text) (mark_not_number text others)
  where
    by : (o : Option (List ℕ)) → IsNotNumber (mark_piece others text) → IsNotNumber (or_else mark o (mark_piece others text))
    by None k = k
    by (Some rest) k = tt

block_not_number : (inside : List ℕ) (o : Option (List ℕ)) → IsNotNumber (block_piece inside o)
block_not_number inside None = tt
block_not_number inside (Some rest) = tt

quoted_not_number : (inside : List ℕ) (o : Option (List ℕ × List ℕ)) → IsNotNumber (quoted_piece inside o)
quoted_not_number inside None = tt
quoted_not_number inside (Some read) = tt

slash_not_number : (rest : List ℕ) → IsNotNumber (slash_piece rest)
slash_not_number [] = tt
slash_not_number (byte ∷ rest) = one_of (eqb byte 47) _ _ (λ _. tt) (one_of (eqb byte 42) _ _ (λ _. block_not_number rest (behind_block rest)) tt)

not_number : (byte : ℕ) (rest : List ℕ) → (is_digit byte ≡ true → ⊥) → IsNotNumber (piece_at (byte ∷ rest))
unfolding piece_at lexeme_at
not_number byte rest h =
    one_of (is_blank byte) _ _ (λ _. tt) (one_of (eqb byte 35) _ _ (λ _. tt) (one_of (eqb byte 47) _ _ (λ _. slash_not_number rest)
    (one_of (eqb byte 39) _ _ (λ _. quoted_not_number rest (unquoted rest)) (one_of (is_digit byte) _ _ (λ e. absurd (h e)) (mark_not_number (byte ∷ rest) marks_anywhere)))))

pub no_number_at_front : (text : List ℕ) → IsNoGap (piece_at text) → front_digits most_digits text ≡ ([], text) → number_at (tokens text) ≡ Err (length text)
no_number_at_front [] h e = rw tokens-nil refl
no_number_at_front (byte ∷ rest) h e = rw (tokens_by_piece (byte ∷ rest)) (by (piece_at (byte ∷ rest)) refl h (not_number byte rest no_digit))
  where
    no_digit : is_digit byte ≡ true → ⊥
    no_digit d = let same : ◌≡◌ {A = List ℕ} (byte ∷ (front_digits 19 rest).0) [] = ap (λ (p : List ℕ × List ℕ). p.0) (sym (digit_first 19 byte rest d) ∙ e) in absurd cc

    by : (p : Piece) → piece_at (byte ∷ rest) ≡ p → IsNoGap p → IsNotNumber p → number_at (and_then (suc (length rest)) p (λ r. tokens r)) ≡ Err (suc (length rest))
    by End f k n = let no : byte ∷ rest ≡ [] = end_is_nothing (byte ∷ rest) f in absurd cc
    by (Gap r) f k n = absurd k
    by (Lexeme (Quoted t) r) f k n = refl
    by (Lexeme (Marked m) r) f k n = refl
    by (Lexeme (Number d) r) f k n = absurd n
    by (Lexeme Stray r) f k n = refl

pub number_at_front : (text digits rest : List ℕ) (len : ℕ) → front_digits most_digits text ≡ (take len text, drop len text) → (len ≡ 0 → ⊥) → len ≤ length text → digits ≡ take len text → rest ≡ drop len text → number_at (tokens text) ≡ Ok (digits, tokens rest)
number_at_front [] digits rest len e h l front back = absurd (h (omega arith))
number_at_front (byte ∷ more) digits rest len e h l front back = by_test (is_digit byte)
    (λ d. rw (tokens-lexeme (byte ∷ more) rest (Number digits) (number_piece_at byte more d ∙ ap number_piece e ∙ rw (← front, ← back) refl)) refl)
    (λ d. absurd (let none : ◌≡◌ {A = List ℕ} [] (take len (byte ∷ more)) = ap (λ (p : List ℕ × List ℕ). p.0) (sym (no_digits-byte 19 byte more d) ∙ e) in h (omega (arith, ap length none, length-take len (byte ∷ more)))))
