-- Quoted texts, run by run.
use Rattle.std.proofs.Common.{◌≡◌, ℕ, suc, ◌<◌, ◌≤◌, Bool, true, false, cond, eqb, List, [], ◌∷◌, ◌++◌, length, get_or, take, drop, Option, Some, None, Ok, Err, refl, sym, ap, ◌∙◌, append_assoc, eqb-true, arith}
use Rattle.std.specs.Prelude.{◌||◌, IfSome}
use Rattle.std.specs.Borrow.{Bor}
use Rattle.std.proofs.lemmas.List.{take-append-drop, length-take, get_or-take, append-nil}
use Rattle.path_name.specs.Bytes.{is_blank, is_digit}
use Rattle.table_scan.specs.declared.mark.Mark.{Mark}
use Rattle.table_scan.specs.TableTokens.{Marked, Quoted, Number, Stray, spelling, marks_anywhere, behind, Piece, End, Gap, Lexeme, behind_block, block_piece, slash_piece, is_special, in_front, unquoted, quoted_piece, or_else, mark_piece, lexeme_at, piece_at, and_then, tokens}
use Rattle.table_scan.specs.TableSteps.{IsNoGap, quoted_at}
use Rattle.table_scan.proofs.Tokens.{tokens_by_piece, tokens-lexeme, tokens-nil, end_is_nothing}

pub in_front-in_front : (a b : List ℕ) (read : Option (List ℕ × List ℕ)) → in_front a (in_front b read) ≡ in_front (a ++ b) read
in_front-in_front a b None = refl
in_front-in_front a b (Some x) = ap (λ bytes. Some (bytes, x.1)) (sym (append_assoc a b x.0))

in_front-nil : (read : Option (List ℕ × List ℕ)) → in_front [] read ≡ read
in_front-nil None = refl
in_front-nil (Some x) = refl

-- the two tests of a byte that is not special
plain_tests : (byte : ℕ) → is_special byte ≡ false → (eqb byte 92 ≡ false) × (eqb byte 39 ≡ false)
plain_tests byte h = by (eqb byte 92) (eqb byte 39) h
  where
    by : (s t : Bool) → (s || t) ≡ false → (s ≡ false) × (t ≡ false)
    by true t e = absurd cc
    by false t e = (refl, e)

pub plain_step : (byte : ℕ) (rest : List ℕ) → is_special byte ≡ false → unquoted (byte ∷ rest) ≡ in_front (byte ∷ []) (unquoted rest)
plain_step byte [] h = let t = plain_tests byte h in rw t.1 refl
plain_step byte (next ∷ rest) h = let t = plain_tests byte h in rw (t.1, t.0) refl

-- a run of bytes that are not special
plain_run : (run rest : List ℕ) → ((k : ℕ) → k < length run → is_special (get_or run k 0) ≡ false) → unquoted (run ++ rest) ≡ in_front run (unquoted rest)
plain_run [] rest h = sym (in_front-nil (unquoted rest))
plain_run (byte ∷ run) rest h =
    plain_step byte (run ++ rest) (h 0 (omega arith)) ∙ ap (in_front (byte ∷ [])) (plain_run run rest (λ k below. h (suc k) (omega arith))) ∙ in_front-in_front (byte ∷ []) run (unquoted rest)

-- a run read behind what was read before
pub run_read : (bytes run behind rest text : List ℕ) (n : ℕ) → run ≡ take n rest → behind ≡ drop n rest → ((k : ℕ) → k < n → is_special (get_or rest k 0) ≡ false) → n ≤ length rest
    → in_front bytes (unquoted rest) ≡ unquoted text → in_front (bytes ++ run) (unquoted behind) ≡ unquoted text
run_read bytes run behind rest text n front back plain within so_far =
    let inside : (k : ℕ) → k < length (take n rest) → is_special (get_or (take n rest) k 0) ≡ false = λ k below.
    let l : k < n = omega (arith, length-take n rest) in
    rw get_or-take (plain k l) in
    let whole : unquoted rest ≡ in_front (take n rest) (unquoted (drop n rest)) = ap unquoted (sym (take-append-drop n rest)) ∙ plain_run (take n rest) (drop n rest) inside in
    rw (front, back) (sym (in_front-in_front bytes (take n rest) (unquoted (drop n rest))) ∙ ap (in_front bytes) (sym whole) ∙ so_far)

-- ---- the quoted text at the front

pub quoted_piece_at : (text inside : List ℕ) → text ≡ 39 ∷ inside → piece_at text ≡ quoted_piece inside (unquoted inside)
unfolding piece_at lexeme_at
quoted_piece_at text inside e = ap piece_at e

pub closed_at_front : (text inside bytes rest : List ℕ) → text ≡ 39 ∷ inside → Some (bytes, rest) ≡ unquoted inside → quoted_at (tokens text) ≡ Ok (bytes, tokens rest)
closed_at_front text inside bytes rest e read = rw (tokens-lexeme text rest (Quoted bytes) (quoted_piece_at text inside e ∙ ap (quoted_piece inside) (sym read))) refl

pub unclosed_at_front : (text inside : List ℕ) → text ≡ 39 ∷ inside → None ≡ unquoted inside → quoted_at (tokens text) ≡ Err (length text)
unclosed_at_front text inside e read = rw (tokens-lexeme text inside Stray (quoted_piece_at text inside e ∙ ap (quoted_piece inside) (sym read))) refl

abbrev IsNotQuoted : Piece → Type 0
IsNotQuoted (Lexeme (Quoted text) rest) = ⊥
IsNotQuoted _ = Unit {0}

one_of : (b : Bool) (x y : Piece) → (b ≡ true → IsNotQuoted x) → IsNotQuoted y → IsNotQuoted (cond b x y)
one_of true x y f g = f refl
one_of false x y f g = g

mark_not_quoted : (text : List ℕ) (some : List Mark) → IsNotQuoted (mark_piece some text)
mark_not_quoted text [] = tt
mark_not_quoted text (mark ∷ others) = by (behind (spelling mark) text) (mark_not_quoted text others)
  where
    by : (o : Option (List ℕ)) → IsNotQuoted (mark_piece others text) → IsNotQuoted (or_else mark o (mark_piece others text))
    by None k = k
    by (Some rest) k = tt

block_not_quoted : (inside : List ℕ) (o : Option (List ℕ)) → IsNotQuoted (block_piece inside o)
block_not_quoted inside None = tt
block_not_quoted inside (Some rest) = tt

slash_not_quoted : (rest : List ℕ) → IsNotQuoted (slash_piece rest)
slash_not_quoted [] = tt
slash_not_quoted (byte ∷ rest) = one_of (eqb byte 47) _ _ (λ _. tt) (one_of (eqb byte 42) _ _ (λ _. block_not_quoted rest (behind_block rest)) tt)

not_quoted : (byte : ℕ) (rest : List ℕ) → (byte ≡ 39 → ⊥) → IsNotQuoted (piece_at (byte ∷ rest))
unfolding piece_at lexeme_at
not_quoted byte rest h =
    one_of (is_blank byte) _ _ (λ _. tt) (one_of (eqb byte 35) _ _ (λ _. tt) (one_of (eqb byte 47) _ _ (λ _. slash_not_quoted rest)
    (one_of (eqb byte 39) _ _ (λ e. absurd (h (eqb-true byte 39 e))) (one_of (is_digit byte) _ _ (λ _. tt) (mark_not_quoted (byte ∷ rest) marks_anywhere)))))

pub no_quote_at_front : (text : List ℕ) → IsNoGap (piece_at text) → ((rest : List ℕ) → text ≡ 39 ∷ rest → ⊥) → quoted_at (tokens text) ≡ Err (length text)
no_quote_at_front [] h none = rw tokens-nil refl
no_quote_at_front (byte ∷ rest) h none = rw (tokens_by_piece (byte ∷ rest)) (by (piece_at (byte ∷ rest)) refl h (not_quoted byte rest (λ e. none rest (ap (λ b. b ∷ rest) e))))
  where
    by : (p : Piece) → piece_at (byte ∷ rest) ≡ p → IsNoGap p → IsNotQuoted p → quoted_at (and_then (suc (length rest)) p (λ r. tokens r)) ≡ Err (suc (length rest))
    by End e k n = let no : byte ∷ rest ≡ [] = end_is_nothing (byte ∷ rest) e in absurd cc
    by (Gap r) e k n = absurd k
    by (Lexeme (Quoted t) r) e k n = absurd n
    by (Lexeme (Marked m) r) e k n = refl
    by (Lexeme (Number d) r) e k n = refl
    by (Lexeme Stray r) e k n = refl

closed_now : (rest : List ℕ) → unquoted (39 ∷ rest) ≡ Some ([], rest)
closed_now [] = refl
closed_now (next ∷ rest) = refl

-- a text without a `\`
pub plain_read : (text run behind rest : List ℕ) (n : ℕ) → run ≡ take n text → behind ≡ drop n text → ((k : ℕ) → k < n → is_special (get_or text k 0) ≡ false) → n ≤ length text → behind ≡ 39 ∷ rest → unquoted text ≡ Some (run, rest)
plain_read text run behind rest n front back plain within quote =
    sym (run_read [] run behind text text n front back plain within (in_front-nil (unquoted text))) ∙ rw (quote, closed_now rest) (ap (λ r. Some (r, rest)) (append-nil run))

pub plain_at_front : (text inside : List ℕ) (found : Option (Bor (List ℕ) × Bor (List ℕ))) → text ≡ 39 ∷ inside → IfSome found (λ x. unquoted inside ≡ Some (x.0.now, x.1.now)) → IfSome found (λ x. quoted_at (tokens text) ≡ Ok (x.0.now, tokens x.1.now))
plain_at_front text inside None e h = tt
plain_at_front text inside (Some x) e h = closed_at_front text inside x.0.now x.1.now e (sym h)
