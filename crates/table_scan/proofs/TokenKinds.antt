-- The tokens of a text, without their places, from its front on.
use Rattle.std.proofs.Common.{◌≡◌, ℕ, zero, suc, ◌<◌, ◌≤◌, ◌^◌, Bool, true, false, cond, List, [], ◌∷◌, ◌++◌, length, Some, None, refl, ap, ◌∙◌, append_assoc, arith}
use Rattle.std.specs.Prelude.{◌&&◌, nat_lt}
use Rattle.std.specs.List.{list_all}
use Rattle.std.proofs.lemmas.Fmt.{length-decimal-le}
use Rattle.path_name.specs.Bytes.{is_blank, is_digit}
use Rattle.path_name.specs.Decimals.{is_number, number_of, number_in, decimal_text}
use Rattle.path_name.proofs.DecimalTexts.{number_in-decimal_text}
use Rattle.path_name.proofs.Joining.{both_true}
use Rattle.table_scan.specs.declared.mark.Mark.{Mark}
use Rattle.table_scan.specs.declared.mark.Mark.TheVariants as marks
use Rattle.table_scan.specs.TableTokens.{Token, Marked, Quoted, Number, Gap, Lexeme, spelling, is_special, in_front, unquoted, quoted_piece, front_digits, most_digits, number_piece, lexeme_at, piece_at, tokens}
use Rattle.table_scan.specs.TableFaults.{token_list}
use Rattle.table_scan.proofs.Cases.{by_test}
use Rattle.table_scan.proofs.Tokens.{tokens-gap, tokens-lexeme}
use Rattle.table_scan.proofs.Numbers.{number_piece_at}
use Rattle.table_scan.proofs.Quotes.{plain_step, quoted_piece_at}
use Rattle.table_scan.specs.QuotedTexts.{escaped, closed}

abbrev pub kinds : List ℕ → List Token
kinds text = token_list (tokens text)

pub over_gap : (text rest : List ℕ) → piece_at text ≡ Gap rest → kinds text ≡ kinds rest
over_gap text rest e = ap (λ ts. token_list ts) (tokens-gap text rest e)

pub at_lexeme : (text rest : List ℕ) (token : Token) → piece_at text ≡ Lexeme token rest → kinds text ≡ token ∷ kinds rest
at_lexeme text rest token e = ap (λ ts. token_list ts) (tokens-lexeme text rest token e)

pub over_blank : (byte : ℕ) (rest : List ℕ) → is_blank byte ≡ true → kinds (byte ∷ rest) ≡ kinds rest
unfolding piece_at
over_blank byte rest e = over_gap (byte ∷ rest) rest (rw e refl)

-- ---- marks

-- marks that are read wherever they stand
abbrev pub IsCommon : Mark → Type 0
IsCommon marks.Tag = ⊥
IsCommon marks.Assign = ⊥
IsCommon _ = Unit {0}

mark_piece_at : (mark : Mark) (rest : List ℕ) → IsCommon mark → piece_at (spelling mark ++ rest) ≡ Lexeme (Marked mark) rest
unfolding piece_at lexeme_at spelling
mark_piece_at marks.Tag rest h = absurd h
mark_piece_at marks.VendorDir rest h = refl
mark_piece_at marks.BaseDir rest h = refl
mark_piece_at marks.Dirname rest h = refl
mark_piece_at marks.ThisDir rest h = refl
mark_piece_at marks.ThisFile rest h = refl
mark_piece_at marks.Return rest h = refl
mark_piece_at marks.Array rest h = refl
mark_piece_at marks.Arrow rest h = refl
mark_piece_at marks.Assign rest h = absurd h
mark_piece_at marks.Open rest h = refl
mark_piece_at marks.Close rest h = refl
mark_piece_at marks.Comma rest h = refl
mark_piece_at marks.Dot rest h = refl
mark_piece_at marks.Semicolon rest h = refl

pub at_mark : (mark : Mark) (rest : List ℕ) → IsCommon mark → kinds (spelling mark ++ rest) ≡ Marked mark ∷ kinds rest
at_mark mark rest h = at_lexeme (spelling mark ++ rest) rest (Marked mark) (mark_piece_at mark rest h)

-- a `=` with a blank behind it
assign_piece_at : (rest : List ℕ) → piece_at (61 ∷ 32 ∷ rest) ≡ Lexeme (Marked marks.Assign) (32 ∷ rest)
unfolding piece_at lexeme_at spelling
assign_piece_at rest = refl

pub at_assign : (rest : List ℕ) → kinds (61 ∷ 32 ∷ rest) ≡ Marked marks.Assign ∷ kinds rest
at_assign rest = at_lexeme (61 ∷ 32 ∷ rest) (32 ∷ rest) (Marked marks.Assign) (assign_piece_at rest) ∙ ap (λ ts. Marked marks.Assign ∷ ts) (over_blank 32 rest refl)

-- ---- quoted texts

special_step : (byte : ℕ) (rest : List ℕ) → is_special byte ≡ true → unquoted (92 ∷ byte ∷ rest) ≡ in_front (byte ∷ []) (unquoted rest)
special_step byte rest h = rw h refl

closed_now : (rest : List ℕ) → unquoted (39 ∷ rest) ≡ Some ([], rest)
closed_now [] = refl
closed_now (next ∷ rest) = refl

escaped_is_read : (text rest : List ℕ) → unquoted (escaped text ++ 39 ∷ rest) ≡ Some (text, rest)
escaped_is_read [] rest = closed_now rest
escaped_is_read (byte ∷ text) rest = by_test (is_special byte)
    (λ e. rw e (special_step byte (escaped text ++ 39 ∷ rest) e ∙ ap (in_front (byte ∷ [])) (escaped_is_read text rest)))
    (λ e. rw e (plain_step byte (escaped text ++ 39 ∷ rest) e ∙ ap (in_front (byte ∷ [])) (escaped_is_read text rest)))

closed_is_read : (text rest : List ℕ) → unquoted (closed text ++ rest) ≡ Some (text, rest)
closed_is_read text rest = ap (λ t. unquoted t) (append_assoc (escaped text) (39 ∷ []) rest) ∙ escaped_is_read text rest

pub at_quoted : (text rest : List ℕ) → kinds (39 ∷ (closed text ++ rest)) ≡ Quoted text ∷ kinds rest
at_quoted text rest = at_lexeme (39 ∷ (closed text ++ rest)) rest (Quoted text)
    (quoted_piece_at (39 ∷ (closed text ++ rest)) (closed text ++ rest) refl ∙ ap (quoted_piece (closed text ++ rest)) (closed_is_read text rest))

-- ---- numbers

digits_end : (n : ℕ) (digits : List ℕ) (next : ℕ) (rest : List ℕ) → is_digit next ≡ false → list_all is_digit digits ≡ true → length digits ≤ n → front_digits n (digits ++ next ∷ rest) ≡ (digits, next ∷ rest)
unfolding front_digits
digits_end zero [] next rest e d l = refl
digits_end zero (x ∷ xs) next rest e d l = absurd (omega arith)
digits_end (suc n) [] next rest e d l = rw e refl
digits_end (suc n) (x ∷ xs) next rest e d l =
    let p = both_true (is_digit x) (list_all is_digit xs) d in
    rw (p.0, digits_end n xs next rest e p.1 (omega arith)) refl

-- digits behind which another byte stands
pub at_digits : (digits : List ℕ) (next : ℕ) (rest : List ℕ) → is_digit next ≡ false → is_number digits ≡ true → length digits ≤ 20 → kinds (digits ++ next ∷ rest) ≡ Number digits ∷ kinds (next ∷ rest)
at_digits [] next rest e h l = absurd cc
at_digits (x ∷ xs) next rest e h l =
    let p = both_true (is_digit x) (list_all is_digit xs) h in
    at_lexeme (x ∷ xs ++ next ∷ rest) (next ∷ rest) (Number (x ∷ xs)) (number_piece_at x (xs ++ next ∷ rest) p.0 ∙ ap number_piece (digits_end most_digits (x ∷ xs) next rest e h l))

decimal_is_number : (n : ℕ) → n < 2 ^ 64 → is_number (decimal_text n) ≡ true
unfolding number_in
decimal_is_number n h = by (is_number (decimal_text n)) (nat_lt (number_of (decimal_text n)) (2 ^ 64)) refl (number_in-decimal_text n h)
  where
    by : (b c : Bool) → is_number (decimal_text n) ≡ b → (cond (b && c) (Some (number_of (decimal_text n))) None) ≡ Some n → is_number (decimal_text n) ≡ true
    by true c e f = e
    by false c e f = absurd cc

-- a number below 2^64 with a `,` behind it
pub at_number : (n : ℕ) (rest : List ℕ) → n < 2 ^ 64 → kinds (decimal_text n ++ 44 ∷ rest) ≡ Number (decimal_text n) ∷ kinds (44 ∷ rest)
at_number n rest h = at_digits (decimal_text n) 44 rest refl (decimal_is_number n h) (length-decimal-le 20 n (omega arith) (omega arith) h)
