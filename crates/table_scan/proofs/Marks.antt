-- Marks at the front of a text.
use Rattle.std.proofs.Common.{◌≡◌, ℕ, zero, suc, ◌+◌, ◌<◌, Bool, true, false, cond, eqb, List, [], ◌∷◌, ◌++◌, length, take, drop, Option, Some, None, Ok, Err, eqb-true, refl, sym, ap, ◌∙◌, arith, eq-eqb}
use Rattle.std.specs.Prelude.{MatchOption, IfSome}
use Rattle.std.specs.Option.{option_map}
use Rattle.std.specs.Borrow.{Bor}
use Rattle.path_name.specs.Bytes.{is_blank, is_digit}
use Rattle.path_name.specs.Orders.{bytes_are_equal}
use Rattle.table_scan.specs.declared.mark.Mark.{Mark}
use Rattle.table_scan.specs.declared.mark.Mark.TheVariants as marks
use Rattle.table_scan.specs.TableTokens.{Marked, spelling, marks_anywhere, behind, Piece, End, Gap, Lexeme, behind_block, block_piece, slash_piece, unquoted, quoted_piece, or_else, mark_piece, lexeme_at, piece_at, and_then, tokens_within, tokens, behind_tag, text_tokens, left_of}
use Rattle.table_scan.specs.TableSteps.{IsNoGap, token_at}
use Rattle.table_scan.specs.TableReading.{is_wanted}
use Rattle.table_scan.proofs.Cases.{by_test}
use Rattle.table_scan.proofs.Wanted.{wanted_is, mark_is_wanted}
use Rattle.table_scan.proofs.Tokens.{mark_is_some, tokens_by_piece, tokens-lexeme}

pub behind-append : (front rest : List ℕ) → behind front (front ++ rest) ≡ Some rest
behind-append [] rest = refl
behind-append (byte ∷ front) rest = rw (eq-eqb byte byte refl) (behind-append front rest)

pub behind_parts : (front text rest : List ℕ) → behind front text ≡ Some rest → text ≡ front ++ rest
behind_parts [] text rest e = cc
behind_parts (byte ∷ front) [] rest e = absurd cc
behind_parts (byte ∷ front) (first ∷ text) rest e = by_test (eqb first byte)
    (λ k. let h : behind front text ≡ Some rest = rw k at e in let same : first ≡ byte = eqb-true first byte k in rw same (ap (λ t. byte ∷ t) (behind_parts front text rest h)))
    (λ k. let no : ◌≡◌ {A = Option (List ℕ)} None (Some rest) = rw k at e in absurd cc)

-- by a comparison of the front
pub behind_by_front : (front text : List ℕ) → behind front text ≡ cond (bytes_are_equal (take (length front) text) front) (Some (drop (length front) text)) None
behind_by_front [] text = refl
behind_by_front (byte ∷ front) [] = refl
behind_by_front (byte ∷ front) (first ∷ text) = by_test (eqb first byte) (λ k. rw k (behind_by_front front text)) (λ k. rw k refl)

-- ---- a mark at the front is the token there

pub mark_at_front : (mark : Mark) (rest : List ℕ) → (mark ≡ marks.Tag → ⊥) → (mark ≡ marks.Assign → behind (62 ∷ []) rest ≡ None) → piece_at (spelling mark ++ rest) ≡ Lexeme (Marked mark) rest
unfolding spelling piece_at lexeme_at
mark_at_front marks.Tag rest h k = absurd (h refl)
mark_at_front marks.VendorDir rest h k = refl
mark_at_front marks.BaseDir rest h k = refl
mark_at_front marks.Dirname rest h k = refl
mark_at_front marks.ThisDir rest h k = refl
mark_at_front marks.ThisFile rest h k = refl
mark_at_front marks.Return rest h k = refl
mark_at_front marks.Array rest h k = refl
mark_at_front marks.Arrow rest h k = refl
mark_at_front marks.Assign rest h k = let no : behind (62 ∷ []) rest ≡ None = k refl in rw no refl
mark_at_front marks.Open rest h k = refl
mark_at_front marks.Close rest h k = refl
mark_at_front marks.Comma rest h k = refl
mark_at_front marks.Dot rest h k = refl
mark_at_front marks.Semicolon rest h k = refl

-- ---- a mark that is the token at the front stands there

abbrev IsSpelled : List ℕ → Piece → Type 0
IsSpelled text (Lexeme (Marked mark) rest) = behind (spelling mark) text ≡ Some rest
IsSpelled text _ = Unit {0}

one_of : (text : List ℕ) (b : Bool) (x y : Piece) → IsSpelled text x → IsSpelled text y → IsSpelled text (cond b x y)
one_of text true x y f g = f
one_of text false x y f g = g

mark_is_spelled : (text : List ℕ) (some : List Mark) → IsSpelled text (mark_piece some text)
mark_is_spelled text [] = tt
mark_is_spelled text (mark ∷ others) = by (behind (spelling mark) text) refl (mark_is_spelled text others)
  where
    by : (o : Option (List ℕ)) → behind (spelling mark) text ≡ o → IsSpelled text (mark_piece others text) → IsSpelled text (or_else mark o (mark_piece others text))
    by None e k = k
    by (Some rest) e k = e

block_is_spelled : (text inside : List ℕ) (o : Option (List ℕ)) → IsSpelled text (block_piece inside o)
block_is_spelled text inside None = tt
block_is_spelled text inside (Some rest) = tt

slash_is_spelled : (text rest : List ℕ) → IsSpelled text (slash_piece rest)
slash_is_spelled text [] = tt
slash_is_spelled text (byte ∷ rest) = one_of text (eqb byte 47) _ _ tt (one_of text (eqb byte 42) _ _ (block_is_spelled text rest (behind_block rest)) tt)

quoted_is_spelled : (text inside : List ℕ) (o : Option (List ℕ × List ℕ)) → IsSpelled text (quoted_piece inside o)
quoted_is_spelled text inside None = tt
quoted_is_spelled text inside (Some read) = tt

is_spelled : (text : List ℕ) → IsSpelled text (piece_at text)
unfolding piece_at lexeme_at
is_spelled [] = tt
is_spelled (byte ∷ rest) = let text = byte ∷ rest in
    one_of text (is_blank byte) _ _ tt (one_of text (eqb byte 35) _ _ tt (one_of text (eqb byte 47) _ _ (slash_is_spelled text rest)
    (one_of text (eqb byte 39) _ _ (quoted_is_spelled text rest (unquoted rest)) (one_of text (is_digit byte) _ _ tt (mark_is_spelled text marks_anywhere)))))

pub mark_is_there : (text rest : List ℕ) (mark : Mark) → piece_at text ≡ Lexeme (Marked mark) rest → behind (spelling mark) text ≡ Some rest
mark_is_there text rest mark e = let h : IsSpelled text (Lexeme (Marked mark) rest) = rw e at (is_spelled text) in h

-- ---- the next token

pub missing_mark : (text : List ℕ) (mark : Mark) → IsNoGap (piece_at text) → behind (spelling mark) text ≡ None → token_at (Marked mark) (tokens text) ≡ Err (left_of (tokens text))
missing_mark text mark h none = rw (tokens_by_piece text) (by (piece_at text) refl h)
  where
    by : (p : Piece) → piece_at text ≡ p → IsNoGap p → token_at (Marked mark) (and_then (length text) p (λ r. tokens r)) ≡ Err (left_of (and_then (length text) p (λ r. tokens r)))
    by End e k = refl
    by (Gap rest) e k = absurd k
    by (Lexeme token rest) e k = by_test (is_wanted (Marked mark) token)
        (λ w. let there : behind (spelling mark) text ≡ Some rest = mark_is_there text rest mark (e ∙ ap (λ t. Lexeme t rest) (sym (wanted_is (Marked mark) token w))) in absurd cc)
        (λ w. rw w refl)

pub found_mark : (text rest : List ℕ) (mark : Mark) → (mark ≡ marks.Tag → ⊥) → behind (spelling mark) text ≡ Some rest → (mark ≡ marks.Assign → behind (62 ∷ []) rest ≡ None) → token_at (Marked mark) (tokens text) ≡ Ok (tokens rest)
found_mark text rest mark h e k =
    let parts = behind_parts (spelling mark) text rest e in
    rw (tokens-lexeme text rest (Marked mark) (ap piece_at parts ∙ mark_at_front mark rest h k)) (rw (mark_is_wanted mark) refl)

-- a `=` before a `>` is no token of its own
pub arrow_is_no_assign : (text rest after : List ℕ) → behind (61 ∷ []) text ≡ Some rest → behind (62 ∷ []) rest ≡ Some after → token_at (Marked marks.Assign) (tokens text) ≡ Err (left_of (tokens text))
unfolding spelling
arrow_is_no_assign text rest after e k =
    let parts : text ≡ 61 ∷ 62 ∷ after = behind_parts (61 ∷ []) text rest e ∙ ap (λ r. 61 ∷ r) (behind_parts (62 ∷ []) rest after k) in
    rw (tokens-lexeme text after (Marked marks.Arrow) (ap piece_at parts ∙ mark_at_front marks.Arrow after (λ same. absurd cc) (λ same. absurd cc))) refl

-- ---- in the words of contracts

pub is_behind : (front text : List ℕ) (found : Option (Bor (List ℕ)))
    → MatchOption found (bytes_are_equal (take (length front) text) front ≡ false)
    (λ x. (bytes_are_equal (take (length front) text) front ≡ true) × (x.now ≡ drop (length front) text) × (length x.now + length front ≡ length text))
    → option_map (λ rest. rest.now) found ≡ behind front text
is_behind front text None h = sym (behind_by_front front text ∙ ap (λ b. cond b (Some (drop (length front) text)) None) h)
is_behind front text (Some x) h = sym (behind_by_front front text ∙ ap (λ b. cond b (Some (drop (length front) text)) None) h.0 ∙ ap Some (sym h.1))

pub marks_behind : (text front : List ℕ) (mark : Mark) (found : Option (Bor (List ℕ))) → IsNoGap (piece_at text) → (mark ≡ marks.Tag → ⊥) → (mark ≡ marks.Assign → ⊥) → front ≡ spelling mark → option_map (λ rest. rest.now) found ≡ behind front text
    → MatchOption found (token_at (Marked mark) (tokens text) ≡ Err (left_of (tokens text))) (λ rest. token_at (Marked mark) (tokens text) ≡ Ok (tokens rest.now))
marks_behind text front mark None h anywhere other same e = missing_mark text mark h (sym (e ∙ ap (λ f. behind f text) same))
marks_behind text front mark (Some rest) h anywhere other same e = found_mark text rest.now mark anywhere (sym (e ∙ ap (λ f. behind f text) same)) (λ is. absurd (other is))

pub missing_assign : (text : List ℕ) → IsNoGap (piece_at text) → behind (61 ∷ []) text ≡ None → token_at (Marked marks.Assign) (tokens text) ≡ Err (left_of (tokens text))
unfolding spelling
missing_assign text h none = missing_mark text marks.Assign h none

pub found_assign : (text rest : List ℕ) → behind (61 ∷ []) text ≡ Some rest → behind (62 ∷ []) rest ≡ None → token_at (Marked marks.Assign) (tokens text) ≡ Ok (tokens rest)
unfolding spelling
found_assign text rest e none = found_mark text rest marks.Assign (λ same. absurd cc) e (λ same. none)

pub behind_is_below : (front text : List ℕ) (mark : Mark) (found : Option (Bor (List ℕ))) → front ≡ spelling mark → IfSome found (λ rest. length rest.now + length front ≡ length text) → IfSome found (λ rest. length rest.now < length text)
behind_is_below front text mark None e h = tt
behind_is_below front text mark (Some rest) e h = omega (arith, h, ap length e, mark_is_some mark)

-- ---- the opening tag

abbrev NotTag : Mark → Type 0
NotTag marks.Tag = ⊥
NotTag _ = Unit {0}

abbrev AllNotTag : List Mark → Type 0
AllNotTag [] = Unit {0}
AllNotTag (mark ∷ others) = NotTag mark × AllNotTag others

none_is_tag : AllNotTag marks_anywhere
none_is_tag = (tt, (tt, (tt, (tt, (tt, (tt, (tt, (tt, (tt, (tt, (tt, (tt, (tt, (tt, tt))))))))))))))

abbrev IsNoTag : Piece → Type 0
IsNoTag (Lexeme (Marked mark) rest) = NotTag mark
IsNoTag _ = Unit {0}

no_tag_of : (b : Bool) (x y : Piece) → IsNoTag x → IsNoTag y → IsNoTag (cond b x y)
no_tag_of true x y f g = f
no_tag_of false x y f g = g

mark_no_tag : (text : List ℕ) (some : List Mark) → AllNotTag some → IsNoTag (mark_piece some text)
mark_no_tag text [] h = tt
mark_no_tag text (mark ∷ others) h = by (behind (spelling mark) text) (mark_no_tag text others h.1)
  where
    by : (o : Option (List ℕ)) → IsNoTag (mark_piece others text) → IsNoTag (or_else mark o (mark_piece others text))
    by None k = k
    by (Some rest) k = h.0

block_no_tag : (inside : List ℕ) (o : Option (List ℕ)) → IsNoTag (block_piece inside o)
block_no_tag inside None = tt
block_no_tag inside (Some rest) = tt

slash_no_tag : (rest : List ℕ) → IsNoTag (slash_piece rest)
slash_no_tag [] = tt
slash_no_tag (byte ∷ rest) = no_tag_of (eqb byte 47) _ _ tt (no_tag_of (eqb byte 42) _ _ (block_no_tag rest (behind_block rest)) tt)

quoted_no_tag : (inside : List ℕ) (o : Option (List ℕ × List ℕ)) → IsNoTag (quoted_piece inside o)
quoted_no_tag inside None = tt
quoted_no_tag inside (Some read) = tt

no_tag : (text : List ℕ) → IsNoTag (piece_at text)
unfolding piece_at lexeme_at
no_tag [] = tt
no_tag (byte ∷ rest) =
    no_tag_of (is_blank byte) _ _ tt (no_tag_of (eqb byte 35) _ _ tt (no_tag_of (eqb byte 47) _ _ (slash_no_tag rest)
    (no_tag_of (eqb byte 39) _ _ (quoted_no_tag rest (unquoted rest)) (no_tag_of (is_digit byte) _ _ tt (mark_no_tag (byte ∷ rest) marks_anywhere none_is_tag)))))

-- no token of a text behind its beginning is the tag
no_tag_within : (n : ℕ) (text : List ℕ) → token_at (Marked marks.Tag) (tokens_within n text) ≡ Err (left_of (tokens_within n text))
unfolding tokens_within
no_tag_within zero text = refl
no_tag_within (suc n) text = by (piece_at text) (no_tag text) (λ rest. no_tag_within n rest)
  where
    by : (p : Piece) → IsNoTag p → ((rest : List ℕ) → token_at (Marked marks.Tag) (tokens_within n rest) ≡ Err (left_of (tokens_within n rest)))
        → token_at (Marked marks.Tag) (and_then (length text) p (λ r. tokens_within n r)) ≡ Err (left_of (and_then (length text) p (λ r. tokens_within n r)))
    by End h on = refl
    by (Gap rest) h on = on rest
    by (Lexeme (Marked marks.Tag) rest) h on = absurd h
    by (Lexeme _ rest) h on = refl

pub tag_is_no_token : (text : List ℕ) → token_at (Marked marks.Tag) (tokens text) ≡ Err (left_of (tokens text))
unfolding tokens
tag_is_no_token text = no_tag_within (length text) text

pub no_tag_at_front : (text : List ℕ) (left : ℕ) → None ≡ behind_tag text → left_of (tokens text) ≡ left → token_at (Marked marks.Tag) (text_tokens text) ≡ Err left
unfolding text_tokens
no_tag_at_front text left none l = rw (← none) (tag_is_no_token text ∙ ap Err l)

pub tag_at_front : (text rest : List ℕ) → Some rest ≡ behind_tag text → token_at (Marked marks.Tag) (text_tokens text) ≡ Ok (tokens rest)
unfolding text_tokens
tag_at_front text rest some = rw (← some) refl
