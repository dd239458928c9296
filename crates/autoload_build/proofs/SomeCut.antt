-- No text is without a cut: each rule takes some bytes from the front.
use Rattle.std.proofs.Common.{◌≡◌, ℕ, zero, suc, ◌+◌, ◌<◌, ◌≤◌, Bool, true, false, cond, List, [], ◌∷◌, ◌++◌, length, drop, Option, Some, None, refl, sym, ap, subst, ◌∙◌, arith, append-nil, append_assoc}
use Rattle.std.specs.Prelude.{◌&&◌, ◌||◌, ◌==◌, codes}
use Rattle.std.proofs.lemmas.List.{length-append}
use Rattle.path_name.specs.Bytes.{is_blank, is_digit, starts_identifier, continues_identifier}
use Rattle.php_lex.specs.declared.lexeme.LexKind.{LexKind}
use Rattle.php_lex.specs.declared.lexeme.LexKind.TheVariants as kinds
use Rattle.php_lex.specs.Places.{after_run, behind, begins_with, first_place, has_first, is_line_end, is_space, run_of}
use Rattle.php_lex.specs.Comments.{after_block, after_line, after_line_end, after_line_place, closes_block, comment, ends_line, is_close_tag, is_line_comment, opens_block}
use Rattle.php_lex.specs.Tags.{after_html, after_tag, is_echo_tag, is_tag}
use Rattle.php_lex.specs.Quotes.{Double, Element, Heredoc, Nested, Nowdoc, Opened, Single, closing, closing_line, heredoc, is_labelled, label, labelled, opens_heredoc, quoted}
use Rattle.php_lex.specs.Elements.{Ends, Piece, after_escape, brace_piece, child, close, double_piece, heredoc_piece, interpolated, opens_code, piece_in, plain, single_piece}
use Rattle.php_lex.specs.Elements as elements
use Rattle.php_lex.specs.Lexemes.{Opening, Taken, Whole, after_name, continues_name, joins, named, sign, taken, word}
use Rattle.php_lex.specs.Lexemes as lexemes
use Rattle.php_lex.specs.Cut.{First, IsCutFrom, Lex, closed, end, html, is_code_after, next, open_tag, unclosed, whole}

-- ---- what stands behind some bytes of a text, and behind one byte at least

record Tail (text rest : List ℕ) : Type 0 where
  front : List ℕ
  is : text ≡ front ++ rest

record Later (text rest : List ℕ) : Type 0 where
  front : List ℕ
  some : 0 < length front
  is : text ≡ front ++ rest

itself : (text : List ℕ) → Tail text text
itself text = record { front = []; is = refl }

nothing : (text : List ℕ) → Tail text []
nothing text = record { front = text; is = sym (append-nil text) }

one_on : (b : ℕ) (text rest : List ℕ) → Tail text rest → Tail (b ∷ text) rest
one_on b text rest t = record { front = b ∷ t.front; is = ap (λ list. b ∷ list) t.is }

later : (b : ℕ) (text rest : List ℕ) → Tail text rest → Later (b ∷ text) rest
later b text rest t = record { front = b ∷ t.front; some = omega arith; is = ap (λ list. b ∷ list) t.is }

both_on : (a b c : List ℕ) → Tail a b → Tail b c → Tail a c
both_on a b c s t = record { front = s.front ++ t.front; is = s.is ∙ ap (λ list. s.front ++ list) t.is ∙ sym (append_assoc s.front t.front c) }

later_on : (a b c : List ℕ) → Later a b → Tail b c → Later a c
later_on a b c s t =
    let size = length-append s.front t.front in
    let some = s.some in
    record { front = s.front ++ t.front; some = omega (arith, size, some); is = s.is ∙ ap (λ list. s.front ++ list) t.is ∙ sym (append_assoc s.front t.front c) }

dropped : (n : ℕ) (text : List ℕ) → Tail text (drop n text)
dropped zero text = itself text
dropped (suc n) [] = itself []
dropped (suc n) (b ∷ text) = one_on b text (drop n text) (dropped n text)

-- ---- by cases of a test

either : {X : Type 0} (P : X → Type 0) (b : Bool) (x y : X) → P x → P y → P (cond b x y)
either P true x y h k = h
either P false x y h k = k

where_true : {X : Type 0} (P : X → Type 0) (b : Bool) (x y : X) → (b ≡ true → P x) → P y → P (cond b x y)
where_true P true x y h k = h refl
where_true P false x y h k = k

-- ---- runs and places

run_tail : (test : ℕ → Bool) (text : List ℕ) → Tail text (after_run test text)
run_tail test [] = itself []
run_tail test (b ∷ text) = either (Tail (b ∷ text)) (test b) (after_run test text) (b ∷ text) (one_on b text (after_run test text) (run_tail test text)) (itself (b ∷ text))

name_tail : (text : List ℕ) → Tail text (after_name text)
name_tail [] = itself []
name_tail (b ∷ text) = either (Tail (b ∷ text)) (continues_name (b ∷ text)) (after_name text) (b ∷ text) (one_on b text (after_name text) (name_tail text)) (itself (b ∷ text))

abbrev PlaceIn : List ℕ → Option (List ℕ) → Type 0
PlaceIn text None = Unit {0}
PlaceIn text (Some rest) = Tail text rest

place_on : (b : ℕ) (text : List ℕ) (place : Option (List ℕ)) → PlaceIn text place → PlaceIn (b ∷ text) place
place_on b text None h = tt
place_on b text (Some rest) h = one_on b text rest h

place_in : (test : List ℕ → Bool) (text : List ℕ) → PlaceIn text (first_place test text)
place_in test [] = tt
place_in test (b ∷ text) = either (PlaceIn (b ∷ text)) (test (b ∷ text)) (Some (b ∷ text)) (first_place test text) (itself (b ∷ text)) (place_on b text (first_place test text) (place_in test text))

behind_tail : (n : ℕ) (text : List ℕ) (place : Option (List ℕ)) → PlaceIn text place → Tail text (behind n place)
behind_tail n text None h = nothing text
behind_tail n text (Some rest) h = both_on text rest (drop n rest) h (dropped n rest)

line_tail : (text : List ℕ) → Tail text (after_line text)
line_tail text = by (first_place ends_line text) (place_in ends_line text)
  where
    by : (place : Option (List ℕ)) → PlaceIn text place → Tail text (after_line_place place)
    by None h = nothing text
    by (Some rest) h = both_on text rest (after_line_end rest) h (either (Tail rest) (has_first is_line_end rest) (drop 1 rest) rest (dropped 1 rest) (itself rest))

block_tail : (text : List ℕ) → Tail text (after_block text)
block_tail text = behind_tail 2 text (first_place closes_block text) (place_in closes_block text)

-- a first byte that passes is in the run
run_later : (test : ℕ → Bool) (b : ℕ) (text : List ℕ) → test b ≡ true → Later (b ∷ text) (after_run test (b ∷ text))
run_later test b text h = rw h (later b text (after_run test text) (run_tail test text))

-- ---- comments and quoted elements

abbrev CommentLater : List ℕ → Option (List ℕ) → Type 0
CommentLater text None = Unit {0}
CommentLater text (Some rest) = Later text rest

comment_later : (b : ℕ) (text : List ℕ) → CommentLater (b ∷ text) (comment (b ∷ text))
comment_later b text = either (CommentLater (b ∷ text)) (is_line_comment (b ∷ text)) _ _ (later b text (after_line text) (line_tail text))
    (either (CommentLater (b ∷ text)) (opens_block (b ∷ text)) (Some (after_block (drop 1 text))) None
    (later b text (after_block (drop 1 text)) (both_on text (drop 1 text) (after_block (drop 1 text)) (dropped 1 text) (block_tail (drop 1 text)))) tt)

abbrev OpenedIn : List ℕ → Option Opened → Type 0
OpenedIn text None = Unit {0}
OpenedIn text (Some o) = Tail text o.inside

opened_on : (a b : List ℕ) (o : Option Opened) → Tail a b → OpenedIn b o → OpenedIn a o
opened_on a b None t h = tt
opened_on a b (Some o) t h = both_on a b o.inside t h

labelled_in : (quote : List ℕ) (kind : List ℕ → Element) (text : List ℕ) → OpenedIn text (labelled quote kind text)
labelled_in quote kind text = either (OpenedIn text) (is_labelled quote text) (Some (record { element = kind (run_of continues_identifier text); inside = drop (length quote) (after_run continues_identifier text) })) None
    (both_on text (after_run continues_identifier text) (drop (length quote) (after_run continues_identifier text)) (run_tail continues_identifier text) (dropped (length quote) (after_run continues_identifier text))) tt

label_in : (text : List ℕ) → OpenedIn text (label text)
label_in text = either (OpenedIn text) (has_first (λ b. b == 39) text) (labelled (39 ∷ []) Nowdoc (drop 1 text)) _ (opened_on text (drop 1 text) (labelled (39 ∷ []) Nowdoc (drop 1 text)) (dropped 1 text) (labelled_in (39 ∷ []) Nowdoc (drop 1 text)))
    (either (OpenedIn text) (has_first (λ b. b == 34) text) (labelled (34 ∷ []) Heredoc (drop 1 text)) (labelled [] Heredoc text) (opened_on text (drop 1 text) (labelled (34 ∷ []) Heredoc (drop 1 text)) (dropped 1 text) (labelled_in (34 ∷ []) Heredoc (drop 1 text)))
    (labelled_in [] Heredoc text))

heredoc_in : (b : ℕ) (text : List ℕ) → OpenedIn text (heredoc (b ∷ text))
heredoc_in b text = either (OpenedIn text) (opens_heredoc (b ∷ text)) (label (after_run is_space (drop 2 text))) None
    (opened_on text (after_run is_space (drop 2 text)) (label (after_run is_space (drop 2 text))) (both_on text (drop 2 text) (after_run is_space (drop 2 text)) (dropped 2 text) (run_tail is_space (drop 2 text))) (label_in (after_run is_space (drop 2 text)))) tt

quoted_in : (b : ℕ) (text : List ℕ) → OpenedIn text (quoted (b ∷ text))
quoted_in b text = either (OpenedIn text) (b == 39) _ _ (itself text) (either (OpenedIn text) (b == 34) _ _ (itself text) (either (OpenedIn text) (b == 96) _ _ (itself text) (heredoc_in b text)))

closing_in : (label text : List ℕ) → PlaceIn text (closing label text)
closing_in label text = either (PlaceIn text) (has_first is_line_end text) (closing_line label (line text)) None (line_in (line text) (both_on text (drop 1 text) (line text) (dropped 1 text) (run_tail is_space (drop 1 text)))) tt
  where
    line : List ℕ → List ℕ
    line text = after_run is_space (drop 1 text)

    line_in : (rest : List ℕ) → Tail text rest → PlaceIn text (closing_line label rest)
    line_in rest t = either (PlaceIn text) _ (Some (drop (length label) rest)) None (both_on text rest (drop (length label) rest) t (dropped (length label) rest)) tt

-- ---- pieces of an element

abbrev PieceIn : List ℕ → Piece → Type 0
PieceIn text (elements.Close rest) = Tail text rest
PieceIn text (elements.Plain rest) = Tail text rest
PieceIn text (elements.Child opened rest) = Tail text rest
PieceIn text elements.Missing = Unit {0}

interpolated_in : (b : ℕ) (text : List ℕ) → PieceIn text (interpolated b text)
interpolated_in b text = either (PieceIn text) (opens_code b text) _ _ (dropped 1 text) (itself text)

piece_on : (b : ℕ) (text : List ℕ) (piece : Piece) → PieceIn text piece → PieceIn (b ∷ text) piece
piece_on b text (elements.Close rest) h = one_on b text rest h
piece_on b text (elements.Plain rest) h = one_on b text rest h
piece_on b text (elements.Child opened rest) h = one_on b text rest h
piece_on b text elements.Missing h = tt

double_in : (quote b : ℕ) (text : List ℕ) → PieceIn text (double_piece quote b text)
double_in quote b text = either (PieceIn text) (b == quote) _ _ (itself text) (either (PieceIn text) (b == 92) _ _ (dropped 1 text) (interpolated_in b text))

single_in : (b : ℕ) (text : List ℕ) → PieceIn text (single_piece b text)
single_in b text = either (PieceIn text) (b == 39) _ _ (itself text) (either (PieceIn text) (b == 92) _ _ (dropped 1 text) (itself text))

escape_tail : (text : List ℕ) → Tail text (after_escape text)
escape_tail text = either (Tail text) (has_first is_line_end text) text (drop 1 text) (itself text) (dropped 1 text)

heredoc_piece_in : (b : ℕ) (text : List ℕ) → PieceIn text (heredoc_piece b text)
heredoc_piece_in b text = either (PieceIn text) (b == 92) _ _ (escape_tail text) (interpolated_in b text)

brace_in : (b : ℕ) (text : List ℕ) → PieceIn text (brace_piece b text)
brace_in b text = either (PieceIn text) (b == 123) _ _ (itself text) (either (PieceIn text) (b == 125) _ _ (itself text) (itself text))

closed_in : (text : List ℕ) (place : Option (List ℕ)) (piece : Piece) → PlaceIn text place → PieceIn text piece → PieceIn text (elements.closed_or place piece)
closed_in text None piece h k = k
closed_in text (Some rest) piece h k = h

code_in : (b : ℕ) (text : List ℕ) (place : Option (List ℕ)) (opened : Option Opened) → CommentLater (b ∷ text) place → OpenedIn text opened
    → PieceIn (b ∷ text) (elements.comment_or place (elements.quoted_or opened (brace_piece b text)))
code_in b text (Some rest) opened h k = record { front = h.front; is = h.is }
code_in b text None (Some o) h k = one_on b text o.inside k
code_in b text None None h k = piece_on b text (brace_piece b text) (brace_in b text)

piece_tail : (element : Element) (text : List ℕ) → PieceIn text (piece_in element text)
unfolding piece_in
piece_tail element [] = tt
piece_tail Single (b ∷ text) = piece_on b text (single_piece b text) (single_in b text)
piece_tail (Double quote) (b ∷ text) = piece_on b text (double_piece quote b text) (double_in quote b text)
piece_tail (Nowdoc name) (b ∷ text) = closed_in (b ∷ text) (closing name (b ∷ text)) (elements.Plain text) (closing_in name (b ∷ text)) (one_on b text text (itself text))
piece_tail (Heredoc name) (b ∷ text) = closed_in (b ∷ text) (closing name (b ∷ text)) (heredoc_piece b text) (closing_in name (b ∷ text)) (piece_on b text (heredoc_piece b text) (heredoc_piece_in b text))
piece_tail Nested (b ∷ text) = code_in b text (comment (b ∷ text)) (quoted (b ∷ text)) (comment_later b text) (quoted_in b text)

end_tail : {levels : ℕ} {element : Element} {text rest : List ℕ} → Ends levels element text rest → Tail text rest
end_tail {levels} {element} {text} {rest} (close e) = subst (PieceIn text) e (piece_tail element text)
end_tail {levels} {element} {text} {rest} (plain {next = n} e more) = both_on text n rest (subst (PieceIn text) e (piece_tail element text)) (end_tail more)
end_tail {levels} {element} {text} {rest} (child {next = n} {after = a} e w inner more) =
    both_on text n rest (subst (PieceIn text) e (piece_tail element text)) (both_on n a rest (end_tail inner) (end_tail more))

-- ---- the rules of code

abbrev TakenLater : List ℕ → Taken → Type 0
TakenLater text (Whole kind rest) = Later text rest
TakenLater text (Opening o) = Later text o.inside

named_later : (text rest : List ℕ) → Later text rest → TakenLater text (named rest)
named_later text rest l = either (TakenLater text) (joins rest) (Whole kinds.Qualified (after_name rest)) (Whole kinds.Plain rest) (later_on text rest (after_name rest) l (name_tail rest)) l

sign_later : (b : ℕ) (text : List ℕ) → TakenLater (b ∷ text) (sign (b ∷ text))
sign_later b text = either (TakenLater (b ∷ text)) (begins_with (codes "::") (b ∷ text) || begins_with (codes "->") (b ∷ text)) (Whole kinds.Member (drop 1 text)) _ (later b text (drop 1 text) (dropped 1 text))
    (either (TakenLater (b ∷ text)) (begins_with (codes "?->") (b ∷ text)) (Whole kinds.Member (drop 2 text)) (Whole kinds.Mark text) (later b text (drop 2 text) (dropped 2 text)) (later b text text (itself text)))

digit_continues : (a b : Bool) → b ≡ true → a || b ≡ true
digit_continues true b h = refl
digit_continues false b h = h

starts_continues : (b : ℕ) → starts_identifier b ≡ true → continues_identifier b ≡ true
starts_continues b h = rw h refl

word_later : (b : ℕ) (text : List ℕ) → TakenLater (b ∷ text) (word (b ∷ text))
word_later b text =
    either (TakenLater (b ∷ text)) ((b == 36) && has_first starts_identifier text) _ _ (later b text (after_run continues_identifier text) (run_tail continues_identifier text))
    (where_true (TakenLater (b ∷ text)) (starts_identifier b) (named (after_run continues_identifier (b ∷ text))) _ (λ h. named_later (b ∷ text) (after_run continues_identifier (b ∷ text)) (run_later continues_identifier b text (starts_continues b h)))
    (either (TakenLater (b ∷ text)) (joins (b ∷ text)) (Whole kinds.Qualified (after_name text)) _ (later b text (after_name text) (name_tail text))
    (where_true (TakenLater (b ∷ text)) (is_digit b) (Whole kinds.Number (after_run continues_identifier (b ∷ text))) (sign (b ∷ text)) (λ h. run_later continues_identifier b text (digit_continues (starts_identifier b) (is_digit b) h))
    (sign_later b text))))

other_later : (b : ℕ) (text : List ℕ) (place : Option (List ℕ)) (opened : Option Opened) → CommentLater (b ∷ text) place → OpenedIn text opened
    → TakenLater (b ∷ text) (lexemes.comment_or place (lexemes.quoted_or opened (word (b ∷ text))))
other_later b text (Some rest) opened h k = h
other_later b text None (Some o) h k = later b text o.inside k
other_later b text None None h k = word_later b text

taken_later : (b : ℕ) (text : List ℕ) → TakenLater (b ∷ text) (taken (b ∷ text))
unfolding taken
taken_later b text =
    where_true (TakenLater (b ∷ text)) (is_blank b) (Whole kinds.Blank (after_run is_blank (b ∷ text))) _ (λ h. run_later is_blank b text h)
    (either (TakenLater (b ∷ text)) (is_close_tag (b ∷ text)) (Whole kinds.Close (drop 1 text)) _ (later b text (drop 1 text) (dropped 1 text))
    (other_later b text (comment (b ∷ text)) (quoted (b ∷ text)) (comment_later b text) (quoted_in b text)))

-- ---- the lexeme that stands first

record HasFirst (in_code : Bool) (text : List ℕ) : Type 0 where
  kind : LexKind
  rest : List ℕ
  first : First in_code text kind rest
  later : Later text rest

tag_later : (b : ℕ) (text : List ℕ) → Later (b ∷ text) (after_tag (b ∷ text))
tag_later b text = either (Later (b ∷ text)) (is_echo_tag (b ∷ text)) _ _ (later b text (drop 2 text) (dropped 2 text)) (later b text (drop 5 text) (dropped 5 text))

html_later : (b : ℕ) (text : List ℕ) → is_tag (b ∷ text) ≡ false → Later (b ∷ text) (after_html (b ∷ text))
html_later b text h = rw h (later b text (after_html text) (behind_tail 0 text (first_place is_tag text) (place_in is_tag text)))

outside : (b : ℕ) (text : List ℕ) (tag : Bool) → is_tag (b ∷ text) ≡ tag → HasFirst false (b ∷ text)
outside b text true h = record { kind = kinds.Open; rest = _; first = open_tag h refl; later = tag_later b text }
outside b text false h = record { kind = kinds.Html; rest = _; first = html h refl; later = html_later b text h }

-- whether a quoted element ends can't be told, so that it is only shown that a first lexeme isn't missing
inside : (b : ℕ) (text : List ℕ) (t : Taken) → taken (b ∷ text) ≡ t → TakenLater (b ∷ text) t → (HasFirst true (b ∷ text) → ⊥) → ⊥
inside b text (Whole kind rest) e l missing = missing (record { kind = kind; rest = rest; first = whole e; later = l })
inside b text (Opening o) e l missing =
    missing (record {
      kind = kinds.Quoted;
      rest = [];
      first = unclosed e (λ other x. missing (record { kind = kinds.Quoted; rest = other; first = closed e x; later = later_on (b ∷ text) o.inside other l (end_tail x) })) refl;
      later = later b text [] (nothing text);
    })

first_not_missing : (in_code : Bool) (b : ℕ) (text : List ℕ) → (HasFirst in_code (b ∷ text) → ⊥) → ⊥
first_not_missing true b text missing = inside b text (taken (b ∷ text)) refl (taken_later b text) missing
first_not_missing false b text missing = missing (outside b text (is_tag (b ∷ text)) refl)

-- ---- all lexemes

record HasCut (in_code : Bool) (text : List ℕ) : Type 0 where
  lexemes : List Lex
  is : IsCutFrom in_code text lexemes

within : (n : ℕ) (in_code : Bool) (text : List ℕ) → length text ≤ n → (HasCut in_code text → ⊥) → ⊥
within n in_code [] le missing = missing (record { lexemes = []; is = end })
within zero in_code (b ∷ text) le missing = absurd (omega (arith, le))
within (suc n) in_code (b ∷ text) le missing = first_not_missing in_code b text (λ f.
    let l = f.later in
    let some = l.some in
    let size : length (b ∷ text) ≡ length l.front + length f.rest = ap length l.is ∙ length-append l.front f.rest in
    within n (is_code_after f.kind) f.rest (omega (arith, le, size, some)) (λ c. missing (record { lexemes = record { kind = f.kind; bytes = l.front } ∷ c.lexemes; is = next l.is some f.first c.is })))

-- No text is without a cut.
pub never_uncut : (text : List ℕ) → ((lexemes : List Lex) → IsCutFrom false text lexemes → ⊥) → ⊥
never_uncut text missing = within (length text) false text (omega arith) (λ c. missing c.lexemes c.is)
