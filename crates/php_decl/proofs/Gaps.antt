-- What blanks, comments and lone identifiers begin with, and what stands behind a lone identifier that declares.
use Rattle.std.proofs.Common.{◌≡◌, ℕ, Bool, true, false, ◌&&◌, ◌||◌, ◌==◌, List, [], ◌∷◌, drop, Option, Some, None, refl, ap, ◌∙◌}
use Rattle.std.specs.Prelude.{codes, if◌then◌else◌}
use Rattle.path_name.specs.Bytes.{is_blank, is_digit, starts_identifier, continues_identifier}
use Rattle.php_lex.specs.declared.lexeme.LexKind.{LexKind}
use Rattle.php_lex.specs.declared.lexeme.LexKind.TheVariants as kinds
use Rattle.php_lex.specs.Places.{begins_with, has_first, after_run}
use Rattle.php_lex.specs.Comments.{is_close_tag, comment}
use Rattle.php_lex.specs.Quotes.{Opened, quoted}
use Rattle.php_lex.specs.Lexemes.{Taken, Whole, Opening, joins, after_name, named, sign, word, comment_or, quoted_or, taken}
use Rattle.php_lex.specs.Cut.{Lex, First, whole, closed, unclosed, IsCutFrom, end, next}
use Rattle.php_lex.proofs.Wholes.{starts_run}
use Rattle.php_decl.specs.Declarations.{is_skipped, solid, identifier_of}
use Rattle.php_decl.specs.Quiet.{is_gap}

-- ---- blanks and comments begin with a gap's bytes

abbrev is_gap_taken : Taken → Bool
is_gap_taken (Whole kind rest) = is_skipped kind
is_gap_taken (Opening o) = false

named_by : (b : Bool) (x r : List ℕ) → is_gap_taken (if b then Whole kinds.Qualified x else Whole kinds.Plain r) ≡ false
named_by true x r = refl
named_by false x r = refl

sign_by : (m n : Bool) (x y z : List ℕ) → is_gap_taken (if m then Whole kinds.Member x else (if n then Whole kinds.Member y else Whole kinds.Mark z)) ≡ false
sign_by true n x y z = refl
sign_by false true x y z = refl
sign_by false false x y z = refl

word_by : (v s j d : Bool) (x y z : List ℕ) (n g : Taken) → is_gap_taken n ≡ false → is_gap_taken g ≡ false
    → is_gap_taken (if v then Whole kinds.Variable x else (if s then n else (if j then Whole kinds.Qualified y else (if d then Whole kinds.Number z else g)))) ≡ false
word_by true s j d x y z n g e f = refl
word_by false true j d x y z n g e f = e
word_by false false true d x y z n g e f = refl
word_by false false false true x y z n g e f = refl
word_by false false false false x y z n g e f = f

word_gap : (text : List ℕ) → is_gap_taken (word text) ≡ false
word_gap text =
    word_by (has_first (λ b. b == 36) text && has_first starts_identifier (drop 1 text)) (has_first starts_identifier text) (joins text) (has_first is_digit text)
    (after_run continues_identifier (drop 1 text)) (after_name (drop 1 text)) (after_run continues_identifier text) (named (after_run continues_identifier text)) (sign text)
    (named_by (joins (after_run continues_identifier text)) (after_name (after_run continues_identifier text)) (after_run continues_identifier text))
    (sign_by (begins_with (codes "::") text || begins_with (codes "->") text) (begins_with (codes "?->") text) (drop 2 text) (drop 3 text) (drop 1 text))

blank_gap : (text : List ℕ) → has_first is_blank text ≡ true → has_first is_gap text ≡ true
blank_gap [] h = absurd cc
blank_gap (b ∷ t) h = rw h refl

slash : (k p q u v w : Bool) (x y z : List ℕ) → (if (p && u) || (q && v) then Some x else (if p && w then Some y else None)) ≡ Some z → k || (p || q) ≡ true
slash true p q u v w x y z e = refl
slash false true q u v w x y z e = refl
slash false false true u v w x y z e = refl
slash false false false u v w x y z e = absurd cc

comment_gap : (text x : List ℕ) → comment text ≡ Some x → has_first is_gap text ≡ true
comment_gap [] x e = absurd cc
comment_gap (b ∷ t) x e = slash (is_blank b) (b == 47) (b == 35) _ _ _ _ _ x e

gap_by : (a b : Bool) (x y : List ℕ) (c : Option (List ℕ)) (q : Option Opened) (w : Taken) (t : Bool) → (a ≡ true → t ≡ true) → ((z : List ℕ) → c ≡ Some z → t ≡ true) → is_gap_taken w ≡ false
    → is_gap_taken (if a then Whole kinds.Blank x else (if b then Whole kinds.Close y else comment_or c (quoted_or q w))) ≡ true → t ≡ true
gap_by true b x y c q w t f g n e = f refl
gap_by false true x y c q w t f g n e = absurd cc
gap_by false false x y (Some z) q w t f g n e = g z refl
gap_by false false x y None (Some o) w t f g n e = absurd cc
gap_by false false x y None None w t f g n e = absurd cc

taken_gap : (text : List ℕ) → is_gap_taken (taken text) ≡ true → has_first is_gap text ≡ true
unfolding taken
taken_gap text e =
    gap_by (has_first is_blank text) (is_close_tag text) (after_run is_blank text) (drop 2 text) (comment text) (quoted text) (word text) (has_first is_gap text) (blank_gap text) (comment_gap text) (word_gap text) e

-- ---- lone identifiers

named_rest : (b : Bool) (x n r : List ℕ) → (if b then Whole kinds.Qualified x else Whole kinds.Plain n) ≡ Whole kinds.Plain r → r ≡ n
named_rest true x n r e = absurd cc
named_rest false x n r e = cc

sign_other : (m n : Bool) (x y z r : List ℕ) → (if m then Whole kinds.Member x else (if n then Whole kinds.Member y else Whole kinds.Mark z)) ≡ Whole kinds.Plain r → ⊥
sign_other true n x y z r e = cc
sign_other false true x y z r e = cc
sign_other false false x y z r e = cc

plain_by : (v s j d : Bool) (x y z n r : List ℕ) (g : Taken) → (g ≡ Whole kinds.Plain r → ⊥)
    → (if v then Whole kinds.Variable x else (if s then named n else (if j then Whole kinds.Qualified y else (if d then Whole kinds.Number z else g)))) ≡ Whole kinds.Plain r → (s ≡ true) × (r ≡ n)
plain_by true s j d x y z n r g other e = absurd cc
plain_by false true j d x y z n r g other e = (refl, named_rest (joins n) (after_name n) n r e)
plain_by false false true d x y z n r g other e = absurd cc
plain_by false false false true x y z n r g other e = absurd cc
plain_by false false false false x y z n r g other e = absurd (other e)

plain_word : (text r : List ℕ) → word text ≡ Whole kinds.Plain r → (has_first starts_identifier text ≡ true) × (r ≡ after_run continues_identifier text)
plain_word text r e =
    plain_by (has_first (λ b. b == 36) text && has_first starts_identifier (drop 1 text)) (has_first starts_identifier text) (joins text) (has_first is_digit text)
    (after_run continues_identifier (drop 1 text)) (after_name (drop 1 text)) (after_run continues_identifier text) (after_run continues_identifier text) r (sign text)
    (sign_other (begins_with (codes "::") text || begins_with (codes "->") text) (begins_with (codes "?->") text) (drop 2 text) (drop 3 text) (drop 1 text) r) e

only_word : (a b : Bool) (x y r : List ℕ) (c : Option (List ℕ)) (q : Option Opened) (w : Taken)
    → (if a then Whole kinds.Blank x else (if b then Whole kinds.Close y else comment_or c (quoted_or q w))) ≡ Whole kinds.Plain r → w ≡ Whole kinds.Plain r
only_word true b x y r c q w e = absurd cc
only_word false true x y r c q w e = absurd cc
only_word false false x y r (Some z) q w e = absurd cc
only_word false false x y r None (Some o) w e = absurd cc
only_word false false x y r None None w e = e

pub plain_taken : (text r : List ℕ) → taken text ≡ Whole kinds.Plain r → (has_first starts_identifier text ≡ true) × (r ≡ after_run continues_identifier text)
unfolding taken
plain_taken text r e = plain_word text r (only_word (has_first is_blank text) (is_close_tag text) (after_run is_blank text) (drop 2 text) r (comment text) (quoted text) (word text) e)

stops_by : (test : ℕ → Bool) (b : ℕ) (t : List ℕ) (v : Bool) → has_first test (after_run test t) ≡ false → test b ≡ v → has_first test (if v then after_run test t else b ∷ t) ≡ false
stops_by test b t true h e = h
stops_by test b t false h e = e

run_stops : (test : ℕ → Bool) (text : List ℕ) → has_first test (after_run test text) ≡ false
run_stops test [] = refl
run_stops test (b ∷ t) = stops_by test b t (test b) (run_stops test t) refl

pub identifier_stops : (text r : List ℕ) → taken text ≡ Whole kinds.Plain r → has_first continues_identifier r ≡ false
identifier_stops text r e = ap (has_first continues_identifier) (plain_taken text r e).1 ∙ run_stops continues_identifier text

-- ---- behind a lone identifier that stands before another one

both : {b : Bool} → b ≡ true → b ≡ false → ⊥
both f g = cc

by_kind : (r : List ℕ) (k : LexKind) (b s : List ℕ) (xs : List Lex) (name : List ℕ) → has_first continues_identifier r ≡ false → taken r ≡ Whole k s
    → identifier_of (solid (record { kind = k; bytes = b } ∷ xs)) ≡ Some name → has_first is_gap r ≡ true
by_kind r kinds.Blank b s xs name stays p e = taken_gap r (ap is_gap_taken p)
by_kind r kinds.Comment b s xs name stays p e = taken_gap r (ap is_gap_taken p)
by_kind r kinds.Plain b s xs name stays p e = absurd (both (starts_run r (plain_taken r s p).0) stays)
by_kind r k b s xs name stays p e = absurd cc

by_first : (r : List ℕ) {k : LexKind} (b : List ℕ) {s : List ℕ} (xs : List Lex) (name : List ℕ) → has_first continues_identifier r ≡ false → First true r k s
    → identifier_of (solid (record { kind = k; bytes = b } ∷ xs)) ≡ Some name → has_first is_gap r ≡ true
by_first r {k} b {s} xs name stays (whole p) e = by_kind r k b s xs name stays p e
by_first r b xs name stays (closed p x) e = absurd cc
by_first r b xs name stays (unclosed p x y) e = absurd cc

pub gap_behind : (r : List ℕ) (more : List Lex) (name : List ℕ) → has_first continues_identifier r ≡ false → IsCutFrom true r more → identifier_of (solid more) ≡ Some name → has_first is_gap r ≡ true
gap_behind r more name stays end e = absurd cc
gap_behind r more name stays (next {bytes = b} {lexemes = xs} p lt f x) e = by_first r b xs name stays f e
