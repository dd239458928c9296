-- Lexemes that one rule takes whole.
use Rattle.std.proofs.Common.{◌≡◌, ℕ, ◌+◌, ◌-◌, ◌<◌, ◌≤◌, Bool, true, false, ◌&&◌, ◌||◌, ◌==◌, List, [], ◌∷◌, length, get_or, drop, Option, Some, None, refl, sym, ap, subst, ◌∙◌, arith}
use Rattle.std.specs.Prelude.{not}
use Rattle.std.proofs.lemmas.Bool.{eqb-true}
use Rattle.std.proofs.lemmas.List.{drop_more, drop_all, drop-drop, length-drop}
use Rattle.path_name.specs.Bytes.{is_blank, is_digit, starts_identifier, continues_identifier}
use Rattle.php_lex.specs.declared.lexeme.LexKind.{LexKind}
use Rattle.php_lex.specs.declared.lexeme.LexKind.TheVariants as kinds
use Rattle.php_lex.specs.Places.{has_first, after_run}
use Rattle.php_lex.specs.Comments.{is_close_tag, comment}
use Rattle.php_lex.specs.Quotes.{Opened, heredoc, quoted}
use Rattle.php_lex.specs.Lexemes.{Taken, Whole, Opening, joins, continues_name, after_name, named, sign, word, comment_or, quoted_or, taken}
use Rattle.php_lex.specs.Marks.{begins_more, is_mark, begins_word, is_variable}
use Rattle.php_lex.proofs.Firsts.{first_within}

-- ---- runs and names

pub run_step : (test : ℕ → Bool) (text : List ℕ) → has_first test text ≡ true → after_run test text ≡ after_run test (drop 1 text)
run_step test [] h = absurd cc
run_step test (b ∷ t) h = rw h refl

starts_continues : (b : ℕ) → starts_identifier b ≡ true → continues_identifier b ≡ true
starts_continues b h = rw h refl

digit_continues : (a b : Bool) → b ≡ true → a || b ≡ true
digit_continues true b h = refl
digit_continues false b h = h

pub starts_run : (text : List ℕ) → has_first starts_identifier text ≡ true → has_first continues_identifier text ≡ true
starts_run [] h = absurd cc
starts_run (b ∷ t) h = starts_continues b h

pub digit_run : (text : List ℕ) → has_first is_digit text ≡ true → has_first continues_identifier text ≡ true
digit_run [] h = absurd cc
digit_run (b ∷ t) h = digit_continues (starts_identifier b) (is_digit b) h

pub name_more : (text : List ℕ) (i : ℕ) → i < length text → continues_name (drop i text) ≡ true → after_name (drop i text) ≡ after_name (drop (i + 1) text)
name_more text i lt h =
    ap after_name (drop_more text i 0 lt) ∙ on (get_or text i 0) (drop (i + 1) text) (ap continues_name (sym (drop_more text i 0 lt)) ∙ h) where
      on : (b : ℕ) (t : List ℕ) → continues_name (b ∷ t) ≡ true → after_name (b ∷ t) ≡ after_name t
      on b t h = rw h refl

pub name_stops : (text : List ℕ) (i : ℕ) → i < length text → continues_name (drop i text) ≡ false → after_name (drop i text) ≡ drop i text
name_stops text i lt h =
    ap after_name (drop_more text i 0 lt) ∙ stops (get_or text i 0) (drop (i + 1) text) (ap continues_name (sym (drop_more text i 0 lt)) ∙ h) ∙ sym (drop_more text i 0 lt) where
      stops : (b : ℕ) (t : List ℕ) → continues_name (b ∷ t) ≡ false → after_name (b ∷ t) ≡ b ∷ t
      stops b t h = rw h refl

pub name_ends : (text : List ℕ) (i : ℕ) → length text ≤ i → after_name (drop i text) ≡ drop i text
name_ends text i le = ap after_name (drop_all i text le) ∙ sym (drop_all i text le)

-- ---- a length in place of what follows

pub whole_at : (text : List ℕ) (n k : ℕ) (rest after : List ℕ) (kind : LexKind) (w : Taken) → rest ≡ drop n text → n ≤ length text → 0 < n → drop k rest ≡ after → k ≤ length rest → w ≡ Whole kind after
    → (0 < n + k) × (n + k ≤ length text) × (w ≡ Whole kind (drop (n + k) text))
whole_at text n k rest after kind w is le some at within e =
    let size : length rest ≡ length text - n = ap length is ∙ length-drop n text in
    (omega arith, omega arith, e ∙ ap (Whole kind) (sym at ∙ ap (drop k) is ∙ drop-drop k n text))

-- ---- the rules

or_left : (a b : Bool) → a || b ≡ false → a ≡ false
or_left true b h = absurd cc
or_left false b h = refl

or_right : (a b : Bool) → a || b ≡ false → b ≡ false
or_right true b h = absurd cc
or_right false b h = h

not_false : (a : Bool) → not a ≡ true → a ≡ false
not_false true h = absurd cc
not_false false h = refl

pub close_long : (text : List ℕ) → is_close_tag text ≡ true → 2 ≤ length text
close_long [] h = absurd cc
close_long (b ∷ []) h = absurd (neither (b == 63) h) where
  neither : (x : Bool) → x && (false && true) ≡ true → ⊥
  neither true h = cc
  neither false h = cc
close_long (b ∷ c ∷ t) h = omega arith

module _ (text : List ℕ) (other : has_first is_blank text ≡ false) where
  pub taken_close : is_close_tag text ≡ true → taken text ≡ Whole kinds.Close (drop 2 text)
  unfolding taken
  taken_close h = rw (other, h) refl

  module _ (stays : is_close_tag text ≡ false) where
    pub taken_comment : (rest : List ℕ) → comment text ≡ Some rest → taken text ≡ Whole kinds.Comment rest
    unfolding taken
    taken_comment rest h = rw (other, stays) (ap (λ (c : Option (List ℕ)). comment_or c (quoted_or (quoted text) (word text))) h)

    pub taken_quoted : (o : Opened) → comment text ≡ None → quoted text ≡ Some o → taken text ≡ Opening o
    unfolding taken
    taken_quoted o h q = rw (other, stays) (ap (λ (c : Option (List ℕ)). comment_or c (quoted_or (quoted text) (word text))) h ∙ ap (λ (c : Option Opened). quoted_or c (word text)) q)

    pub taken_word : comment text ≡ None → quoted text ≡ None → taken text ≡ word text
    unfolding taken
    taken_word h q = rw (other, stays) (ap (λ (c : Option (List ℕ)). comment_or c (quoted_or (quoted text) (word text))) h ∙ ap (λ (c : Option Opened). quoted_or c (word text)) q)

pub taken_blank : (text : List ℕ) → has_first is_blank text ≡ true → taken text ≡ Whole kinds.Blank (after_run is_blank (drop 1 text))
unfolding taken
taken_blank text h = rw h (ap (Whole kinds.Blank) (run_step is_blank text h))

-- a run whose first byte has been taken
pub run_place : (test : ℕ → Bool) (text rest : List ℕ) (k : ℕ) → has_first test text ≡ true → rest ≡ drop 1 text → drop k rest ≡ after_run test rest → drop (1 + k) text ≡ after_run test text
run_place test text rest k h is at = sym (drop-drop k 1 text) ∙ ap (drop k) (sym is) ∙ at ∙ ap (after_run test) is ∙ sym (run_step test text h)

pub named_plain : (r : List ℕ) → joins r ≡ false → named r ≡ Whole kinds.Plain r
named_plain r h = rw h refl

pub named_qualified : (r : List ℕ) → joins r ≡ true → named r ≡ Whole kinds.Qualified (after_name r)
named_qualified r h = rw h refl

pub word_variable : (text : List ℕ) → has_first (λ b. b == 36) text && has_first starts_identifier (drop 1 text) ≡ true → word text ≡ Whole kinds.Variable (after_run continues_identifier (drop 1 text))
word_variable text h = rw h refl

pub first_long : (p : ℕ → Bool) (text : List ℕ) → has_first p text ≡ true → 1 ≤ length text
first_long p text h = let lt = first_within p 0 text h in omega arith

pub word_name : (text : List ℕ) → has_first (λ b. b == 36) text && has_first starts_identifier (drop 1 text) ≡ false → has_first starts_identifier text ≡ true → word text ≡ named (after_run continues_identifier text)
word_name text g h = rw (g, h) refl

pub word_joined : (text : List ℕ) → has_first (λ b. b == 36) text && has_first starts_identifier (drop 1 text) ≡ false → has_first starts_identifier text ≡ false → joins text ≡ true
    → word text ≡ Whole kinds.Qualified (after_name (drop 1 text))
word_joined text g h j = rw (g, h, j) refl

pub word_number : (text : List ℕ) → has_first (λ b. b == 36) text && has_first starts_identifier (drop 1 text) ≡ false → has_first starts_identifier text ≡ false → joins text ≡ false → has_first is_digit text ≡ true
    → word text ≡ Whole kinds.Number (after_run continues_identifier text)
word_number text g h j d = rw (g, h, j, d) refl

pub word_sign : (text : List ℕ) → has_first (λ b. b == 36) text && has_first starts_identifier (drop 1 text) ≡ false → has_first starts_identifier text ≡ false → joins text ≡ false → has_first is_digit text ≡ false
    → word text ≡ sign text
word_sign text g h j d = rw (g, h, j, d) refl

pub joins_long : (text : List ℕ) → joins text ≡ true → 1 ≤ length text
joins_long [] h = absurd cc
joins_long (b ∷ t) h = omega arith

pub second_long : (a : Bool) (text : List ℕ) → a && has_first starts_identifier (drop 1 text) ≡ true → 1 ≤ length text
second_long true text h = let lt = first_within starts_identifier 1 text h in omega arith
second_long false text h = absurd cc

-- ---- what begins with an identifier, and what begins nothing but a mark

is_no : (test : ℕ → Bool) (b k : ℕ) → test b ≡ true → test k ≡ false → (b == k) ≡ false
is_no test b k h n = differ (b == k) (λ e. both (ap test (sym (eqb-true b k e)) ∙ h) n) where
  both : {x : Bool} → x ≡ true → x ≡ false → ⊥
  both f g = cc

  differ : (x : Bool) → (x ≡ true → ⊥) → x ≡ false
  differ true f = absurd (f refl)
  differ false f = refl

name_is_no_blank : (b : ℕ) → starts_identifier b ≡ true → is_blank b ≡ false
name_is_no_blank b h = rw (is_no starts_identifier b 32 h refl, is_no starts_identifier b 9 h refl, is_no starts_identifier b 10 h refl, is_no starts_identifier b 13 h refl) refl

pub taken_name : (text : List ℕ) → has_first starts_identifier text ≡ true → taken text ≡ named (after_run continues_identifier text)
unfolding taken
taken_name [] h = absurd cc
taken_name (b ∷ t) h =
    rw (name_is_no_blank b h, is_no starts_identifier b 63 h refl, is_no starts_identifier b 47 h refl, is_no starts_identifier b 35 h refl, is_no starts_identifier b 39 h refl, is_no starts_identifier b 34 h refl, is_no starts_identifier b 96 h refl, is_no starts_identifier b 60 h refl, is_no starts_identifier b 36 h refl, h) refl

no_blank_begins : (b : ℕ) → begins_word b ≡ true → is_blank b ≡ false
no_blank_begins b h = rw (is_no begins_word b 32 h refl, is_no begins_word b 9 h refl, is_no begins_word b 10 h refl, is_no begins_word b 13 h refl) refl

pub taken_begun : (text : List ℕ) → has_first begins_word text ≡ true → is_close_tag text ≡ false → taken text ≡ word text
unfolding taken
taken_begun [] h stays = absurd cc
taken_begun (b ∷ t) h stays =
    rw (no_blank_begins b h, stays, is_no begins_word b 47 h refl, is_no begins_word b 35 h refl, is_no begins_word b 39 h refl, is_no begins_word b 34 h refl, is_no begins_word b 96 h refl, is_no begins_word b 60 h refl) refl

dollar_begins : (b : ℕ) (more : Bool) → (b == 36) && more ≡ true → begins_word b ≡ true
dollar_begins b more h = dollar (is_digit b) (b == 36) _ more h where
  dollar : (d e s f : Bool) → e && f ≡ true → d || (e || s) ≡ true
  dollar true e s f h = refl
  dollar false true s f h = refl
  dollar false false s f h = absurd cc

no_close : (b : ℕ) (more : Bool) (t : List ℕ) → (b == 36) && more ≡ true → is_close_tag (b ∷ t) ≡ false
no_close b more t h = rw (is_no (λ (x : ℕ). x == 36) b 63 (first_of_two (b == 36) more h) refl) refl where
  first_of_two : (e f : Bool) → e && f ≡ true → e ≡ true
  first_of_two true f h = refl
  first_of_two false f h = absurd cc

pub taken_variable : (text : List ℕ) → is_variable text ≡ true → taken text ≡ word text
taken_variable [] h = absurd cc
taken_variable (b ∷ t) h = taken_begun (b ∷ t) (dollar_begins b (has_first starts_identifier t) h) (no_close b (has_first starts_identifier t) t h)

pub taken_less : (text : List ℕ) → has_first (λ b. b == 60) text ≡ true → heredoc text ≡ None → taken text ≡ Whole kinds.Mark (drop 1 text)
taken_less [] e h = absurd cc
taken_less (b ∷ t) e h =
    let is : b ≡ 60 = eqb-true b 60 e in
    subst (λ (x : ℕ). taken (x ∷ t) ≡ Whole kinds.Mark t) (sym is) (taken_word (60 ∷ t) refl refl refl (subst (λ (x : ℕ). heredoc (x ∷ t) ≡ None) is h))

pub taken_heredoc : (text : List ℕ) (o : Opened) → has_first (λ b. b == 60) text ≡ true → heredoc text ≡ Some o → taken text ≡ Opening o
taken_heredoc [] o e h = absurd cc
taken_heredoc (b ∷ t) o e h =
    let is : b ≡ 60 = eqb-true b 60 e in
    subst (λ (x : ℕ). taken (x ∷ t) ≡ Opening o) (sym is) (taken_quoted (60 ∷ t) refl refl o refl (subst (λ (x : ℕ). heredoc (x ∷ t) ≡ Some o) is h))

pub taken_mark : (text : List ℕ) → has_first is_mark text ≡ true → taken text ≡ Whole kinds.Mark (drop 1 text)
unfolding taken
taken_mark [] h = absurd cc
taken_mark (b ∷ t) h =
    let all = not_false _ h in
    let no_blank = or_left (is_blank b) _ all in
    let a = or_right (is_blank b) _ all in
    let no_name = or_left (starts_identifier b) _ a in
    let d = or_right (starts_identifier b) _ a in
    let no_digit = or_left (is_digit b) _ d in
    let m = or_right (is_digit b) (begins_more b) d in
    let n1 = or_left (b == 63) _ m in
    let m1 = or_right (b == 63) _ m in
    let n2 = or_left (b == 47) _ m1 in
    let m2 = or_right (b == 47) _ m1 in
    let n3 = or_left (b == 35) _ m2 in
    let m3 = or_right (b == 35) _ m2 in
    let n4 = or_left (b == 39) _ m3 in
    let m4 = or_right (b == 39) _ m3 in
    let n5 = or_left (b == 34) _ m4 in
    let m5 = or_right (b == 34) _ m4 in
    let n6 = or_left (b == 96) _ m5 in
    let m6 = or_right (b == 96) _ m5 in
    let n7 = or_left (b == 60) _ m6 in
    let m7 = or_right (b == 60) _ m6 in
    let n8 = or_left (b == 36) _ m7 in
    let m8 = or_right (b == 36) _ m7 in
    let n9 = or_left (b == 92) _ m8 in
    let m9 = or_right (b == 92) _ m8 in
    let n10 = or_left (b == 58) _ m9 in
    let n11 = or_right (b == 58) _ m9 in
    rw (no_blank, n1, n2, n3, n4, n5, n6, n7, n8, no_name, n9, no_digit, n10, n11) refl
