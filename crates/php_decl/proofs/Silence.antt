-- Where no declaring word can stand, nothing is declared.
use Rattle.std.proofs.Common.{◌≡◌, ℕ, ◌+◌, Bool, true, false, ◌&&◌, ◌||◌, List, [], ◌∷◌, ◌++◌, length, take, drop, Option, Some, None, refl, sym, ap, ◌∙◌}
use Rattle.std.specs.Prelude.{not, codes, if◌then◌else◌}
use Rattle.std.specs.Cmp.Lexicographic.{bytes_decides}
use Rattle.std.proofs.lemmas.List.{take_at, drop_at, drop-drop, length-map}
use Rattle.path_name.specs.Bytes.{lower, lowered}
use Rattle.php_lex.specs.declared.lexeme.LexKind.{LexKind}
use Rattle.php_lex.specs.declared.lexeme.LexKind.TheVariants as kinds
use Rattle.php_lex.specs.Places.{has_first}
use Rattle.php_lex.specs.Lexemes.{Whole, taken}
use Rattle.php_lex.specs.Cut.{Lex, First, open_tag, html, whole, closed, unclosed, is_code_after, IsCutFrom, end, next}
use Rattle.php_decl.specs.Declarations.{is_skipped, solid, Stand, stands_after, follows_member, is_keyword, is_declaring, identifier_of, declared_by, namespace_after, is_halted_after, in_namespace, declared_at, declared_from}
use Rattle.php_decl.specs.Words.{equals_word}
use Rattle.php_decl.specs.Quiet.{is_gap, stands_at, can_declare, IsQuiet}
use Rattle.php_decl.proofs.Solids.{solid_skips, solid_keeps}
use Rattle.php_decl.proofs.Gaps.{identifier_stops, gap_behind}

not_true : (b : Bool) → (b ≡ true → ⊥) → b ≡ false
not_true true h = absurd (h refl)
not_true false h = refl

apart : {b : Bool} → b ≡ true → b ≡ false → ⊥
apart f g = cc

both_true : (a b : Bool) → a ≡ true → b ≡ true → a && b ≡ true
both_true a b e f = rw (e, f) refl

or_left : (a b : Bool) → a || b ≡ false → a ≡ false
or_left true b h = absurd cc
or_left false b h = refl

or_right : (a b : Bool) → a || b ≡ false → b ≡ false
or_right true b h = absurd cc
or_right false b h = h

none_of : (a b c d : Bool) → a ≡ false → b ≡ false → c ≡ false → d ≡ false → a || (b || (c || d)) ≡ false
none_of a b c d e f g h = rw (e, f, g, h) refl

-- ---- a word with a gap behind it

stands_word : (w text bytes r : List ℕ) → text ≡ bytes ++ r → equals_word w bytes ≡ true → has_first is_gap r ≡ true → stands_at w text ≡ true
stands_word w text bytes r e h g =
    let low : lowered bytes ≡ w = (bytes_decides (lowered bytes) w).0 h in
    let size : length bytes ≡ length w = sym (length-map bytes lower) ∙ ap length low in
    let front : take (length w) text ≡ bytes = ap (take (length w)) e ∙ take_at bytes r (length w) size in
    let back : drop (length w) text ≡ r = ap (drop (length w)) e ∙ drop_at bytes r (length w) size in
    both_true (equals_word w (take (length w) text)) (has_first is_gap (drop (length w) text)) (ap (equals_word w) front ∙ h) (ap (has_first is_gap) back ∙ g)

word_part : (p q n : Bool) → (p && q) && n ≡ true → q ≡ true
word_part true true n h = refl
word_part true false n h = absurd cc
word_part false q n h = absurd cc

-- ---- a lone identifier

first_plain : {c : Bool} {text r : List ℕ} {k : LexKind} → First c text k r → k ≡ kinds.Plain → taken text ≡ Whole k r
first_plain (open_tag h e) g = absurd cc
first_plain (html h e) g = absurd cc
first_plain (whole p) g = p
first_plain (closed p x) g = absurd cc
first_plain (unclosed p x e) g = absurd cc

module _ (c : Bool) (text bytes r : List ℕ) (more : List Lex) (previous : Option Lex) (parts : text ≡ bytes ++ r) (first : First c text kinds.Plain r) (cut : IsCutFrom true r more)
    (quiet : can_declare text ≡ false) where
  abbrev here : Stand
  here = record { previous = previous; here = record { kind = kinds.Plain; bytes = bytes }; behind = solid more }

  no_word : (name : List ℕ) → identifier_of (solid more) ≡ Some name → (w : List ℕ) → stands_at w text ≡ false → is_keyword w here ≡ false
  no_word name e w stays =
      not_true (is_keyword w here) (λ h.
      let g = gap_behind r more name (identifier_stops text r (first_plain first refl)) cut e in
      apart (stands_word w text bytes r parts (word_part true (equals_word w bytes) (not (follows_member previous)) h) g) stays)

  not_declaring : (name : List ℕ) → identifier_of (solid more) ≡ Some name → is_declaring here ≡ false
  not_declaring name e =
      let a = stands_at (codes "class") text in
      let b = stands_at (codes "interface") text in
      let d = stands_at (codes "trait") text in
      let m = stands_at (codes "enum") text in
      let later = or_right a (b || (d || m)) quiet in
      let last = or_right b (d || m) later in
      none_of (is_keyword (codes "class") here) (is_keyword (codes "interface") here) (is_keyword (codes "trait") here) (is_keyword (codes "enum") here)
      (no_word name e (codes "class") (or_left a (b || (d || m)) quiet)) (no_word name e (codes "interface") (or_left b (d || m) later)) (no_word name e (codes "trait") (or_left d m last)) (no_word name e (codes "enum") (or_right d m last))

  by_identifier : (d : Bool) (o : Option (List ℕ)) → ((name : List ℕ) → o ≡ Some name → d ≡ false) → (if d then o else None) ≡ None
  by_identifier true None f = refl
  by_identifier true (Some name) f = absurd (apart refl (f name refl))
  by_identifier false o f = refl

  plain_silent : declared_by here ≡ None
  plain_silent = by_identifier (is_declaring here) (identifier_of (solid more)) not_declaring

silent : (c : Bool) (text bytes r : List ℕ) (k : LexKind) (more : List Lex) (previous : Option Lex) → text ≡ bytes ++ r → First c text k r → IsCutFrom (is_code_after k) r more → can_declare text ≡ false
    → declared_by (record { previous = previous; here = record { kind = k; bytes = bytes }; behind = solid more }) ≡ None
silent c text bytes r kinds.Plain more previous e f x q = plain_silent c text bytes r more previous e f x q
silent c text bytes r k more previous e f x q = refl

-- ---- all lexemes

quiet_rest : (text bytes r : List ℕ) → text ≡ bytes ++ r → IsQuiet text → IsQuiet r
quiet_rest text bytes r e q =
    let back : drop (length bytes) text ≡ r = ap (drop (length bytes)) e ∙ drop_at bytes r (length bytes) refl in
    λ j. ap can_declare (ap (drop j) (sym back) ∙ drop-drop j (length bytes) text) ∙ q (length bytes + j)

nothing_here : (earlier : List Stand) (s : Stand) → declared_by s ≡ None → declared_at earlier s ≡ []
nothing_here earlier s e = none (is_halted_after earlier) (declared_by s) e where
  none : (h : Bool) (o : Option (List ℕ)) → o ≡ None → (if h then [] else in_namespace (namespace_after earlier) o) ≡ []
  none true o f = refl
  none false o f = ap (in_namespace (namespace_after earlier)) f

step : (l : Lex) (xs : List Lex) (earlier : List Stand) (previous : Option Lex) → ((before : List Stand) (last : Option Lex) → declared_from before (stands_after last (solid xs)) ≡ [])
    → declared_by (record { previous = previous; here = l; behind = solid xs }) ≡ None → (v : Bool) → is_skipped l.kind ≡ v → declared_from earlier (stands_after previous (solid (l ∷ xs))) ≡ []
step l xs earlier previous rest none true h = ap (λ (z : List Lex). declared_from earlier (stands_after previous z)) (solid_skips l xs h) ∙ rest earlier previous
step l xs earlier previous rest none false h =
    let s : Stand = record { previous = previous; here = l; behind = solid xs } in
    ap (λ (z : List Lex). declared_from earlier (stands_after previous z)) (solid_keeps l xs h)
    ∙ ap (λ (z : List (List ℕ)). z ++ declared_from (s ∷ earlier) (stands_after (Some l) (solid xs))) (nothing_here earlier s none)
    ∙ rest (s ∷ earlier) (Some l)

pub silence : {c : Bool} {text : List ℕ} {xs : List Lex} → IsCutFrom c text xs → IsQuiet text → (earlier : List Stand) (previous : Option Lex) → declared_from earlier (stands_after previous (solid xs)) ≡ []
silence end q earlier previous = refl
silence {c} {text} (next {kind = k} {bytes = b} {rest = r} {lexemes = xs} e lt f x) q earlier previous =
    step (record { kind = k; bytes = b }) xs earlier previous (λ before last. silence x (quiet_rest text b r e q) before last) (silent c text b r k xs previous e f x (q 0)) (is_skipped k) refl
