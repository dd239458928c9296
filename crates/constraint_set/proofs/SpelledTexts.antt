-- What the grammar spells is read.
use Rattle.std.proofs.Common.{◌≡◌, ℕ, zero, suc, ◌+◌, ◌-◌, ◌≤◌, Bool, true, false, cond, ltb, List, [], ◌∷◌, ◌++◌, length, take, drop, Option, Some, None, Result, Ok, Err, ◌⊎◌, inl, inr, refl, sym, subst, ap, ◌∙◌, arith, append_assoc}
use Rattle.std.specs.Prelude.{not, ◌&&◌, ◌||◌, ◌==◌, codes}
use Rattle.std.specs.List.{list_all, prefix_len}
use Rattle.std.proofs.Math.Numerals.{one-add}
use Rattle.std.proofs.lemmas.Bool.{false≢true, lt-ltb, eqb-true}
use Rattle.std.proofs.lemmas.List.{append-nil, length-append}
use Rattle.path_name.specs.Bytes.{is_blank}
use Rattle.path_name.specs.Orders.{bytes_are_equal}
use Rattle.version_norm.specs.declared.fault.VersionFault.{VersionFault}
use Rattle.version_norm.specs.declared.version.Version.{Version}
use Rattle.version_norm.specs.Pieces.{without_first}
use Rattle.version_norm.specs.Versions.{trimmed, without_blanks_before}
use Rattle.version_norm.proofs.Read.{same_bytes}
use Rattle.constraint_set.specs.declared.fault.ConstraintFault.{ConstraintFault}
use Rattle.constraint_set.specs.declared.constraint.Operator.{Operator}
use Rattle.constraint_set.specs.declared.constraint.Operator.TheVariants as operators
use Rattle.constraint_set.specs.declared.constraint.Constraint.{Constraint}
use Rattle.constraint_set.specs.declared.part.Part.{Part}
use Rattle.constraint_set.specs.declared.words.Joint.{Joint}
use Rattle.constraint_set.specs.declared.words.Joint.TheVariants as joints
use Rattle.constraint_set.specs.Words.{Form, range, compared, alone, is_in_word, is_bar, word_here, next_word, short_operator_at, if_whole, operator_word, is_dash, form_behind, form_at, joint_here, joint_at, is_alias}
use Rattle.constraint_set.specs.Parts.{form_part, word_part, plain_part, exact_part, compared_part, wildcard_of, bare_word, range_part}
use Rattle.version_norm.specs.Written.{written_numbers_at, classical_form}
use Rattle.version_norm.specs.Versions.{normal_form, unflagged_form, numbered_form, classical_of, version_numbers_at, numbered_branch_of}
use Rattle.version_norm.specs.Pieces.{number_at, part_at as piece_at, branch_part_at, suffix_of, suffix_at, following_within, dev_at_end}
use Rattle.constraint_set.specs.Constraints.{part_from, part_or_missing, part_at, parts_within, parts_of, constraint_of}
use Rattle.constraint_set.specs.Grammar.{IsBlanks, IsGap, IsWord, IsFormOf, word, comparison, span, IsJoint, blanks, comma, bar, IsParts, last, more, IsConstraint, own_version, read_parts}
use Rattle.constraint_set.specs.Faults.{IsUnread}
use Rattle.constraint_set.proofs.Members.{both, IsIn}
use Rattle.constraint_set.proofs.Fronts.{Stops}
use Rattle.constraint_set.proofs.ReadTexts.{form_long}

-- ---- fronts

all_front : (p : ℕ → Bool) (front rest : List ℕ) → list_all p front ≡ true → Stops p rest → prefix_len p (front ++ rest) ≡ length front
all_front p [] [] all stops = refl
all_front p [] (b ∷ bs) all stops = rw stops refl
all_front p (c ∷ cs) rest all stops =
    let h = both (p c) (list_all p cs) all in
    rw (h.0, one-add) (ap suc (all_front p cs rest h.1 stops))

pub take_front : (front rest : List ℕ) → take (length front) (front ++ rest) ≡ front
take_front [] rest = refl
take_front (c ∷ cs) rest = ap (λ (y : List ℕ). c ∷ y) (take_front cs rest)

pub drop_front : (front rest : List ℕ) → drop (length front) (front ++ rest) ≡ rest
drop_front [] rest = refl
drop_front (c ∷ cs) rest = drop_front cs rest

pub word_front : (w rest : List ℕ) → IsWord w → Stops is_in_word rest → word_here (w ++ rest) ≡ Some (w, rest)
word_front w rest is stops =
    let long = all_front is_in_word w rest is.all stops in
    let some : ltb 0 (length w) ≡ true = lt-ltb 0 (length w) is.some in
    rw (long, some, take_front w rest, drop_front w rest) refl

pub blanks_front : (b rest : List ℕ) → IsBlanks b → Stops is_blank rest → without_blanks_before (b ++ rest) ≡ rest
blanks_front b rest blank stops = rw (all_front is_blank b rest blank stops) (drop_front b rest)

pub no_word : (rest : List ℕ) → Stops is_in_word rest → word_here rest ≡ None
no_word [] stops = refl
no_word (b ∷ bs) stops = rw stops refl

-- a word begins with no blank, and a blank with no word
pub word_no_blank : (w rest : List ℕ) → IsWord w → Stops is_blank (w ++ rest)
word_no_blank [] rest is = absurd (let h = is.some in omega arith)
word_no_blank (b ∷ bs) rest is = by (is_blank b) refl is.all
  where
    by : (t : Bool) → is_blank b ≡ t → list_all is_in_word (b ∷ bs) ≡ true → is_blank b ≡ false
    by false e all = e
    by true e all = absurd (false≢true (rw e at (both (is_in_word b) (list_all is_in_word bs) all).0))

blank_no_word : (b : ℕ) → is_blank b ≡ true → is_in_word b ≡ false
blank_no_word b e = rw e refl

gap_stops : (g rest : List ℕ) → IsBlanks g → Stops is_in_word rest → Stops is_in_word (g ++ rest)
gap_stops [] rest blank stops = stops
gap_stops (b ∷ bs) rest blank stops = blank_no_word b (both (is_blank b) (list_all is_blank bs) blank).0

pub long_gap_stops : (g rest : List ℕ) → IsGap g → Stops is_in_word (g ++ rest)
long_gap_stops [] rest is = absurd (let h = is.some in omega arith)
long_gap_stops (b ∷ bs) rest is = blank_no_word b (both (is_blank b) (list_all is_blank bs) is.blank).0

pub next_front : (g w rest : List ℕ) → IsBlanks g → IsWord w → Stops is_in_word rest → next_word (g ++ (w ++ rest)) ≡ Some (w, rest)
next_front g w rest blank is stops = rw (blanks_front g (w ++ rest) blank (word_no_blank w rest is)) (word_front w rest is stops)

-- ---- words that no rule reads

-- a text that is read is none of them
abbrev pub Differs : List ℕ → List ℕ → Type 0
Differs w other = bytes_are_equal w other ≡ false

pub differs : (w other : List ℕ) → (w ≡ other → ⊥) → Differs w other
differs w other apart = by (bytes_are_equal w other) refl
  where
    by : (t : Bool) → bytes_are_equal w other ≡ t → t ≡ false
    by false e = refl
    by true e = absurd (apart (same_bytes w other e))

pub contradicts : (r : Result Part VersionFault) (part : Part) → IsUnread r → r ≡ Ok part → ⊥
contradicts (Ok p) part unread e = unread
contradicts (Err fault) part unread e = absurd cc

dash_alone : IsUnread (form_part (alone (codes "-")))
unfolding word_part plain_part exact_part wildcard_of bare_word written_numbers_at normal_form unflagged_form numbered_form classical_of version_numbers_at numbered_branch_of number_at piece_at branch_part_at suffix_of suffix_at following_within dev_at_end
dash_alone = tt

pub as_alone : IsUnread (form_part (alone (codes "as")))
unfolding word_part plain_part exact_part wildcard_of bare_word written_numbers_at normal_form unflagged_form numbered_form classical_of version_numbers_at numbered_branch_of number_at piece_at branch_part_at suffix_of suffix_at following_within dev_at_end
as_alone = tt

dash_compared : (operator : Operator) → IsUnread (form_part (compared operator (codes "-")))
unfolding compared_part bare_word normal_form unflagged_form numbered_form classical_of version_numbers_at numbered_branch_of number_at piece_at branch_part_at suffix_of suffix_at following_within dev_at_end
dash_compared operator = tt

dash_range : (w : List ℕ) → IsUnread (form_part (range (codes "-") w))
unfolding range_part bare_word classical_form classical_of version_numbers_at number_at
dash_range w = tt

pub as_range : (w : List ℕ) → IsUnread (form_part (range (codes "as") w))
unfolding range_part bare_word classical_form classical_of version_numbers_at number_at
as_range w = tt

-- ---- operators as words are read by no rule

abbrev symbols : List (List ℕ)
symbols = codes "<>" ∷ codes "!=" ∷ codes ">=" ∷ codes "<=" ∷ codes ">" ∷ codes "<" ∷ codes "==" ∷ codes "=" ∷ []

symbol_alone : (w : List ℕ) → IsIn w symbols → IsUnread (form_part (alone w))
unfolding word_part compared_part bare_word normal_form unflagged_form numbered_form classical_of version_numbers_at numbered_branch_of number_at piece_at branch_part_at suffix_of suffix_at following_within dev_at_end
symbol_alone w (inl e) = subst (λ (y : List ℕ). IsUnread (form_part (alone y))) (sym e) tt
symbol_alone w (inr (inl e)) = subst (λ (y : List ℕ). IsUnread (form_part (alone y))) (sym e) tt
symbol_alone w (inr (inr (inl e))) = subst (λ (y : List ℕ). IsUnread (form_part (alone y))) (sym e) tt
symbol_alone w (inr (inr (inr (inl e)))) = subst (λ (y : List ℕ). IsUnread (form_part (alone y))) (sym e) tt
symbol_alone w (inr (inr (inr (inr (inl e))))) = subst (λ (y : List ℕ). IsUnread (form_part (alone y))) (sym e) tt
symbol_alone w (inr (inr (inr (inr (inr (inl e)))))) = subst (λ (y : List ℕ). IsUnread (form_part (alone y))) (sym e) tt
symbol_alone w (inr (inr (inr (inr (inr (inr (inl e))))))) = subst (λ (y : List ℕ). IsUnread (form_part (alone y))) (sym e) tt
symbol_alone w (inr (inr (inr (inr (inr (inr (inr (inl e)))))))) = subst (λ (y : List ℕ). IsUnread (form_part (alone y))) (sym e) tt
symbol_alone w (inr (inr (inr (inr (inr (inr (inr (inr e)))))))) = absurd e

abbrev op : Operator → List ℕ → Option (Operator × List ℕ)
op operator rest = Some (operator, rest)

no_tail : (operator other : Operator) (rest : List ℕ) → if_whole (op operator rest) ≡ Some other → rest ≡ []
no_tail operator other [] e = refl
no_tail operator other (b ∷ bs) e = absurd cc

byte_of : (a n : ℕ) → (a == n) ≡ true → a ≡ n
byte_of a n e = eqb-true a n e

two_bytes : (a b m n : ℕ) (rest : List ℕ) → (a == m && b == n) ≡ true → rest ≡ [] → a ∷ b ∷ rest ≡ m ∷ n ∷ []
two_bytes a b m n rest e none =
    let h = both (a == m) (b == n) e in
    let first = byte_of a m h.0 in
    let second = byte_of b n h.1 in
    cc

symbol_of : (w : List ℕ) (operator : Operator) → operator_word w ≡ Some operator → IsIn w symbols
symbol_of [] operator e = absurd cc
symbol_of (a ∷ []) operator e = by (a == 62) (a == 60) (a == 61) refl refl refl e
  where
    by : (x y z : Bool) → (a == 62) ≡ x → (a == 60) ≡ y → (a == 61) ≡ z → if_whole (cond x (op operators.Greater []) (cond y (op operators.Less []) (cond z (op operators.Equal []) None))) ≡ Some operator → IsIn (a ∷ []) symbols
    by true y z p q r h = inr (inr (inr (inr (inl (ap (λ (c : ℕ). c ∷ []) (byte_of a 62 p))))))
    by false true z p q r h = inr (inr (inr (inr (inr (inl (ap (λ (c : ℕ). c ∷ []) (byte_of a 60 q)))))))
    by false false true p q r h = inr (inr (inr (inr (inr (inr (inr (inl (ap (λ (c : ℕ). c ∷ []) (byte_of a 61 r)))))))))
    by false false false p q r h = absurd cc
symbol_of (a ∷ b ∷ rest) operator e = by (a == 60 && b == 62) (a == 33 && b == 61) (a == 62 && b == 61) (a == 60 && b == 61) (a == 61 && b == 61) refl refl refl refl refl e
  where
    short : (x y z : Bool) → if_whole (cond x (op operators.Greater (b ∷ rest)) (cond y (op operators.Less (b ∷ rest)) (cond z (op operators.Equal (b ∷ rest)) None))) ≡ Some operator → ⊥
    short true y z h = cc
    short false true z h = cc
    short false false true h = cc
    short false false false h = cc

    by : (t u v x y : Bool) → (a == 60 && b == 62) ≡ t → (a == 33 && b == 61) ≡ u → (a == 62 && b == 61) ≡ v → (a == 60 && b == 61) ≡ x → (a == 61 && b == 61) ≡ y
        → if_whole (cond t (op operators.NotEqual rest) (cond u (op operators.NotEqual rest) (cond v (op operators.GreaterOrEqual rest) (cond x (op operators.LessOrEqual rest) (cond y (op operators.Equal rest) (short_operator_at a (b ∷ rest))))))) ≡ Some operator → IsIn (a ∷ b ∷ rest) symbols
    by true u v x y p q r s t h = inl (two_bytes a b 60 62 rest p (no_tail operators.NotEqual operator rest h))
    by false true v x y p q r s t h = inr (inl (two_bytes a b 33 61 rest q (no_tail operators.NotEqual operator rest h)))
    by false false true x y p q r s t h = inr (inr (inl (two_bytes a b 62 61 rest r (no_tail operators.GreaterOrEqual operator rest h))))
    by false false false true y p q r s t h = inr (inr (inr (inl (two_bytes a b 60 61 rest s (no_tail operators.LessOrEqual operator rest h)))))
    by false false false false true p q r s t h = inr (inr (inr (inr (inr (inr (inl (two_bytes a b 61 61 rest t (no_tail operators.Equal operator rest h))))))))
    by false false false false false p q r s t h = absurd (short (a == 62) (a == 60) (a == 61) h)

no_operator : (w : List ℕ) (part : Part) → form_part (alone w) ≡ Ok part → operator_word w ≡ None
no_operator w part e = by (operator_word w) refl
  where
    by : (o : Option Operator) → operator_word w ≡ o → o ≡ None
    by None same = refl
    by (Some operator) same = absurd (contradicts (form_part (alone w)) part (symbol_alone w (symbol_of w operator same)) e)

-- ---- one part

-- what follows a part: no word at once, and next none or one that is no dash
pub record IsTail (tail : List ℕ) : Type 0 where
  pub stops : Stops is_in_word tail
  pub next : (next_word tail ≡ None) ⊎ ((second : List ℕ × List ℕ) × (next_word tail ≡ Some second) × (is_dash second.0 ≡ false))

no_alias : (joint : Joint) (w rest : List ℕ) → Differs w (codes "as") → is_alias joint w rest ≡ false
no_alias joints.First w rest e = refl
no_alias joints.Blanks w rest e = rw e refl
no_alias joints.Comma w rest e = refl
no_alias joints.Bar w rest e = refl

alone_form : (w tail : List ℕ) → operator_word w ≡ None → IsTail tail → form_at w tail ≡ (alone w, tail)
unfolding form_at
alone_form w tail none is = by is.next
  where
    by : (next_word tail ≡ None) ⊎ ((second : List ℕ × List ℕ) × (next_word tail ≡ Some second) × (is_dash second.0 ≡ false)) → form_behind w tail (next_word tail) ≡ (alone w, tail)
    by (inl e) = rw e refl
    by (inr (second, e, no_dash)) = rw (e, no_dash, none) refl

part_ok : Part → List ℕ → Result (Part × List ℕ) ConstraintFault
part_ok part rest = Ok (part, rest)

-- a first word that is no alias, with the form that follows
from_form : (at : ℕ) (joint : Joint) (w rest tail : List ℕ) (form : Form) (part : Part) → Differs w (codes "as") → form_at w rest ≡ (form, tail) → form_part form ≡ Ok part → part_from at joint w rest ≡ Ok (part, tail)
from_form at joint w rest tail form part apart e means = rw (no_alias joint w rest apart, e, means) refl

pub dash_word : IsWord (codes "-")
dash_word = record { some = omega arith; all = refl }

compared_form : (symbol gap w tail : List ℕ) (operator : Operator) → operator_word symbol ≡ Some operator → IsGap gap → IsWord w → IsTail tail → is_dash w ≡ false → form_at symbol (gap ++ (w ++ tail)) ≡ (compared operator w, tail)
unfolding form_at
compared_form symbol gap w tail operator e g also end no_dash = rw (next_front gap w tail g.blank also end.stops, no_dash, e) refl

pub range_form : (v before after w tail : List ℕ) → IsGap before → IsGap after → IsWord w → IsTail tail → form_at v (before ++ (codes "-" ++ (after ++ (w ++ tail)))) ≡ (range v w, tail)
unfolding form_at
range_form v before after w tail g h also end =
    rw (next_front before (codes "-") (after ++ (w ++ tail)) g.blank dash_word (long_gap_stops after (w ++ tail) h), next_front after w tail h.blank also end.stops) refl

words_spelled : (at : ℕ) (joint : Joint) (text tail : List ℕ) (form : Form) (part : Part) → IsFormOf text form → form_part form ≡ Ok part → IsTail tail → part_or_missing at joint (word_here (text ++ tail)) ≡ Ok (part, tail)
words_spelled at joint text tail form part (word {w} is) means end =
    rw (word_front w tail is end.stops) (from_form at joint w tail tail (alone w) part
    (differs w (codes "as") (λ same. contradicts (form_part (alone (codes "as"))) part as_alone (rw same at means)))
    (alone_form w tail (no_operator w part means) end) means)
words_spelled at joint text tail form part (comparison {symbol} {gap} {w} {operator} is e g also) means end =
    let whole : (symbol ++ (gap ++ w)) ++ tail ≡ symbol ++ (gap ++ (w ++ tail)) = simp append_assoc in
    let no_dash : is_dash w ≡ false = differs w (codes "-") (λ same. contradicts (form_part (compared operator (codes "-"))) part (dash_compared operator) (rw same at means)) in
    rw (whole, word_front symbol (gap ++ (w ++ tail)) is (long_gap_stops gap (w ++ tail) g))
    (from_form at joint symbol (gap ++ (w ++ tail)) tail (compared operator w) part (differs symbol (codes "as") (λ same. none_some (rw same at e))) (compared_form symbol gap w tail operator e g also end no_dash) means)
  where
    none_some : operator_word (codes "as") ≡ Some operator → ⊥
    none_some h = cc
words_spelled at joint text tail form part (span {v} {before} {after} {w} is g h also) means end =
    let whole : (v ++ (before ++ (codes "-" ++ (after ++ w)))) ++ tail ≡ v ++ (before ++ (codes "-" ++ (after ++ (w ++ tail)))) = simp append_assoc in
    rw (whole, word_front v (before ++ (codes "-" ++ (after ++ (w ++ tail)))) is (long_gap_stops before (codes "-" ++ (after ++ (w ++ tail))) g))
    (from_form at joint v (before ++ (codes "-" ++ (after ++ (w ++ tail)))) tail (range v w) part
    (differs v (codes "as") (λ same. contradicts (form_part (range (codes "as") w)) part (as_range w) (rw same at means)))
    (range_form v before after w tail g h also end) means)

pub form_no_blank : (text tail : List ℕ) (form : Form) → IsFormOf text form → Stops is_blank (text ++ tail)
form_no_blank text tail form (word {w} is) = word_no_blank w tail is
form_no_blank text tail form (comparison {symbol} {gap} {w} is e g also) = rw (append_assoc symbol (gap ++ w) tail) (word_no_blank symbol ((gap ++ w) ++ tail) is)
form_no_blank text tail form (span {v} {before} {after} {w} is g h also) = rw (append_assoc v (before ++ (codes "-" ++ (after ++ w))) tail) (word_no_blank v ((before ++ (codes "-" ++ (after ++ w))) ++ tail) is)

no_dash_operator : (operator : Operator) → operator_word (codes "-") ≡ Some operator → ⊥
no_dash_operator operator e = cc

pub blank_no_bar : (byte : ℕ) → is_blank byte ≡ true → is_bar byte ≡ false
blank_no_bar byte e = by (is_bar byte) refl
  where
    by : (t : Bool) → is_bar byte ≡ t → t ≡ false
    by false h = refl
    by true h = let is : byte ≡ 124 = eqb-true byte 124 h in absurd (false≢true (rw is at e))

-- the part behind blanks
part_spelled : (whole : ℕ) (joint : Joint) (before text tail : List ℕ) (form : Form) (part : Part) → IsBlanks before → IsFormOf text form → form_part form ≡ Ok part → IsTail tail → part_at whole joint (before ++ (text ++ tail)) ≡ Ok (part, tail)
unfolding part_at
part_spelled whole joint before text tail form part blank is means end =
    rw (blanks_front before (text ++ tail) blank (form_no_blank text tail form is)) (words_spelled (whole - length (text ++ tail)) joint text tail form part is means end)

-- ---- the first word of parts

pub record First (rest : List ℕ) : Type 0 where
  pub word : List ℕ
  pub after : List ℕ
  pub whole : rest ≡ word ++ after
  pub is : IsWord word
  pub stops : Stops is_in_word after
  pub no_dash : is_dash word ≡ false

first_of_form : (text tail : List ℕ) (form : Form) (part : Part) → IsFormOf text form → form_part form ≡ Ok part → Stops is_in_word tail → First (text ++ tail)
first_of_form text tail form part (word {w} is) means stops =
    record { word = w; after = tail; whole = refl; is = is; stops = stops; no_dash = differs w (codes "-") (λ same. contradicts (form_part (alone (codes "-"))) part dash_alone (rw same at means)) }
first_of_form text tail form part (comparison {symbol} {gap} {w} {operator} is e g also) means stops =
    let no_dash : is_dash symbol ≡ false = differs symbol (codes "-") (λ same. no_dash_operator operator (rw same at e)) in
    record { word = symbol; after = gap ++ (w ++ tail); whole = simp append_assoc; is = is; stops = long_gap_stops gap (w ++ tail) g; no_dash = no_dash }
first_of_form text tail form part (span {v} {before} {after} {w} is g h also) means stops =
    let no_dash : is_dash v ≡ false = differs v (codes "-") (λ same. contradicts (form_part (range (codes "-") w)) part (dash_range w) (rw same at means)) in
    record { word = v; after = before ++ (codes "-" ++ (after ++ (w ++ tail))); whole = simp append_assoc; is = is; stops = long_gap_stops before (codes "-" ++ (after ++ (w ++ tail))) g; no_dash = no_dash }

blanks_stop : (end : List ℕ) → IsBlanks end → Stops is_in_word end
blanks_stop [] blank = tt
blanks_stop (b ∷ bs) blank = blank_no_word b (both (is_blank b) (list_all is_blank bs) blank).0

pub joint_stops : (between rest : List ℕ) (joint : Joint) → IsJoint between joint → Stops is_in_word (between ++ rest)
joint_stops between rest joint (blanks {gap} g) = long_gap_stops gap rest g
joint_stops between rest joint (comma before after x y) = rw (append_assoc before (codes "," ++ after) rest) (gap_stops before ((codes "," ++ after) ++ rest) x refl)
joint_stops between rest joint (bar before mark after x (inl m) y) = rw (m, append_assoc before (codes "|" ++ after) rest) (gap_stops before ((codes "|" ++ after) ++ rest) x refl)
joint_stops between rest joint (bar before mark after x (inr m) y) = rw (m, append_assoc before (codes "||" ++ after) rest) (gap_stops before ((codes "||" ++ after) ++ rest) x refl)

first_of : (joint : Joint) (rest : List ℕ) (parts : List (Joint × Part)) → IsParts joint rest parts → First rest
first_of joint rest parts (last {text = text} {form = form} {part = part} end is means blank) = first_of_form text end form part is means (blanks_stop end blank)
first_of joint rest parts (more {next = next} {text = text} {between = between} {rest = others} {form = form} {part = part} is means joined are) =
    first_of_form text (between ++ others) form part is means (joint_stops between others next joined)

-- ---- what comes behind a part

end_blank : (end : List ℕ) → IsBlanks end → without_blanks_before end ≡ []
end_blank end blank = ap without_blanks_before (sym (append-nil end)) ∙ blanks_front end [] blank tt

pub end_tail : (end : List ℕ) → IsBlanks end → IsTail end
end_tail end blank = record { stops = blanks_stop end blank; next = inl (rw (end_blank end blank) refl) }

end_joint : (end : List ℕ) → IsBlanks end → joint_at end ≡ None
end_joint end blank = rw (end_blank end blank) refl

-- what joins two parts, read behind the first: the joint, and the blanks before the second
pub record Joined (between rest : List ℕ) (joint : Joint) : Type 0 where
  pub left : List ℕ
  pub blank : IsBlanks left
  pub short : length left ≤ length between
  pub reads : joint_at (between ++ rest) ≡ Some (joint, left ++ rest)
  pub tail : IsTail (between ++ rest)

no_mark : (byte : ℕ) → is_in_word byte ≡ true → ((byte == 44) ≡ false) × (is_bar byte ≡ false)
no_mark byte e = by (is_blank byte) (byte == 44) (is_bar byte) e
  where
    by : (x y z : Bool) → not (x || y || z) ≡ true → (y ≡ false) × (z ≡ false)
    by true y z h = absurd cc
    by false true z h = absurd cc
    by false false true h = absurd cc
    by false false false h = (refl, refl)

word_joint : (w rest : List ℕ) → IsWord w → joint_here (w ++ rest) ≡ Some (joints.Blanks, w ++ rest)
word_joint [] rest is = absurd (let h = is.some in omega arith)
word_joint (b ∷ bs) rest is = let h = no_mark b (both (is_in_word b) (list_all is_in_word bs) is.all).0 in rw (h.0, h.1) refl

pub no_bar_front : (after w rest : List ℕ) → IsBlanks after → IsWord w → without_first is_bar (after ++ (w ++ rest)) ≡ after ++ (w ++ rest)
no_bar_front [] [] rest blank is = absurd (let h = is.some in omega arith)
no_bar_front [] (b ∷ bs) rest blank is = let h = no_mark b (both (is_in_word b) (list_all is_in_word bs) is.all).0 in rw h.1 refl
no_bar_front (c ∷ cs) w rest blank is = rw (blank_no_bar c (both (is_blank c) (list_all is_blank cs) blank).0) refl

pub joined_reads : (between rest : List ℕ) (joint : Joint) → IsJoint between joint → First rest → Joined between rest joint
joined_reads between rest joint (blanks {gap} g) first =
    let front : without_blanks_before (gap ++ rest) ≡ rest = rw first.whole (blanks_front gap (first.word ++ first.after) g.blank (word_no_blank first.word first.after first.is)) in
    record {
      left = [];
      blank = refl;
      short = omega arith;
      reads = rw front (rw first.whole (word_joint first.word first.after first.is));
      tail = record {
        stops = long_gap_stops gap rest g;
        next = inr ((first.word, first.after), rw (front, first.whole) (word_front first.word first.after first.is first.stops), first.no_dash);
      };
    }
joined_reads between rest joint (comma before after x y) first =
    let whole : (before ++ (codes "," ++ after)) ++ rest ≡ before ++ (44 ∷ (after ++ rest)) = append_assoc before (codes "," ++ after) rest in
    let front : without_blanks_before ((before ++ (codes "," ++ after)) ++ rest) ≡ 44 ∷ (after ++ rest) = rw whole (blanks_front before (44 ∷ (after ++ rest)) x refl) in
    record {
      left = after;
      blank = y;
      short = omega (arith, length-append before (codes "," ++ after));
      reads = rw front refl;
      tail = record { stops = joint_stops (before ++ (codes "," ++ after)) rest joints.Comma (comma before after x y); next = inl (rw front refl) };
    }
joined_reads between rest joint (bar before mark after x (inl m) y) first =
    let whole : (before ++ (mark ++ after)) ++ rest ≡ before ++ (124 ∷ (after ++ rest)) = rw m (append_assoc before (codes "|" ++ after) rest) in
    let front : without_blanks_before ((before ++ (mark ++ after)) ++ rest) ≡ 124 ∷ (after ++ rest) = rw whole (blanks_front before (124 ∷ (after ++ rest)) x refl) in
    let kept : without_first is_bar (after ++ rest) ≡ after ++ rest = rw first.whole (no_bar_front after first.word first.after y first.is) in
    record {
      left = after;
      blank = y;
      short = omega (arith, length-append before (mark ++ after), length-append mark after);
      reads = rw (front, kept) refl;
      tail = record { stops = joint_stops (before ++ (mark ++ after)) rest joints.Bar (bar before mark after x (inl m) y); next = inl (rw front refl) };
    }
joined_reads between rest joint (bar before mark after x (inr m) y) first =
    let whole : (before ++ (mark ++ after)) ++ rest ≡ before ++ (124 ∷ 124 ∷ (after ++ rest)) = rw m (append_assoc before (codes "||" ++ after) rest) in
    let front : without_blanks_before ((before ++ (mark ++ after)) ++ rest) ≡ 124 ∷ 124 ∷ (after ++ rest) = rw whole (blanks_front before (124 ∷ 124 ∷ (after ++ rest)) x refl) in
    record {
      left = after;
      blank = y;
      short = omega (arith, length-append before (mark ++ after), length-append mark after);
      reads = rw front refl;
      tail = record { stops = joint_stops (before ++ (mark ++ after)) rest joints.Bar (bar before mark after x (inr m) y); next = inl (rw front refl) };
    }

-- ---- all parts

parts_spelled : (most whole : ℕ) (joint : Joint) (before rest : List ℕ) (parts : List (Joint × Part)) → IsBlanks before → IsParts joint rest parts → length (before ++ rest) + 1 ≤ most → parts_within most whole (Some (joint, before ++ rest)) ≡ Ok parts
unfolding parts_within
parts_spelled zero whole joint before rest parts blank are enough = absurd (omega arith)
parts_spelled (suc most) whole joint before rest parts blank (last {text = text} {form = form} {part = part} end is means tail) enough =
    rw (part_spelled whole joint before text end form part blank is means (end_tail end tail), end_joint end tail) refl
parts_spelled (suc most) whole joint before rest parts blank (more {next = next} {text = text} {between = between} {rest = others} {form = form} {part = part} {parts = later} is means joined are) enough =
    let read = joined_reads between others next joined (first_of next others later are) in
    let shorter : length (read.left ++ others) + 1 ≤ most = omega (arith, length-append before (text ++ (between ++ others)), length-append text (between ++ others), length-append between others, length-append read.left others, form_long text form is, read.short) in
    rw (part_spelled whole joint before text (between ++ others) form part blank is means read.tail, read.reads, parts_spelled most whole next read.left others later read.blank are shorter) refl

pub text_spelled : (text : List ℕ) (own : Version) (c : Constraint) → IsConstraint text own c → constraint_of text own ≡ Ok c
unfolding constraint_of parts_of
text_spelled text own c (own_version same) = rw same refl
text_spelled text own c (read_parts {rest = rest} {parts = parts} before other blank are) =
    rw (differs (trimmed (before ++ rest)) (codes "self.version") other, parts_spelled (length (before ++ rest) + 1) (length (before ++ rest)) joints.First before rest parts blank are (omega arith)) refl
