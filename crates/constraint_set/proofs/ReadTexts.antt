-- What is read is spelled by the grammar.
use Rattle.std.proofs.Common.{◌≡◌, ℕ, zero, suc, ◌+◌, ◌<◌, ◌≤◌, Bool, true, false, cond, List, [], ◌∷◌, ◌++◌, length, Option, Some, None, Result, Ok, Err, refl, sym, subst, ap, ◌∙◌, arith, append_assoc, inl, inr}
use Rattle.std.specs.Prelude.{◌==◌, codes}
use Rattle.std.specs.List.{list_all}
use Rattle.std.proofs.lemmas.Bool.{eqb-true, false≢true}
use Rattle.std.proofs.lemmas.List.{append-nil, length-append}
use Rattle.path_name.specs.Given.{◌>>=◌}
use Rattle.path_name.specs.Bytes.{is_blank}
use Rattle.version_norm.specs.declared.fault.VersionFault.{VersionFault}
use Rattle.version_norm.specs.declared.version.Version.{Version}
use Rattle.version_norm.specs.Pieces.{without_first}
use Rattle.version_norm.specs.Versions.{trimmed, without_blanks_before}
use Rattle.version_norm.proofs.Read.{same_bytes}
use Rattle.constraint_set.specs.declared.fault.ConstraintFault.{ConstraintFault}
use Rattle.constraint_set.specs.declared.fault.ConstraintFault.TheVariants.{InlineAlias}
use Rattle.constraint_set.specs.declared.constraint.Operator.{Operator}
use Rattle.constraint_set.specs.declared.constraint.Constraint.{Constraint}
use Rattle.constraint_set.specs.declared.part.Part.{Part}
use Rattle.constraint_set.specs.declared.words.Joint.{Joint}
use Rattle.constraint_set.specs.declared.words.Joint.TheVariants as joints
use Rattle.constraint_set.specs.Words.{Form, is_in_word, is_bar, word_here, next_word, operator_word, is_dash, operated, dashed, form_behind, form_at, joint_here, joint_at, is_alias}
use Rattle.constraint_set.specs.Parts.{form_part}
use Rattle.constraint_set.specs.Constraints.{place_of, followed_by, part_from, part_or_missing, part_at, parts_within, parts_of, constraint_in, is_self_version, own_constraint, constraint_of}
use Rattle.constraint_set.specs.Grammar.{IsBlanks, IsWord, IsFormOf, word, comparison, span, IsBar, IsJoint, blanks, comma, bar, IsParts, last, more, IsConstraint, own_version, read_parts}
use Rattle.constraint_set.proofs.Members.{both}
use Rattle.constraint_set.proofs.Fronts.{Stops, Trimmed, trimmed_front, word_here_takes, TakesNext, next_word_takes}

-- ---- the form of a part

pub record TakesForm (text : List ℕ) (x : Form × List ℕ) : Type 0 where
  pub words : List ℕ
  pub is : IsFormOf words x.0
  pub whole : text ≡ words ++ x.1
  pub stops : Stops is_in_word x.1

operated_takes : (o : Option Operator) (w rest : List ℕ) (second : List ℕ × List ℕ) → operator_word w ≡ o → IsWord w → Stops is_in_word rest → TakesNext rest second → TakesForm (w ++ rest) (operated o w rest second)
operated_takes None w rest second e is stops next = record { words = w; is = word is; whole = refl; stops = stops }
operated_takes (Some operator) w rest second e is stops next = record {
  words = w ++ (next.gap ++ second.0);
  is = comparison is e next.is_gap next.is;
  whole = ap (λ (y : List ℕ). w ++ y) (next.whole ∙ sym (append_assoc next.gap second.0 second.1)) ∙ sym (append_assoc w (next.gap ++ second.0) second.1);
  stops = next.stops;
}

regroup : (a b c d e : List ℕ) → a ++ (b ++ (c ++ (d ++ e))) ≡ (a ++ (b ++ (c ++ d))) ++ e
regroup a b c d e = simp append_assoc

dashed_takes : (third : Option (List ℕ × List ℕ)) (w rest : List ℕ) (second : List ℕ × List ℕ) → next_word second.1 ≡ third → is_dash second.0 ≡ true → IsWord w → Stops is_in_word rest → TakesNext rest second
    → TakesForm (w ++ rest) (dashed w rest second third)
dashed_takes None w rest second e dash is stops next = operated_takes (operator_word w) w rest second refl is stops next
dashed_takes (Some third) w rest second e dash is stops next =
    let after = next_word_takes second.1 third next.stops e in
    let is_dash_text : second.0 ≡ codes "-" = same_bytes second.0 (codes "-") dash in
    let tail : rest ≡ next.gap ++ (codes "-" ++ (after.gap ++ (third.0 ++ third.1))) = next.whole ∙ ap (λ (y : List ℕ). next.gap ++ (y ++ second.1)) is_dash_text ∙ ap (λ (y : List ℕ). next.gap ++ (codes "-" ++ y)) after.whole in
    record {
      words = w ++ (next.gap ++ (codes "-" ++ (after.gap ++ third.0)));
      is = span is next.is_gap after.is_gap after.is;
      whole = ap (λ (y : List ℕ). w ++ y) tail ∙ long w next.gap (codes "-") after.gap third.0 third.1;
      stops = after.stops;
    }
  where
    long : (a b c d e f : List ℕ) → a ++ (b ++ (c ++ (d ++ (e ++ f)))) ≡ (a ++ (b ++ (c ++ (d ++ e)))) ++ f
    long a b c d e f = simp append_assoc

behind_takes : (second : Option (List ℕ × List ℕ)) (w rest : List ℕ) → next_word rest ≡ second → IsWord w → Stops is_in_word rest → TakesForm (w ++ rest) (form_behind w rest second)
behind_takes None w rest e is stops = record { words = w; is = word is; whole = refl; stops = stops }
behind_takes (Some second) w rest e is stops =
    let next = next_word_takes rest second stops e in
    elim (is_dash second.0) as (λ t. is_dash second.0 ≡ t → TakesForm (w ++ rest) (cond t (dashed w rest second (next_word second.1)) (operated (operator_word w) w rest second))) [
      | true ↦ λ dash. dashed_takes (next_word second.1) w rest second refl dash is stops next
      | false ↦ λ dash. operated_takes (operator_word w) w rest second refl is stops next
    ] refl

pub form_takes : (w rest : List ℕ) → IsWord w → Stops is_in_word rest → TakesForm (w ++ rest) (form_at w rest)
unfolding form_at
form_takes w rest is stops = behind_takes (next_word rest) w rest refl is stops

-- ---- a part

pub record TakesPart (text : List ℕ) (x : Part × List ℕ) : Type 0 where
  pub before : List ℕ
  pub words : List ℕ
  pub form : Form
  pub blank : IsBlanks before
  pub is : IsFormOf words form
  pub means : form_part form ≡ Ok x.0
  pub whole : text ≡ before ++ (words ++ x.1)
  pub stops : Stops is_in_word x.1

abbrev part_read : Part → List ℕ → Result (Part × List ℕ) ConstraintFault
part_read part rest = Ok (part, rest)

same_read : (x y : Part × List ℕ) → ◌≡◌ {A = Result (Part × List ℕ) ConstraintFault} (Ok x) (Ok y) → x ≡ y
same_read x y e = cc

followed_takes : (at : ℕ) (rest : List ℕ) (part : Result Part VersionFault) (x : Part × List ℕ) → followed_by at rest part ≡ Ok x → (part ≡ Ok x.0) × (rest ≡ x.1)
followed_takes at rest (Ok part) x e = let same = same_read (part, rest) x e in (ap (λ (y : Part × List ℕ). Ok y.0) same, ap (λ (y : Part × List ℕ). y.1) same)
followed_takes at rest (Err fault) x e = absurd cc

from_takes : (at : ℕ) (joint : Joint) (w rest : List ℕ) (x : Part × List ℕ) → part_from at joint w rest ≡ Ok x → (form_part (form_at w rest).0 ≡ Ok x.0) × ((form_at w rest).1 ≡ x.1)
from_takes at joint w rest x e =
    elim (is_alias joint w rest) as (λ t. cond t (Err (InlineAlias at)) (followed_by at (form_at w rest).1 (form_part (form_at w rest).0)) ≡ Ok x → (form_part (form_at w rest).0 ≡ Ok x.0) × ((form_at w rest).1 ≡ x.1)) [
      | true ↦ λ h. absurd cc
      | false ↦ λ h. followed_takes at (form_at w rest).1 (form_part (form_at w rest).0) x h
    ] e

part_takes : (whole : ℕ) (joint : Joint) (text : List ℕ) (x : Part × List ℕ) → part_at whole joint text ≡ Ok x → TakesPart text x
unfolding part_at
part_takes whole joint text x e = by (word_here (without_blanks_before text)) refl e
  where
    by : (first : Option (List ℕ × List ℕ)) → word_here (without_blanks_before text) ≡ first → part_or_missing (place_of whole (without_blanks_before text)) joint first ≡ Ok x → TakesPart text x
    by None found h = absurd cc
    by (Some first) found h =
        let cut = trimmed_front text in
        let took = word_here_takes (without_blanks_before text) first found in
        let form = form_takes first.0 first.1 took.is took.stops in
        let read = from_takes (place_of whole (without_blanks_before text)) joint first.0 first.1 x h in
        record {
          before = cut.before;
          words = form.words;
          form = (form_at first.0 first.1).0;
          blank = cut.blank;
          is = form.is;
          means = read.0;
          whole = cut.whole ∙ ap (λ (y : List ℕ). cut.before ++ y) (took.whole ∙ form.whole ∙ ap (λ (y : List ℕ). form.words ++ y) read.1);
          stops = subst (λ (y : List ℕ). Stops is_in_word y) read.1 form.stops;
        }

-- ---- what joins two parts

pub record TakesJoint (text : List ℕ) (x : Joint × List ℕ) : Type 0 where
  pub taken : List ℕ
  pub whole : text ≡ taken ++ x.1
  pub joins : (before : List ℕ) → IsBlanks before → IsJoint (taken ++ before) x.0

pub same_joint : (x y : Joint × List ℕ) → ◌≡◌ {A = Option (Joint × List ℕ)} (Some x) (Some y) → x ≡ y
same_joint x y e = cc

pub blanks_append : (a b : List ℕ) → IsBlanks a → IsBlanks b → IsBlanks (a ++ b)
blanks_append [] b x y = y
blanks_append (c ∷ cs) b x y =
    let h = both (is_blank c) (list_all is_blank cs) x in
    rw (h.0, blanks_append cs b h.1 y) refl

comma_taken : (b after : List ℕ) → IsBlanks b → (before : List ℕ) → IsBlanks before → IsJoint ((b ++ codes ",") ++ before) joints.Comma
comma_taken b after blank before also = subst (λ (y : List ℕ). IsJoint y joints.Comma) (sym (append_assoc b (codes ",") before)) (comma b before blank also)

bar_taken : (b mark : List ℕ) → IsBlanks b → IsBar mark → (before : List ℕ) → IsBlanks before → IsJoint ((b ++ mark) ++ before) joints.Bar
bar_taken b mark blank is before also = subst (λ (y : List ℕ). IsJoint y joints.Bar) (sym (append_assoc b mark before)) (bar b mark before blank is also)

-- one bar, or two
abbrev Barred : List ℕ → Type 0
Barred rest = (mark : List ℕ) × IsBar mark × (124 ∷ rest ≡ mark ++ without_first is_bar rest)

barred : (rest : List ℕ) → Barred rest
barred [] = (codes "|", inl refl, refl)
barred (b ∷ bs) =
    elim (is_bar b) as (λ t. is_bar b ≡ t → (mark : List ℕ) × IsBar mark × (124 ∷ b ∷ bs ≡ mark ++ cond t bs (b ∷ bs))) [
      | true ↦ λ e. let two : b ≡ 124 = eqb-true b 124 e in (codes "||", inr refl, ap (λ (c : ℕ). 124 ∷ c ∷ bs) two)
      | false ↦ λ e. (codes "|", inl refl, refl)
    ] refl

in_word_of : (byte : ℕ) → is_blank byte ≡ false → (byte == 44) ≡ false → is_bar byte ≡ false → is_in_word byte ≡ true
in_word_of byte blank no_comma no_bar = rw (blank, no_comma, no_bar) refl

pub joint_takes : (text : List ℕ) (x : Joint × List ℕ) → Stops is_in_word text → joint_at text ≡ Some x → TakesJoint text x
joint_takes text x stops e = by (without_blanks_before text) (trimmed_front text).whole (trimmed_front text).stops e
  where
    cut : Trimmed text
    cut = trimmed_front text

    by : (left : List ℕ) → text ≡ cut.before ++ left → Stops is_blank left → joint_here left ≡ Some x → TakesJoint text x
    by [] whole begins h = absurd cc
    by (byte ∷ rest) whole begins h =
        elim (byte == 44) as (λ t. (byte == 44) ≡ t → cond t (Some (joints.Comma, rest)) (cond (is_bar byte) (Some (joints.Bar, without_first is_bar rest)) (Some (joints.Blanks, byte ∷ rest))) ≡ Some x → TakesJoint text x) [
          | true ↦ λ is g.
              let made : Joint × List ℕ = (joints.Comma, rest) in
              let byte_is : byte ≡ 44 = eqb-true byte 44 is in
              subst (λ (y : Joint × List ℕ). TakesJoint text y) (same_joint made x g) (record {
                taken = cut.before ++ codes ",";
                whole = whole ∙ ap (λ (c : ℕ). cut.before ++ (c ∷ rest)) byte_is ∙ sym (append_assoc cut.before (codes ",") rest);
                joins = comma_taken cut.before rest cut.blank;
              })
          | false ↦ λ no_comma g.
              elim (is_bar byte) as (λ t. is_bar byte ≡ t → cond t (Some (joints.Bar, without_first is_bar rest)) (Some (joints.Blanks, byte ∷ rest)) ≡ Some x → TakesJoint text x) [
                | true ↦ λ is f.
                    let made : Joint × List ℕ = (joints.Bar, without_first is_bar rest) in
                    let byte_is : byte ≡ 124 = eqb-true byte 124 is in
                    let bars = barred rest in
                    subst (λ (y : Joint × List ℕ). TakesJoint text y) (same_joint made x f) (record {
                      taken = cut.before ++ bars.0;
                      whole = whole ∙ ap (λ (c : ℕ). cut.before ++ (c ∷ rest)) byte_is ∙ ap (λ (y : List ℕ). cut.before ++ y) bars.2 ∙ sym (append_assoc cut.before bars.0 (without_first is_bar rest));
                      joins = bar_taken cut.before bars.0 cut.blank bars.1;
                    })
                | false ↦ λ no_bar f.
                    let made : Joint × List ℕ = (joints.Blanks, byte ∷ rest) in
                    let begins_word = in_word_of byte begins no_comma no_bar in
                    subst (λ (y : Joint × List ℕ). TakesJoint text y) (same_joint made x f) (record {
                      taken = cut.before;
                      whole = whole;
                      joins = λ before also. blanks (record { some = longer cut.before before whole begins_word; blank = blanks_append cut.before before cut.blank also });
                    })
              ] refl g
        ] refl h
      where
        longer : (b before : List ℕ) → text ≡ b ++ (byte ∷ rest) → is_in_word byte ≡ true → 0 < length (b ++ before)
        longer [] before same begins_word = absurd (false≢true (sym (subst (λ (y : List ℕ). Stops is_in_word y) same stops) ∙ begins_word))
        longer (c ∷ cs) before same begins_word = omega arith

abbrev joined : Joint → List ℕ → Option (Joint × List ℕ)
joined joint left = Some (joint, left)

no_some : (x : Joint × List ℕ) → ◌≡◌ {A = Option (Joint × List ℕ)} (Some x) None → ⊥
no_some x e = cc

pub no_joint : (text : List ℕ) → joint_at text ≡ None → IsBlanks text
no_joint text e = by (without_blanks_before text) (trimmed_front text).whole e
  where
    cut : Trimmed text
    cut = trimmed_front text

    by : (left : List ℕ) → text ≡ cut.before ++ left → joint_here left ≡ None → IsBlanks text
    by [] whole h = subst IsBlanks (sym (whole ∙ append-nil cut.before)) cut.blank
    by (byte ∷ rest) whole h = absurd (some (byte == 44) (is_bar byte) h)
      where
        some : (c b : Bool) → cond c (joined joints.Comma rest) (cond b (joined joints.Bar (without_first is_bar rest)) (joined joints.Blanks (byte ∷ rest))) ≡ None → ⊥
        some true b g = no_some (joints.Comma, rest) g
        some false true g = no_some (joints.Bar, without_first is_bar rest) g
        some false false g = no_some (joints.Blanks, byte ∷ rest) g

-- ---- all parts

pub form_long : (text : List ℕ) (form : Form) → IsFormOf text form → 0 < length text
form_long text form (word is) = is.some
form_long text form (comparison {symbol} {gap} {w} is e g also) = omega (arith, length-append symbol (gap ++ w), is.some)
form_long text form (span {v} {before} {after} {w} is g h also) = omega (arith, length-append v (before ++ (codes "-" ++ (after ++ w))), is.some)

abbrev list_read : List (Joint × Part) → Result (List (Joint × Part)) ConstraintFault
list_read parts = Ok parts

same_list : (x y : List (Joint × Part)) → list_read x ≡ list_read y → x ≡ y
same_list x y e = cc

bind_ok : {A B : Type 0} (r : Result A ConstraintFault) (f : A → Result B ConstraintFault) (y : B) → (r >>= f) ≡ Ok y → (x : A) × (r ≡ Ok x) × (f x ≡ Ok y)
bind_ok (Ok x) f y e = (x, refl, e)
bind_ok (Err fault) f y e = absurd cc

pub record TakesParts (joint : Joint) (text : List ℕ) (parts : List (Joint × Part)) : Type 0 where
  pub before : List ℕ
  pub rest : List ℕ
  pub blank : IsBlanks before
  pub whole : text ≡ before ++ rest
  pub are : IsParts joint rest parts

parts_take : (most whole : ℕ) (joint : Joint) (text : List ℕ) (parts : List (Joint × Part)) → length text + 1 ≤ most → parts_within most whole (Some (joint, text)) ≡ Ok parts → TakesParts joint text parts
unfolding parts_within
parts_take zero whole joint text parts enough e = absurd (omega arith)
parts_take (suc most) whole joint text parts enough e =
    let first = bind_ok (part_at whole joint text) (λ part. parts_within most whole (joint_at part.1) >>= λ others. list_read ((joint, part.0) ∷ others)) parts e in
    let others = bind_ok (parts_within most whole (joint_at first.0.1)) (λ others. list_read ((joint, first.0.0) ∷ others)) parts first.2 in
    let took = part_takes whole joint text first.0 first.1 in
    subst (λ (y : List (Joint × Part)). TakesParts joint text y) (same_list ((joint, first.0.0) ∷ others.0) parts others.2) (by (λ next after rest_enough h. parts_take most whole next.0 next.1 after rest_enough h) first.0 took (joint_at first.0.1) refl others.0 others.1)
  where
    by : ((next : Joint × List ℕ) (after : List (Joint × Part)) → length next.1 + 1 ≤ most → parts_within most whole (Some next) ≡ Ok after → TakesParts next.0 next.1 after)
        → (x : Part × List ℕ) → TakesPart text x → (next : Option (Joint × List ℕ)) → joint_at x.1 ≡ next → (others : List (Joint × Part)) → parts_within most whole next ≡ Ok others → TakesParts joint text ((joint, x.0) ∷ others)
    by again x took None e others h =
        let none : [] ≡ others = ended most h in
        record {
          before = took.before;
          rest = took.words ++ x.1;
          blank = took.blank;
          whole = took.whole;
          are = subst (λ (y : List (Joint × Part)). IsParts joint (took.words ++ x.1) ((joint, x.0) ∷ y)) none (last x.1 took.is took.means (no_joint x.1 e));
        }
      where
        ended : (k : ℕ) → parts_within k whole None ≡ Ok others → [] ≡ others
        ended zero g = same_list [] others g
        ended (suc k) g = same_list [] others g
    by again x took (Some next) e others h =
        let took_joint = joint_takes x.1 next took.stops e in
        let shorter : length next.1 + 1 ≤ most = omega (arith, enough, ap (length {A = ℕ}) took.whole, length-append took.before (took.words ++ x.1), length-append took.words x.1, form_long took.words took.form took.is, ap (length {A = ℕ}) took_joint.whole, length-append took_joint.taken next.1) in
        let more_parts = again next others shorter h in
        let between : x.1 ≡ (took_joint.taken ++ more_parts.before) ++ more_parts.rest = took_joint.whole ∙ ap (λ (y : List ℕ). took_joint.taken ++ y) more_parts.whole ∙ sym (append_assoc took_joint.taken more_parts.before more_parts.rest) in
        record {
          before = took.before;
          rest = took.words ++ ((took_joint.taken ++ more_parts.before) ++ more_parts.rest);
          blank = took.blank;
          whole = took.whole ∙ ap (λ (y : List ℕ). took.before ++ (took.words ++ y)) between;
          are = more took.is took.means (took_joint.joins more_parts.before more_parts.blank) more_parts.are;
        }

-- ---- a whole text

abbrev constraint_read : Constraint → Result Constraint ConstraintFault
constraint_read c = Ok c

same_constraint : (x y : Constraint) → constraint_read x ≡ constraint_read y → x ≡ y
same_constraint x y e = cc

pub text_takes : (text : List ℕ) (own : Version) (c : Constraint) → constraint_of text own ≡ Ok c → IsConstraint text own c
unfolding constraint_of parts_of
text_takes text own c e =
    elim (is_self_version text) as (λ t. is_self_version text ≡ t → cond t (constraint_read (own_constraint own)) (parts_of text >>= λ parts. constraint_read (constraint_in parts)) ≡ Ok c → IsConstraint text own c) [
      | true ↦ λ is h. subst (λ (d : Constraint). IsConstraint text own d) (same_constraint (own_constraint own) c h) (own_version (same_bytes (trimmed text) (codes "self.version") is))
      | false ↦ λ is h.
          let read = bind_ok (parts_of text) (λ parts. constraint_read (constraint_in parts)) c h in
          let took = parts_take (length text + 1) (length text) joints.First text read.0 (omega arith) read.1 in
          subst (λ (d : Constraint). IsConstraint text own d) (same_constraint (constraint_in read.0) c read.2)
          (subst (λ (y : List ℕ). IsConstraint y own (constraint_in read.0)) (sym took.whole) (read_parts took.before (λ same. no_self (ap trimmed took.whole ∙ same) is) took.blank took.are))
    ] refl e
  where
    no_self : trimmed text ≡ codes "self.version" → is_self_version text ≡ false → ⊥
    no_self same none = false≢true (sym none ∙ (rw same refl))
