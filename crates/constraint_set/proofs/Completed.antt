-- What stands before a fault's place begins a constraint: with `*` behind it, it is one.
use Rattle.std.proofs.Common.{◌≡◌, ℕ, true, List, [], ◌∷◌, ◌++◌, length, take, None, Ok, refl, sym, subst, ap, ◌∙◌, arith, append_assoc}
use Rattle.std.specs.Prelude.{codes}
use Rattle.std.specs.List.{list_all}
use Rattle.std.proofs.lemmas.Bool.{false≢true}
use Rattle.path_name.specs.Bytes.{is_blank}
use Rattle.version_norm.specs.declared.version.Version.{Version}
use Rattle.version_norm.specs.Versions.{trimmed}
use Rattle.version_norm.specs.Rules.{IsTrimmed}
use Rattle.version_norm.proofs.Blanks.{trimmed_left}
use Rattle.constraint_set.specs.declared.fault.ConstraintFault.{ConstraintFault}
use Rattle.constraint_set.specs.declared.constraint.Constraint.{Constraint}
use Rattle.constraint_set.specs.declared.part.Part.{Part}
use Rattle.constraint_set.specs.declared.words.Joint.{Joint}
use Rattle.constraint_set.specs.declared.words.Joint.TheVariants as joints
use Rattle.constraint_set.specs.Words.{alone}
use Rattle.constraint_set.specs.Parts.{form_part, word_part, plain_part, bare_word, any_part}
use Rattle.constraint_set.specs.Constraints.{constraint_in}
use Rattle.constraint_set.specs.Grammar.{IsBlanks, IsWord, word, IsParts, last, more, IsConstraint, read_parts}
use Rattle.constraint_set.specs.Faults.{IsFront, first, next, IsFaultAt, alias, unread, missing, IsFault, place_in}
use Rattle.constraint_set.proofs.Members.{both}
use Rattle.constraint_set.proofs.SpelledTexts.{take_front}

-- ---- `*` alone is a part

star_word : IsWord (codes "*")
star_word = record { some = omega arith; all = refl }

star_means : form_part (alone (codes "*")) ≡ Ok (any_part None)
unfolding word_part plain_part bare_word
star_means = refl

star_parts : (joint : Joint) → IsParts joint (codes "*") ((joint, any_part None) ∷ [])
star_parts joint = last [] (word star_word) star_means refl

-- ---- parts behind a front are parts from its first byte on

record Completed (text : List ℕ) : Type 0 where
  before : List ℕ
  rest : List ℕ
  parts : List (Joint × Part)
  whole : text ≡ before ++ rest
  blank : IsBlanks before
  are : IsParts joints.First rest parts

completed : (front rest behind : List ℕ) (joint : Joint) (parts : List (Joint × Part)) → IsFront front joint rest → IsParts joint behind parts → Completed (front ++ behind)
completed front rest behind joint parts (first blank stops) are = record { before = front; rest = behind; parts = parts; whole = refl; blank = blank; are = are }
completed front rest behind joint parts (next {front = before} {words = words} {between = between} {joint = kind} {part = part} front_is is means joined) are =
    let whole : before ++ (words ++ (between ++ behind)) ≡ (before ++ (words ++ between)) ++ behind = sym (append_assoc before (words ++ between) behind ∙ ap (λ (y : List ℕ). before ++ y) (append_assoc words between behind)) in
    subst Completed whole (completed before (words ++ (between ++ rest)) (words ++ (between ++ behind)) kind ((kind, part) ∷ parts) front_is (more is.is means joined.is are))

-- ---- what ends in `*` is not `self.version`

last_byte : List ℕ → ℕ
last_byte [] = 0
last_byte (b ∷ []) = b
last_byte (b ∷ c ∷ cs) = last_byte (c ∷ cs)

last_behind : (xs : List ℕ) (b : ℕ) (bs : List ℕ) → last_byte (xs ++ b ∷ bs) ≡ last_byte (b ∷ bs)
unfolding last_byte
last_behind [] b bs = refl
last_behind (x ∷ []) b bs = refl
last_behind (x ∷ y ∷ ys) b bs = last_behind (y ∷ ys) b bs

last_blank : (b : ℕ) (bs : List ℕ) → list_all is_blank (b ∷ bs) ≡ true → is_blank (last_byte (b ∷ bs)) ≡ true
unfolding last_byte
last_blank b [] all = (both (is_blank b) true all).0
last_blank b (c ∷ cs) all = last_blank c cs (both (is_blank b) (list_all is_blank (c ∷ cs)) all).1

no_self : (front : List ℕ) → trimmed (front ++ codes "*") ≡ codes "self.version" → ⊥
unfolding last_byte
no_self front same =
    let is : IsTrimmed (front ++ codes "*") (codes "self.version") = subst (λ (y : List ℕ). IsTrimmed (front ++ codes "*") y) same (trimmed_left (front ++ codes "*")) in
    by is.after is.before is.whole is.blank_after
  where
    star : last_byte (front ++ codes "*") ≡ 42
    star = last_behind front 42 []

    by : (after before : List ℕ) → front ++ codes "*" ≡ before ++ (codes "self.version" ++ after) → list_all is_blank after ≡ true → ⊥
    by [] before whole blank =
        let other : last_byte (before ++ codes "self.version") ≡ 110 = last_behind before 115 (codes "elf.version") in
        let apart : ◌≡◌ {A = ℕ} 42 110 = sym star ∙ ap last_byte whole ∙ other in
        omega (arith, apart)
    by (a ∷ more_blanks) before whole blank =
        let texts : before ++ (codes "self.version" ++ (a ∷ more_blanks)) ≡ (before ++ codes "self.version") ++ (a ∷ more_blanks) = sym (append_assoc before (codes "self.version") (a ∷ more_blanks)) in
        let end : ◌≡◌ {A = ℕ} 42 (last_byte (a ∷ more_blanks)) = sym star ∙ ap last_byte (whole ∙ texts) ∙ last_behind (before ++ codes "self.version") a more_blanks in
        false≢true (ap is_blank end ∙ last_blank a more_blanks blank)

-- ---- the law

abbrev Begins : List ℕ → Version → Type 0
Begins front own = (c : Constraint) × IsConstraint (front ++ codes "*") own c

front_begins : (front rest : List ℕ) (joint : Joint) (own : Version) → IsFront front joint rest → Begins front own
front_begins front rest joint own is =
    let made = completed front rest (codes "*") joint ((joint, any_part None) ∷ []) is (star_parts joint) in
    (constraint_in made.parts, subst (λ (y : List ℕ). IsConstraint y own (constraint_in made.parts)) (sym made.whole) (read_parts made.before (λ same. no_self front (ap trimmed made.whole ∙ same)) made.blank made.are))

at_front : (front rest : List ℕ) (own : Version) → Begins front own → Begins (take (length front) (front ++ rest)) own
at_front front rest own begins = subst (λ (y : List ℕ). Begins y own) (sym (take_front front rest)) begins

pub place_begins : (text : List ℕ) (own : Version) (fault : ConstraintFault) → IsFault text fault → Begins (take (place_in fault) text) own
place_begins text own fault is = by text fault is.is
  where
    by : (t : List ℕ) (f : ConstraintFault) → IsFaultAt t f → Begins (take (place_in f) t) own
    by t f (alias {front = front} {rest = rest} {joint = joint} front_is is) = at_front front rest own (front_begins front rest joint own front_is)
    by t f (unread {front = front} {words = words} {behind = behind} {joint = joint} front_is never is means) = at_front front (words ++ behind) own (front_begins front (words ++ behind) joint own front_is)
    by t f (missing {front = front} {rest = rest} {joint = joint} front_is other stops) = at_front front rest own (front_begins front rest joint own front_is)
