-- The fault that is told is the text's fault in the grammar's words, and the text has no other.
use Rattle.std.proofs.Common.{◌≡◌, ◌≢◌, ℕ, zero, suc, ◌+◌, ◌<◌, ◌≤◌, Bool, true, false, cond, List, [], ◌∷◌, ◌++◌, length, Option, Some, None, Result, Ok, Err, refl, sym, subst, ap, ◌∙◌, arith, append_assoc}
use Rattle.std.specs.Prelude.{codes, ◌&&◌, ◌==◌, is_some}
use Rattle.std.proofs.lemmas.Bool.{false≢true}
use Rattle.std.proofs.lemmas.List.{length-append}
use Rattle.path_name.specs.Given.{◌>>=◌}
use Rattle.path_name.specs.Bytes.{is_blank}
use Rattle.path_name.specs.Orders.{bytes_are_equal}
use Rattle.version_norm.specs.declared.fault.VersionFault.{VersionFault}
use Rattle.version_norm.specs.declared.fault.VersionFault.TheVariants as version_faults
use Rattle.version_norm.specs.declared.version.Version.{Version}
use Rattle.version_norm.specs.Versions.{trimmed, without_blanks_before}
use Rattle.version_norm.specs.Pieces.{without_first}
use Rattle.version_norm.proofs.Read.{same_bytes}
use Rattle.constraint_set.specs.declared.fault.ConstraintFault.{ConstraintFault}
use Rattle.constraint_set.specs.declared.fault.ConstraintFault.TheVariants.{InlineAlias, BadConstraint, OutOfMemory}
use Rattle.constraint_set.specs.declared.constraint.Constraint.{Constraint}
use Rattle.constraint_set.specs.declared.part.Part.{Part}
use Rattle.constraint_set.specs.declared.words.Joint.{Joint}
use Rattle.constraint_set.specs.declared.words.Joint.TheVariants as joints
use Rattle.constraint_set.specs.Words.{Form, range, alone, is_in_word, word_here, next_word, operator_word, is_dash, is_bar, operated, dashed, form_behind, form_at, joint_here, joint_at, is_blanks, is_alias}
use Rattle.constraint_set.specs.Parts.{form_part}
use Rattle.constraint_set.specs.Constraints.{place_of, refusal_of, followed_by, part_or_missing, part_at, parts_within, parts_of, constraint_in, is_self_version, own_constraint, constraint_of}
use Rattle.constraint_set.specs.Grammar.{IsWord}
use Rattle.constraint_set.specs.Faults.{BeginsWithout, IsPartAt, IsJointAt, IsFront, first, next, IsAliasAt, IsUnread, IsFaultAt, alias, unread, missing, IsFault}
use Rattle.constraint_set.proofs.Members.{both}
use Rattle.constraint_set.proofs.Fronts.{Stops, trimmed_front, same_word, word_here_takes, no_word_here, next_word_takes}
use Rattle.constraint_set.proofs.ReadTexts.{form_takes, form_long}
use Rattle.constraint_set.proofs.SpelledTexts.{word_front, blanks_front, no_word, long_gap_stops, differs, as_alone, as_range, contradicts}
use Rattle.constraint_set.proofs.LongestParts.{next_longest, longest_part, ReadPart, part_read, joint_shorter, longest_joint, JointRead, joint_read, fewer_blanks}

-- ---- aliases

is_one : (joint : Joint) → is_blanks joint ≡ true → joint ≡ joints.Blanks
is_one joints.First e = absurd cc
is_one joints.Blanks e = refl
is_one joints.Comma e = absurd cc
is_one joints.Bar e = absurd cc

some_next : (rest : List ℕ) (o : Option (List ℕ × List ℕ)) → next_word rest ≡ o → is_some o ≡ true → (x : List ℕ × List ℕ) × (next_word rest ≡ Some x)
some_next rest None e h = absurd cc
some_next rest (Some x) e h = (x, e)

alias_is : (joint : Joint) (word rest : List ℕ) → Stops is_in_word rest → is_alias joint word rest ≡ true → IsAliasAt joint (word ++ rest)
alias_is joint word rest stops e =
    let halves = both (is_blanks joint && bytes_are_equal word (codes "as")) (is_some (next_word rest)) e in
    let two = both (is_blanks joint) (bytes_are_equal word (codes "as")) halves.0 in
    let behind = some_next rest (next_word rest) refl halves.1 in
    let took = next_word_takes rest behind.0 stops behind.1 in
    let is_as : word ≡ codes "as" = same_bytes word (codes "as") two.1 in
    (is_one joint two.0, took.gap, behind.0.0, behind.0.1, (λ i. is_as i ++ took.whole i), took.is_gap, took.is)

as_word : IsWord (codes "as")
as_word = record { some = omega arith; all = refl }

-- what is read where an alias stands
record ReadAlias (joint : Joint) (text : List ℕ) : Type 0 where
  first : List ℕ × List ℕ
  here : word_here text ≡ Some first
  is : is_alias joint first.0 first.1 ≡ true

alias_again : (joint : Joint) (text : List ℕ) → IsAliasAt joint text → ReadAlias joint text
alias_again joint text (blanks, gap, word, after, whole, is_gap, is_word) =
    let some = next_longest gap word after is_gap.blank is_word in
    record {
      first = (codes "as", gap ++ (word ++ after));
      here = rw whole (word_front (codes "as") (gap ++ (word ++ after)) as_word (long_gap_stops gap (word ++ after) is_gap));
      is = rw (blanks, some.is) refl;
    }

-- a part that is read is no alias
as_read : (rest : List ℕ) (part : Part) → form_part (form_at (codes "as") rest).0 ≡ Ok part → ⊥
unfolding form_at
as_read rest part = by (next_word rest)
  where
    in_operated : (second : List ℕ × List ℕ) → form_part (operated (operator_word (codes "as")) (codes "as") rest second).0 ≡ Ok part → ⊥
    in_operated second e = contradicts (form_part (alone (codes "as"))) part as_alone e

    in_dashed : (second : List ℕ × List ℕ) (third : Option (List ℕ × List ℕ)) → form_part (dashed (codes "as") rest second third).0 ≡ Ok part → ⊥
    in_dashed second None e = in_operated second e
    in_dashed second (Some third) e = contradicts (form_part (range (codes "as") third.0)) part (as_range third.0) e

    by : (o : Option (List ℕ × List ℕ)) → form_part (form_behind (codes "as") rest o).0 ≡ Ok part → ⊥
    by None e = contradicts (form_part (alone (codes "as"))) part as_alone e
    by (Some second) e =
        elim (is_dash second.0) as (λ t. form_part (cond t (dashed (codes "as") rest second (next_word second.1)) (operated (operator_word (codes "as")) (codes "as") rest second)).0 ≡ Ok part → ⊥) [
          | true ↦ in_dashed second (next_word second.1)
          | false ↦ in_operated second
        ] e

no_alias_read : (joint : Joint) (word rest : List ℕ) (part : Part) → form_part (form_at word rest).0 ≡ Ok part → is_alias joint word rest ≡ false
no_alias_read joint word rest part e = by (is_alias joint word rest) refl
  where
    by : (t : Bool) → is_alias joint word rest ≡ t → t ≡ false
    by false h = refl
    by true h =
        let two = both (is_blanks joint) (bytes_are_equal word (codes "as")) (both (is_blanks joint && bytes_are_equal word (codes "as")) (is_some (next_word rest)) h).0 in
        let is_as : word ≡ codes "as" = same_bytes word (codes "as") two.1 in
        absurd (as_read rest part (rw is_as at e))

not_alias : (joint : Joint) (word rest : List ℕ) → Stops is_in_word rest → (IsAliasAt joint (word ++ rest) → ⊥) → is_alias joint word rest ≡ false
not_alias joint word rest stops never = by (is_alias joint word rest) refl
  where
    by : (t : Bool) → is_alias joint word rest ≡ t → t ≡ false
    by false h = refl
    by true h = absurd (never (alias_is joint word rest stops h))

-- ---- what is told

abbrev failed : ConstraintFault → Result (Part × List ℕ) ConstraintFault
failed fault = Err fault

same_fault : (fault other : ConstraintFault) → ◌≡◌ {A = Result (List (Joint × Part)) ConstraintFault} (Err fault) (Err other) → fault ≡ other
same_fault fault other e = cc

abbrev others_of : Joint → Part → Result (List (Joint × Part)) ConstraintFault → Result (List (Joint × Part)) ConstraintFault
others_of joint part others = others >>= λ read. Ok ((joint, part) ∷ read)

others_failed : (joint : Joint) (part : Part) (others : Result (List (Joint × Part)) ConstraintFault) (fault : ConstraintFault) → others_of joint part others ≡ Err fault → others ≡ Err fault
others_failed joint part (Ok read) fault e = absurd cc
others_failed joint part (Err other) fault e = cc

-- where the reader stands in a text
record Standing (text : List ℕ) (joint : Joint) (left : List ℕ) : Type 0 where
  front : List ℕ
  is : IsFront front joint (without_blanks_before left)
  whole : text ≡ front ++ without_blanks_before left
  begins : joint ≡ joints.Blanks → BeginsWithout is_in_word (without_blanks_before left) → ⊥

-- the place of what is left
place_is : (text front rest : List ℕ) → text ≡ front ++ rest → place_of (length text) rest ≡ length front
place_is text front rest whole = omega (arith, ap (length {A = ℕ}) whole, length-append front rest)

told_as : (text front rest : List ℕ) (make : ℕ → ConstraintFault) (fault : ConstraintFault) → text ≡ front ++ rest → make (place_of (length text) rest) ≡ fault → IsFaultAt (front ++ rest) (make (length front)) → IsFaultAt text fault
told_as text front rest make fault whole e is =
    let same : make (length front) ≡ fault = ap make (sym (place_is text front rest whole)) ∙ e in
    subst (λ (f : ConstraintFault). IsFaultAt text f) same (subst (λ (t : List ℕ). IsFaultAt t (make (length front))) (sym whole) is)

abbrev made : Joint → List ℕ → Option (Joint × List ℕ)
made joint left = Some (joint, left)

-- what stands behind the joint that was read
begins_behind : (text : List ℕ) (x : Joint × List ℕ) → joint_at text ≡ Some x → x.0 ≡ joints.Blanks → BeginsWithout is_in_word (without_blanks_before x.1) → ⊥
begins_behind text x e blanks stops = by (without_blanks_before text) (trimmed_front text).stops e
  where
    pair : (joint : Joint) (left : List ℕ) → made joint left ≡ Some x → (joint ≡ x.0) × (left ≡ x.1)
    pair joint left h = let same : (joint, left) ≡ x = cc in (ap (λ (y : Joint × List ℕ). y.0) same, ap (λ (y : Joint × List ℕ). y.1) same)

    by : (left : List ℕ) → Stops is_blank left → joint_here left ≡ Some x → ⊥
    by [] begin h = absurd cc
    by (byte ∷ rest) begin h = each (byte == 44) (is_bar byte) refl refl h
      where
        each : (c b : Bool) → (byte == 44) ≡ c → is_bar byte ≡ b → cond c (made joints.Comma rest) (cond b (made joints.Bar (without_first is_bar rest)) (made joints.Blanks (byte ∷ rest))) ≡ Some x → ⊥
        each true b no_comma no_bar g = let kind = (pair joints.Comma rest g).0 ∙ blanks in absurd cc
        each false true no_comma no_bar g = let kind = (pair joints.Bar (without_first is_bar rest) g).0 ∙ blanks in absurd cc
        each false false no_comma no_bar g =
            let same : byte ∷ rest ≡ x.1 = (pair joints.Blanks (byte ∷ rest) g).1 in
            let kept : without_blanks_before (byte ∷ rest) ≡ byte ∷ rest = rw begin refl in
            let word : is_in_word byte ≡ true = rw (begin, no_comma, no_bar) refl in
            let none : is_in_word byte ≡ false = subst (λ (y : List ℕ). BeginsWithout is_in_word y) kept (subst (λ (y : List ℕ). BeginsWithout is_in_word (without_blanks_before y)) (sym same) stops) in
            false≢true (sym none ∙ word)

-- a part that was read, and the joint behind it
moved_on : (text left : List ℕ) (joint : Joint) (word rest : List ℕ) (part : Part) (x : Joint × List ℕ) → Standing text joint left → word_here (without_blanks_before left) ≡ Some (word, rest) → form_part (form_at word rest).0 ≡ Ok part
    → joint_at (form_at word rest).1 ≡ Some x → Standing text x.0 x.1
moved_on text left joint word rest part x stands here means joined =
    let took = word_here_takes (without_blanks_before left) (word, rest) here in
    let form = form_takes word rest took.is took.stops in
    let behind = longest_joint (form_at word rest).1 x form.stops joined in
    let whole : without_blanks_before left ≡ form.words ++ (behind.between ++ without_blanks_before x.1) = took.whole ∙ form.whole ∙ ap (λ (y : List ℕ). form.words ++ y) behind.whole in
    let longest : IsPartAt form.words (behind.between ++ without_blanks_before x.1) (form_at word rest).0 = subst (λ (y : List ℕ). IsPartAt form.words y (form_at word rest).0) behind.whole (longest_part word rest form took.is took.stops) in
    let front : IsFront stands.front joint (form.words ++ (behind.between ++ without_blanks_before x.1)) = subst (λ (y : List ℕ). IsFront stands.front joint y) whole stands.is in
    record {
      front = stands.front ++ (form.words ++ behind.between);
      is = next front longest means behind.is;
      whole = stands.whole ∙ ap (λ (y : List ℕ). stands.front ++ y) (whole ∙ sym (append_assoc form.words behind.between (without_blanks_before x.1))) ∙ sym (append_assoc stands.front (form.words ++ behind.between) (without_blanks_before x.1));
      begins = begins_behind (form_at word rest).1 x joined;
    }

-- what no rule reads
unread_fault : (text left : List ℕ) (joint : Joint) (word rest : List ℕ) (refusal : VersionFault) (fault : ConstraintFault) → Standing text joint left → word_here (without_blanks_before left) ≡ Some (word, rest) → is_alias joint word rest ≡ false
    → form_part (form_at word rest).0 ≡ Err refusal → refusal_of (place_of (length text) (without_blanks_before left)) refusal ≡ fault → fault ≢ OutOfMemory → IsFaultAt text fault
unread_fault text left joint word rest refusal fault stands here plain refused told other = by refusal refused told
  where
    is_at : (r : VersionFault) → form_part (form_at word rest).0 ≡ Err r → IsUnread (Err r) → BadConstraint (place_of (length text) (without_blanks_before left)) ≡ fault → IsFaultAt text fault
    is_at r e unread_there place =
        let took = word_here_takes (without_blanks_before left) (word, rest) here in
        let form = form_takes word rest took.is took.stops in
        let whole : without_blanks_before left ≡ form.words ++ (form_at word rest).1 = took.whole ∙ form.whole in
        let front : IsFront stands.front joint (form.words ++ (form_at word rest).1) = subst (λ (y : List ℕ). IsFront stands.front joint y) whole stands.is in
        let never : IsAliasAt joint (form.words ++ (form_at word rest).1) → ⊥ = λ is.
        let again = alias_again joint (form.words ++ (form_at word rest).1) is in
        let same : again.first ≡ (word, rest) = same_word again.first (word, rest) (sym again.here ∙ ap word_here (sym whole) ∙ here) in
        false≢true (sym plain ∙ subst (λ (x : List ℕ × List ℕ). is_alias joint x.0 x.1 ≡ true) same again.is) in
        let bad : IsFaultAt (stands.front ++ (form.words ++ (form_at word rest).1)) (BadConstraint (length stands.front)) = unread front never (longest_part word rest form took.is took.stops) (subst (λ (y : Result Part VersionFault). IsUnread y) (sym e) unread_there) in
        told_as text stands.front (without_blanks_before left) BadConstraint fault stands.whole place (subst (λ (y : List ℕ). IsFaultAt (stands.front ++ y) (BadConstraint (length stands.front))) (sym whole) bad)

    by : (r : VersionFault) → form_part (form_at word rest).0 ≡ Err r → refusal_of (place_of (length text) (without_blanks_before left)) r ≡ fault → IsFaultAt text fault
    by version_faults.DateVersion e place = is_at version_faults.DateVersion e tt place
    by version_faults.NotAVersion e place = is_at version_faults.NotAVersion e tt place
    by version_faults.OutOfMemory e place = absurd (other (sym place))

-- the parts behind one that was read
abbrev after_part : ℕ → ℕ → Joint → Result (Part × List ℕ) ConstraintFault → Result (List (Joint × Part)) ConstraintFault
after_part most whole joint part = part >>= λ read. others_of joint read.0 (parts_within most whole (joint_at read.1))

parts_fail : (most : ℕ) (text : List ℕ) (joint : Joint) (left : List ℕ) (fault : ConstraintFault) → Standing text joint left → length left + 1 ≤ most → fault ≢ OutOfMemory → parts_within most (length text) (Some (joint, left)) ≡ Err fault → IsFaultAt text fault
unfolding parts_within part_at
parts_fail zero text joint left fault stands enough other e = absurd (omega arith)
parts_fail (suc most) text joint left fault stands enough other e = by (λ x there short h. parts_fail most text x.0 x.1 fault there short other h) (word_here (without_blanks_before left)) refl e
  where
    read_on : ((x : Joint × List ℕ) → Standing text x.0 x.1 → length x.1 + 1 ≤ most → parts_within most (length text) (Some x) ≡ Err fault → IsFaultAt text fault) → (word rest : List ℕ) → word_here (without_blanks_before left) ≡ Some (word, rest) → (part : Part) → form_part (form_at word rest).0 ≡ Ok part → (o : Option (Joint × List ℕ)) → joint_at (form_at word rest).1 ≡ o
        → parts_within most (length text) o ≡ Err fault → IsFaultAt text fault
    read_on again word rest here part means None joined h = absurd (none most h)
      where
        none : (k : ℕ) → parts_within k (length text) None ≡ Err fault → ⊥
        none zero g = cc
        none (suc k) g = cc
    read_on again word rest here part means (Some x) joined h =
        let took = word_here_takes (without_blanks_before left) (word, rest) here in
        let form = form_takes word rest took.is took.stops in
        let shorter : length x.1 + 1 ≤ most = omega (arith, enough, fewer_blanks left, ap (length {A = ℕ}) (took.whole ∙ form.whole), length-append form.words (form_at word rest).1, form_long form.words (form_at word rest).0 form.is, joint_shorter (form_at word rest).1 x joined) in
        again x (moved_on text left joint word rest part x stands here means joined) shorter h

    followed : ((x : Joint × List ℕ) → Standing text x.0 x.1 → length x.1 + 1 ≤ most → parts_within most (length text) (Some x) ≡ Err fault → IsFaultAt text fault) → (word rest : List ℕ) → word_here (without_blanks_before left) ≡ Some (word, rest) → is_alias joint word rest ≡ false → (r : Result Part VersionFault) → form_part (form_at word rest).0 ≡ r
        → after_part most (length text) joint (followed_by (place_of (length text) (without_blanks_before left)) (form_at word rest).1 r) ≡ Err fault → IsFaultAt text fault
    followed again word rest here plain (Ok part) means h =
        read_on again word rest here part means (joint_at (form_at word rest).1) refl (others_failed joint part (parts_within most (length text) (joint_at (form_at word rest).1)) fault h)
    followed again word rest here plain (Err refusal) means h =
        unread_fault text left joint word rest refusal fault stands here plain means (same_fault (refusal_of (place_of (length text) (without_blanks_before left)) refusal) fault h) other

    by : ((x : Joint × List ℕ) → Standing text x.0 x.1 → length x.1 + 1 ≤ most → parts_within most (length text) (Some x) ≡ Err fault → IsFaultAt text fault) → (o : Option (List ℕ × List ℕ)) → word_here (without_blanks_before left) ≡ o → after_part most (length text) joint (part_or_missing (place_of (length text) (without_blanks_before left)) joint o) ≡ Err fault → IsFaultAt text fault
    by again None here h =
        let stops = no_word_here (without_blanks_before left) here in
        told_as text stands.front (without_blanks_before left) BadConstraint fault stands.whole (same_fault (BadConstraint (place_of (length text) (without_blanks_before left))) fault h)
        (missing stands.is (λ blanks. stands.begins blanks stops) stops)
    by again (Some x) here h =
        elim (is_alias joint x.0 x.1) as (λ t. is_alias joint x.0 x.1 ≡ t → after_part most (length text) joint (cond t (failed (InlineAlias (place_of (length text) (without_blanks_before left)))) (followed_by (place_of (length text) (without_blanks_before left)) (form_at x.0 x.1).1 (form_part (form_at x.0 x.1).0))) ≡ Err fault → IsFaultAt text fault) [
          | true ↦ λ is g.
              let took = word_here_takes (without_blanks_before left) x here in
              let there : IsAliasAt joint (without_blanks_before left) = subst (λ (y : List ℕ). IsAliasAt joint y) (sym took.whole) (alias_is joint x.0 x.1 took.stops is) in
              told_as text stands.front (without_blanks_before left) InlineAlias fault stands.whole (same_fault (InlineAlias (place_of (length text) (without_blanks_before left))) fault g) (alias stands.is there)
          | false ↦ λ is g. followed again x.0 x.1 here is (form_part (form_at x.0 x.1).0) refl g
        ] refl h

abbrev read_as : Constraint → Result Constraint ConstraintFault
read_as c = Ok c

made_failed : (parts : Result (List (Joint × Part)) ConstraintFault) (fault : ConstraintFault) → (parts >>= λ read. read_as (constraint_in read)) ≡ Err fault → parts ≡ Err fault
made_failed (Ok read) fault e = absurd cc
made_failed (Err other) fault e = cc

pub fault_told : (text : List ℕ) (own : Version) (fault : ConstraintFault) → fault ≢ OutOfMemory → constraint_of text own ≡ Err fault → IsFault text fault
unfolding constraint_of parts_of
fault_told text own fault other e =
    elim (is_self_version text) as (λ t. is_self_version text ≡ t → cond t (read_as (own_constraint own)) (parts_of text >>= λ parts. read_as (constraint_in parts)) ≡ Err fault → IsFault text fault) [
      | true ↦ λ is h. absurd cc
      | false ↦ λ is h. record {
        other = λ same. false≢true (sym is ∙ (rw same refl));
        is = parts_fail (length text + 1) text joints.First text fault start (omega arith) other (made_failed (parts_of text) fault h);
      }
    ] refl e
  where
    start : Standing text joints.First text
    start =
        let cut = trimmed_front text in
        record { front = cut.before; is = first cut.blank cut.stops; whole = cut.whole; begins = λ blanks. absurd cc }

-- ---- what is meant

-- the reader comes to where a front ends
record Reached (text : List ℕ) (joint : Joint) (rest : List ℕ) : Type 0 where
  most : ℕ
  left : List ℕ
  enough : length left + 1 ≤ most
  stands : without_blanks_before left ≡ rest
  fails : (fault : ConstraintFault) → parts_within most (length text) (Some (joint, left)) ≡ Err fault → parts_of text ≡ Err fault

abbrev some_behind : Joint → List ℕ → Type 0
some_behind joint rest = joint ≡ joints.Blanks → 0 < length rest

part_long : (words behind : List ℕ) (form : Form) → IsPartAt words behind form → 0 < length (words ++ behind)
part_long words behind form is = omega (arith, form_long words form is.is, length-append words behind)

one_step : (text front words between rest : List ℕ) (joint behind : Joint) (form : Form) (part : Part) → Reached text joint (words ++ (between ++ rest)) → IsPartAt words (between ++ rest) form → form_part form ≡ Ok part → IsJointAt between rest behind
    → some_behind behind rest → Reached text behind rest
unfolding parts_within part_at
one_step text front words between rest joint behind form part reached is means joined some = by reached.most reached.enough reached.fails
  where
    read : ReadPart words (between ++ rest) form
    read = part_read words (between ++ rest) form is

    after : JointRead between rest behind
    after = joint_read between rest behind joined some

    means_there : form_part (form_at read.first.0 read.first.1).0 ≡ Ok part
    means_there = ap (λ (x : Form × List ℕ). form_part x.0) read.form_is ∙ means

    plain : is_alias joint read.first.0 read.first.1 ≡ false
    plain = no_alias_read joint read.first.0 read.first.1 part means_there

    by : (most : ℕ) → length reached.left + 1 ≤ most → ((fault : ConstraintFault) → parts_within most (length text) (Some (joint, reached.left)) ≡ Err fault → parts_of text ≡ Err fault) → Reached text behind rest
    by zero enough fails = absurd (omega arith)
    by (suc most) enough fails = record {
      most = most;
      left = after.left;
      enough = omega (arith, enough, fewer_blanks reached.left, ap (length {A = ℕ}) reached.stands, length-append words (between ++ rest), form_long words form is.is, joint_shorter (between ++ rest) (behind, after.left) after.reads);
      stands = after.front;
      fails = λ fault e. fails fault (rw (reached.stands, read.here, plain, read.form_is, means, after.reads, e) refl);
    }

reach : (front rest : List ℕ) (joint : Joint) → IsFront front joint rest → some_behind joint rest → Reached (front ++ rest) joint rest
unfolding parts_of
reach front rest joint (first blank stops) some = record {
  most = length (front ++ rest) + 1;
  left = front ++ rest;
  enough = omega arith;
  stands = blanks_front front rest blank stops;
  fails = λ fault e. e;
}
reach front rest joint (next {front = before} {words = words} {between = between} {joint = last} {form = form} {part = part} front_is is means joined) some =
    let so_far = reach before (words ++ (between ++ rest)) last front_is (λ blanks. part_long words (between ++ rest) form is) in
    let whole : before ++ (words ++ (between ++ rest)) ≡ (before ++ (words ++ between)) ++ rest = sym (append_assoc before (words ++ between) rest ∙ ap (λ (y : List ℕ). before ++ y) (append_assoc words between rest)) in
    subst (λ (y : List ℕ). Reached y joint rest) whole (one_step (before ++ (words ++ (between ++ rest))) before words between rest last joint form part so_far is means joined some)

fails_there : (text : List ℕ) (joint : Joint) (rest : List ℕ) (fault : ConstraintFault) → Reached text joint rest → part_or_missing (place_of (length text) rest) joint (word_here rest) ≡ Err fault → parts_of text ≡ Err fault
unfolding parts_within part_at
fails_there text joint rest fault reached e = by reached.most reached.enough reached.fails
  where
    by : (most : ℕ) → length reached.left + 1 ≤ most → ((fault : ConstraintFault) → parts_within most (length text) (Some (joint, reached.left)) ≡ Err fault → parts_of text ≡ Err fault) → parts_of text ≡ Err fault
    by zero enough fails = absurd (omega arith)
    by (suc most) enough fails = fails fault (rw (reached.stands, e) refl)

alias_long : (joint : Joint) (rest : List ℕ) → IsAliasAt joint rest → 0 < length rest
alias_long joint rest (blanks, gap, word, after, whole, is_gap, is_word) = omega (arith, ap (length {A = ℕ}) whole, length-append (codes "as") (gap ++ (word ++ after)))

unread_there : (at : ℕ) (rest : List ℕ) (r : Result Part VersionFault) → IsUnread r → followed_by at rest r ≡ Err (BadConstraint at)
unread_there at rest (Ok part) is = absurd is
unread_there at rest (Err version_faults.DateVersion) is = refl
unread_there at rest (Err version_faults.NotAVersion) is = refl
unread_there at rest (Err version_faults.OutOfMemory) is = absurd is

fault_again : (text : List ℕ) (fault : ConstraintFault) → IsFaultAt text fault → parts_of text ≡ Err fault
fault_again text fault (alias {front = front} {rest = rest} {joint = joint} front_is is) =
    let reached = reach front rest joint front_is (λ blanks. alias_long joint rest is) in
    let read = alias_again joint rest is in
    fails_there (front ++ rest) joint rest (InlineAlias (length front)) reached (rw (read.here, read.is, place_is (front ++ rest) front rest refl) refl)
fault_again text fault (unread {front = front} {words = words} {behind = behind} {joint = joint} {form = form} front_is never is means) =
    let reached = reach front (words ++ behind) joint front_is (λ blanks. part_long words behind form is) in
    let read = part_read words behind form is in
    let took = word_here_takes (words ++ behind) read.first read.here in
    let plain = not_alias joint read.first.0 read.first.1 took.stops (λ also. never (subst (λ (y : List ℕ). IsAliasAt joint y) (sym took.whole) also)) in
    fails_there (front ++ (words ++ behind)) joint (words ++ behind) (BadConstraint (length front)) reached
    (rw (read.here, plain, read.form_is, place_is (front ++ (words ++ behind)) front (words ++ behind) refl) (unread_there (length front) behind (form_part form) means))
fault_again text fault (missing {front = front} {rest = rest} {joint = joint} front_is other stops) =
    let reached = reach front rest joint front_is (λ blanks. absurd (other blanks)) in
    fails_there (front ++ rest) joint rest (BadConstraint (length front)) reached (rw (no_word rest stops, place_is (front ++ rest) front rest refl) refl)

pub fault_meant : (text : List ℕ) (own : Version) (fault : ConstraintFault) → IsFault text fault → constraint_of text own ≡ Err fault
unfolding constraint_of
fault_meant text own fault is = rw (differs (trimmed text) (codes "self.version") is.other, fault_again text fault is.is) refl
