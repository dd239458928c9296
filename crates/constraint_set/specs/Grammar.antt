-- The forms of a constraint as a grammar: a text is a constraint exactly where some way of cutting it into words, gaps
-- and what joins the parts fits (Composer documentation, "Versions and constraints"; composer/semver,
-- VersionParser::parseConstraints). What the words of a part mean stands in Parts.
use Rattle.std.specs.Prelude.{◌≡◌, ℕ, ◌<◌, List, [], ◌∷◌, ◌++◌, length, true, Some, Ok, codes, ◌⊎◌}
use Rattle.std.specs.List.{list_all}
use Rattle.path_name.specs.Bytes.{is_blank}
use Rattle.version_norm.specs.declared.version.Version.{Version}
use Rattle.version_norm.specs.Versions.{trimmed}
use Rattle.constraint_set.specs.declared.constraint.Operator.{Operator}
use Rattle.constraint_set.specs.declared.constraint.Constraint.{Constraint}
use Rattle.constraint_set.specs.declared.part.Part.{Part}
use Rattle.constraint_set.specs.declared.words.Joint.{Joint}
use Rattle.constraint_set.specs.declared.words.Joint.TheVariants as joints
use Rattle.constraint_set.specs.Words.{Form, range, compared, alone, is_in_word, operator_word}
use Rattle.constraint_set.specs.Parts.{form_part}
use Rattle.constraint_set.specs.Constraints.{constraint_in, own_constraint}

-- any count of blanks, and at least one
abbrev pub IsBlanks : List ℕ → Type 0
IsBlanks text = list_all is_blank text ≡ true

pub record IsGap (text : List ℕ) : Type 0 where
  pub some : 0 < length text
  pub blank : IsBlanks text

-- at least one byte, none of them a blank, `,` or `|`
pub record IsWord (word : List ℕ) : Type 0 where
  pub some : 0 < length word
  pub all : list_all is_in_word word ≡ true

-- the words of a part: one word; an operator word and a word; or a word, `-` and a word
pub data IsFormOf : List ℕ → Form → Type 0 where
  word : {w : List ℕ} → IsWord w → IsFormOf w (alone w)
  comparison : {symbol gap w : List ℕ} {operator : Operator} → IsWord symbol → operator_word symbol ≡ Some operator → IsGap gap → IsWord w → IsFormOf (symbol ++ (gap ++ w)) (compared operator w)
  span : {v before after w : List ℕ} → IsWord v → IsGap before → IsGap after → IsWord w → IsFormOf (v ++ (before ++ (codes "-" ++ (after ++ w)))) (range v w)

-- `|` or `||`
abbrev pub IsBar : List ℕ → Type 0
IsBar text = (text ≡ codes "|") ⊎ (text ≡ codes "||")

-- what joins two parts: blanks; a comma with any blanks around it; or a bar with any blanks around it
pub data IsJoint : List ℕ → Joint → Type 0 where
  blanks : {gap : List ℕ} → IsGap gap → IsJoint gap joints.Blanks
  comma : (before after : List ℕ) → IsBlanks before → IsBlanks after → IsJoint (before ++ (codes "," ++ after)) joints.Comma
  bar : (before mark after : List ℕ) → IsBlanks before → IsBar mark → IsBlanks after → IsJoint (before ++ (mark ++ after)) joints.Bar

-- parts that some rule reads, with what joins them, from the first byte of the first one to the end of the text
pub data IsParts : Joint → List ℕ → List (Joint × Part) → Type 0 where
  last : {joint : Joint} {text : List ℕ} {form : Form} {part : Part} (end : List ℕ) → IsFormOf text form → form_part form ≡ Ok part → IsBlanks end → IsParts joint (text ++ end) ((joint, part) ∷ [])
  more : {joint next : Joint} {text between rest : List ℕ} {form : Form} {part : Part} {parts : List (Joint × Part)} → IsFormOf text form → form_part form ≡ Ok part → IsJoint between next
      → IsParts next rest parts → IsParts joint (text ++ (between ++ rest)) ((joint, part) ∷ parts)

-- `self.version` with any blanks around it; else parts, with any blanks before them
pub data IsConstraint : List ℕ → Version → Constraint → Type 0 where
  own_version : {text : List ℕ} {own : Version} → trimmed text ≡ codes "self.version" → IsConstraint text own (own_constraint own)
  read_parts : {rest : List ℕ} {own : Version} {parts : List (Joint × Part)} (before : List ℕ) → (trimmed (before ++ rest) ≡ codes "self.version" → ⊥) → IsBlanks before → IsParts joints.First rest parts
      → IsConstraint (before ++ rest) own (constraint_in parts)
