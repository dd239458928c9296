-- Where a text that is no constraint is bad, in the grammar's words: at the first part, from the left, that no rule
-- reads or that is missing, or at an inline alias. Each part before it and what joins it to the next one are as long
-- as the text has them.
use Rattle.std.specs.Prelude.{◌≡◌, ℕ, ◌≤◌, List, [], ◌∷◌, ◌++◌, length, Bool, false, Result, Ok, Err, codes}
use Rattle.path_name.specs.Bytes.{is_blank}
use Rattle.version_norm.specs.declared.fault.VersionFault.{VersionFault}
use Rattle.version_norm.specs.declared.fault.VersionFault.TheVariants as version_faults
use Rattle.version_norm.specs.Versions.{trimmed}
use Rattle.constraint_set.specs.declared.fault.ConstraintFault.{ConstraintFault}
use Rattle.constraint_set.specs.declared.fault.ConstraintFault.TheVariants.{InlineAlias, BadConstraint, OutOfMemory}
use Rattle.constraint_set.specs.declared.part.Part.{Part}
use Rattle.constraint_set.specs.declared.words.Joint.{Joint}
use Rattle.constraint_set.specs.declared.words.Joint.TheVariants as joints
use Rattle.constraint_set.specs.Words.{Form, is_in_word}
use Rattle.constraint_set.specs.Parts.{form_part}
use Rattle.constraint_set.specs.Grammar.{IsBlanks, IsGap, IsWord, IsFormOf, IsJoint}

-- the text begins with no byte that passes
abbrev pub BeginsWithout : (ℕ → Bool) → List ℕ → Type 0
BeginsWithout passes [] = Unit {0}
BeginsWithout passes (byte ∷ rest) = passes byte ≡ false

-- the words are the longest ones at the front of the text that have a form
pub record IsPartAt (words behind : List ℕ) (form : Form) : Type 0 where
  pub is : IsFormOf words form
  pub longest : (other after : List ℕ) (some : Form) → other ++ after ≡ words ++ behind → IsFormOf other some → length other ≤ length words

-- what joins a part to the next one is the longest such text
pub record IsJointAt (between behind : List ℕ) (joint : Joint) : Type 0 where
  pub is : IsJoint between joint
  pub longest : (other after : List ℕ) (some : Joint) → other ++ after ≡ between ++ behind → IsJoint other some → length other ≤ length between

-- The text is the front, and the rest, which is joined to the front so: the front is any blanks, or parts that some rule
-- reads, each with what joins it to the next one.
pub data IsFront : List ℕ → Joint → List ℕ → Type 0 where
  first : {before rest : List ℕ} → IsBlanks before → BeginsWithout is_blank rest → IsFront before joints.First rest
  next : {front words between rest : List ℕ} {joint behind : Joint} {form : Form} {part : Part} → IsFront front joint (words ++ (between ++ rest)) → IsPartAt words (between ++ rest) form → form_part form ≡ Ok part
      → IsJointAt between rest behind → IsFront (front ++ (words ++ between)) behind rest

-- the word `as` between two words, with blanks alone around it
abbrev pub IsAliasAt : Joint → List ℕ → Type 0
IsAliasAt joint rest = (joint ≡ joints.Blanks) × (gap : List ℕ) × (word : List ℕ) × (after : List ℕ) × (rest ≡ codes "as" ++ (gap ++ (word ++ after))) × IsGap gap × IsWord word

-- no rule reads the part
abbrev pub IsUnread : Result Part VersionFault → Type 0
IsUnread (Ok part) = ⊥
IsUnread (Err version_faults.DateVersion) = Unit {0}
IsUnread (Err version_faults.NotAVersion) = Unit {0}
IsUnread (Err version_faults.OutOfMemory) = ⊥

-- a text that is not `self.version` has this fault, with the place where the front ends
pub data IsFaultAt : List ℕ → ConstraintFault → Type 0 where
  alias : {front rest : List ℕ} {joint : Joint} → IsFront front joint rest → IsAliasAt joint rest → IsFaultAt (front ++ rest) (InlineAlias (length front))
  unread : {front words behind : List ℕ} {joint : Joint} {form : Form} → IsFront front joint (words ++ behind) → (IsAliasAt joint (words ++ behind) → ⊥) → IsPartAt words behind form → IsUnread (form_part form)
      → IsFaultAt (front ++ (words ++ behind)) (BadConstraint (length front))
  missing : {front rest : List ℕ} {joint : Joint} → IsFront front joint rest → (joint ≡ joints.Blanks → ⊥) → BeginsWithout is_in_word rest → IsFaultAt (front ++ rest) (BadConstraint (length front))

pub record IsFault (text : List ℕ) (fault : ConstraintFault) : Type 0 where
  pub other : trimmed text ≡ codes "self.version" → ⊥
  pub is : IsFaultAt text fault

-- where a fault stands
abbrev pub place_in : ConstraintFault → ℕ
place_in (InlineAlias place) = place
place_in (BadConstraint place) = place
place_in OutOfMemory = 0
