-- What the parts of a constraint mean: lists of comparisons, and the stability that is written or that the version
-- has (Composer documentation, "Versions and constraints", "Stability constraints"; composer/semver,
-- VersionParser::parseConstraint). A part that no rule reads is refused as a text that is no version.
use Rattle.std.specs.Prelude.{ℕ, ◌+◌, List, [], ◌∷◌, length, take, drop, Bool, true, false, not, ◌&&◌, ◌||◌, ◌==◌, nat_lt, nat_eq, if◌then◌else◌, Option, Some, None, Result, Ok, Err, codes, is_some, is_none}
use Rattle.std.specs.List.{position_or_len, starts_with, ends_with}
use Rattle.path_name.specs.Given.{◌>>=◌}
use Rattle.path_name.specs.Bytes.{lowered}
use Rattle.path_name.specs.Orders.{bytes_are_equal}
use Rattle.version_norm.specs.declared.fault.VersionFault.{VersionFault}
use Rattle.version_norm.specs.declared.fault.VersionFault.TheVariants.{NotAVersion}
use Rattle.version_norm.specs.declared.version.Grade.{Grade}
use Rattle.version_norm.specs.declared.version.Grade.TheVariants as grades
use Rattle.version_norm.specs.declared.version.Stage.{Stage}
use Rattle.version_norm.specs.declared.version.Stage.TheVariants as stages
use Rattle.version_norm.specs.declared.version.Numbers.{Numbers}
use Rattle.version_norm.specs.declared.version.Numbered.{Numbered}
use Rattle.version_norm.specs.declared.version.Version.{Version}
use Rattle.version_norm.specs.declared.version.Version.TheVariants as versions
use Rattle.version_norm.specs.declared.written.Position.{Position}
use Rattle.version_norm.specs.declared.written.Position.TheVariants as positions
use Rattle.version_norm.specs.declared.written.WrittenNumbers.{WrittenNumbers}
use Rattle.version_norm.specs.declared.written.Classical.{Classical}
use Rattle.version_norm.specs.Pieces.{is_small_v, is_wildcard, without_first}
use Rattle.version_norm.specs.Versions.{without_flag, normal_form}
use Rattle.version_norm.specs.Stability.{rank_of, stability_of}
use Rattle.version_norm.specs.Written.{written_numbers_at, classical_form}
use Rattle.constraint_set.specs.declared.constraint.Operator.{Operator}
use Rattle.constraint_set.specs.declared.constraint.Operator.TheVariants as operators
use Rattle.constraint_set.specs.declared.constraint.Comparison.{Comparison}
use Rattle.constraint_set.specs.declared.part.Bounds.TheVariants as bounds
use Rattle.constraint_set.specs.declared.part.Part.{Part}
use Rattle.constraint_set.specs.Words.{operator_at, Form, range, compared, alone}

-- ---- what is cut off a word

-- the stability that a word names, in any case
abbrev pub grade_named : List ℕ → Option Grade
grade_named word =
    if bytes_are_equal (lowered word) (codes "stable") then Some grades.Stable
    else if bytes_are_equal (lowered word) (codes "rc") then Some grades.Rc
    else if bytes_are_equal (lowered word) (codes "beta") then Some grades.Beta
    else if bytes_are_equal (lowered word) (codes "alpha") then Some grades.Alpha
    else if bytes_are_equal (lowered word) (codes "dev") then Some grades.Dev
    else None

-- the stability behind a final `@`
abbrev pub flag_in : List ℕ → Option Grade
flag_in word = grade_named (drop (length (without_flag word) + 1) word)

abbrev pub or_any : List ℕ → List ℕ
or_any [] = codes "*"
or_any (byte ∷ rest) = byte ∷ rest

abbrev pub is_hash : ℕ → Bool
is_hash byte = byte == 35

-- it begins with `dev-`
abbrev pub is_branch_word : List ℕ → Bool
is_branch_word word = starts_with nat_eq word (codes "dev-")

-- it ends in `-dev`
abbrev pub is_dev_line : List ℕ → Bool
is_dev_line word = ends_with nat_eq word (codes "-dev")

-- the first `#` and what follows it is cut from a word that begins with `dev-`, or that ends in `-dev` before it
abbrev pub without_reference : List ℕ → List ℕ
without_reference word =
    let front = take (position_or_len is_hash word) word in
    if is_branch_word word || is_dev_line front then front else word

-- the word without its final `@` and stability, or `*` where nothing is left, and then without a reference
unfoldable pub bare_word : List ℕ → List ℕ
bare_word word = without_reference (or_any (without_flag word))

-- ---- stabilities

-- the less stable one of those that there are
abbrev pub less_stable : Option Grade → Option Grade → Option Grade
less_stable None second = second
less_stable (Some first) None = Some first
less_stable (Some first) (Some second) = if nat_lt (rank_of first) (rank_of second) then Some second else Some first

abbrev pub if_unstable : Grade → Option Grade
if_unstable grades.Stable = None
if_unstable grades.Rc = Some grades.Rc
if_unstable grades.Beta = Some grades.Beta
if_unstable grades.Alpha = Some grades.Alpha
if_unstable grades.Dev = Some grades.Dev

-- a version's stability, where it isn't stable
abbrev pub inferred_of : Version → Option Grade
inferred_of version = if_unstable (stability_of version)

-- ---- versions in comparisons

-- a version without modifier gets the dev mark
abbrev pub from_dev : Numbered → Numbered
from_dev v = record { numbers = v.numbers; modifier = v.modifier; dev = v.dev || is_none v.modifier }

-- one is added to the number there, and the later ones are 0
abbrev pub raised : Position → Numbers → Numbers
raised positions.Major n = record { major = n.major + 1; minor = 0; release = 0; build = 0 }
raised positions.Minor n = record { major = n.major; minor = n.minor + 1; release = 0; build = 0 }
raised positions.Release n = record { major = n.major; minor = n.minor; release = n.release + 1; build = 0 }
raised positions.Build n = record { major = n.major; minor = n.minor; release = n.release; build = n.build + 1 }

-- up to the next number there, and it has the dev mark
abbrev pub up : Position → Numbers → Version
up position n = versions.Numbered (record { numbers = raised position n; modifier = None; dev = true })

abbrev pub comparison : Operator → Version → Comparison
comparison operator version = record { operator = operator; version = version }

abbrev pub from : Numbered → Comparison
from v = comparison operators.GreaterOrEqual (versions.Numbered (from_dev v))

abbrev pub below : Position → Numbers → Comparison
below position n = comparison operators.Less (up position n)

-- ---- `*`, `x` or `X`, and any count of `.*`, `.x`, `.X` after it: any version

abbrev pub are_wild : List ℕ → Bool
are_wild [] = true
are_wild (dot ∷ []) = false
are_wild (dot ∷ byte ∷ rest) = dot == 46 && is_wildcard byte && are_wild rest

abbrev pub is_any : List ℕ → Bool
is_any [] = false
is_any (byte ∷ rest) = is_wildcard byte && are_wild rest

-- ---- an optional `v`, one to three numbers, and one or more of `.*`, `.x`, `.X`: from the numbers on, below the next last number

abbrev pub is_build : Position → Bool
is_build positions.Major = false
is_build positions.Minor = false
is_build positions.Release = false
is_build positions.Build = true

unfoldable pub wildcard_of : List ℕ → Result WrittenNumbers VersionFault
wildcard_of word = do
  written ← written_numbers_at 18 (without_first is_small_v word)
  if nat_lt 0 (length written.1) && are_wild written.1 && not (is_build written.0.last) then Ok written.0 else Err NotAVersion

abbrev pub wildcard_part : Option Grade → WrittenNumbers → Part
wildcard_part flag w = record {
  bounds = bounds.Two (from (record { numbers = w.numbers; modifier = None; dev = false })) (below w.last w.numbers);
  written = flag;
  inferred = None;
}

-- ---- `~V`: from V on, below the next number before the last one that is written, or below the next first number where it alone is

abbrev pub tilde_position : Position → Position
tilde_position positions.Major = positions.Major
tilde_position positions.Minor = positions.Major
tilde_position positions.Release = positions.Minor
tilde_position positions.Build = positions.Release

-- ---- `^V`: from V on, below the next of the first number that isn't 0, among those that are written but the fourth

abbrev pub caret_position : Position → Numbers → Position
caret_position positions.Major n = positions.Major
caret_position positions.Minor n = if 0 == n.major then positions.Minor else positions.Major
caret_position positions.Release n = if 0 == n.major then (if 0 == n.minor then positions.Release else positions.Minor) else positions.Major
caret_position positions.Build n = if 0 == n.major then (if 0 == n.minor then positions.Release else positions.Minor) else positions.Major

-- from a version on, below the next number there
abbrev pub between : Option Grade → Numbered → Position → Part
between flag v position = record {
  bounds = bounds.Two (from v) (below position v.numbers);
  written = flag;
  inferred = inferred_of (versions.Numbered v);
}

unfoldable pub tilde_part : Option Grade → List ℕ → Result Part VersionFault
tilde_part flag word = do
  c ← classical_form word
  Ok (between flag c.numbered (tilde_position c.last))

unfoldable pub caret_part : Option Grade → List ℕ → Result Part VersionFault
caret_part flag word = do
  c ← classical_form word
  Ok (between flag c.numbered (caret_position c.last c.numbered.numbers))

-- ---- V: that version

abbrev pub one : Option Grade → Version → Operator → Version → Part
one flag named operator version = record { bounds = bounds.One (comparison operator version); written = flag; inferred = inferred_of named }

unfoldable pub exact_part : Option Grade → List ℕ → Result Part VersionFault
exact_part flag word = do
  version ← normal_form word
  Ok (one flag version operators.Equal version)

-- ---- a word without an operator

abbrev pub else_exact : Option Grade → Result WrittenNumbers VersionFault → Result Part VersionFault → Result Part VersionFault
else_exact flag (Ok written) exact = Ok (wildcard_part flag written)
else_exact flag (Err fault) exact = exact

abbrev pub any_part : Option Grade → Part
any_part flag = record { bounds = bounds.Any; written = flag; inferred = None }

unfoldable pub plain_part : Option Grade → List ℕ → Result Part VersionFault
plain_part flag [] = Err NotAVersion
plain_part flag (byte ∷ rest) =
    if byte == 126 then tilde_part flag rest
    else if byte == 94 then caret_part flag rest
    else if is_any (byte ∷ rest) then Ok (any_part flag)
    else else_exact flag (wildcard_of (byte ∷ rest)) (exact_part flag (byte ∷ rest))

-- ---- an operator and a version

abbrev pub is_equal : Operator → Bool
is_equal operators.Less = false
is_equal operators.LessOrEqual = false
is_equal operators.Greater = false
is_equal operators.GreaterOrEqual = false
is_equal operators.Equal = true
is_equal operators.NotEqual = false

-- `>=` and `<`: the operators that stand between a version and those before it
abbrev pub is_at_start : Operator → Bool
is_at_start operators.Less = true
is_at_start operators.LessOrEqual = false
is_at_start operators.Greater = false
is_at_start operators.GreaterOrEqual = true
is_at_start operators.Equal = false
is_at_start operators.NotEqual = false

abbrev pub with_stage : Stage → Numbered → Numbered
with_stage stage v = record { numbers = v.numbers; modifier = if is_none v.modifier then Some (record { stage = stage; numbers = [] }) else v.modifier; dev = v.dev }

-- a stable version under a flag: the dev mark, or the modifier where it has none
abbrev pub flagged : Grade → Numbered → Numbered
flagged grades.Stable v = v
flagged grades.Rc v = with_stage stages.Rc v
flagged grades.Beta v = with_stage stages.Beta v
flagged grades.Alpha v = with_stage stages.Alpha v
flagged grades.Dev v = record { numbers = v.numbers; modifier = v.modifier; dev = true }

abbrev pub started : Operator → Numbered → Numbered
started operator v = if is_at_start operator then from_dev v else v

-- A flag other than stable is put on a stable version that isn't under `==`; else `>=` and `<` give a version
-- without modifier the dev mark.
abbrev pub marked_numbered : Operator → Option Grade → Numbered → Numbered
marked_numbered operator None v = started operator v
marked_numbered operator (Some grade) v =
    if is_some (if_unstable grade) && not (is_equal operator) && is_none (inferred_of (versions.Numbered v)) then flagged grade v else started operator v

abbrev pub marked : Operator → Option Grade → Version → Version
marked operator flag (versions.Branch name) = versions.Branch name
marked operator flag (versions.Numbered v) = versions.Numbered (marked_numbered operator flag v)

unfoldable pub compared_part : Operator → Option Grade → List ℕ → Result Part VersionFault
compared_part operator flag word = do
  version ← normal_form word
  Ok (one flag version operator (marked operator flag version))

-- ---- a word that may begin with an operator

abbrev pub operand_part : Option Grade → List ℕ → Option (Operator × List ℕ) → Result Part VersionFault
operand_part flag word None = plain_part flag word
operand_part flag word (Some found) = compared_part found.0 flag found.1

unfoldable pub word_part : List ℕ → Result Part VersionFault
word_part word = operand_part (flag_in word) (bare_word word) (operator_at (bare_word word))

-- ---- `V - W`: from V on, and up to W with it where W has three or more written numbers, a modifier or a dev mark, else below the next last number of W

abbrev pub is_short : Position → Bool
is_short positions.Major = true
is_short positions.Minor = true
is_short positions.Release = false
is_short positions.Build = false

abbrev pub to_classical : Classical → Comparison
to_classical c =
    if is_short c.last && is_none c.numbered.modifier && not c.numbered.dev then below c.last c.numbered.numbers
    else comparison operators.LessOrEqual (versions.Numbered c.numbered)

-- a W that isn't classical is a numbered branch, which has the dev mark; a branch by its name is bad
abbrev pub to_branch : Result Version VersionFault → Result Comparison VersionFault
to_branch (Ok (versions.Numbered v)) = Ok (comparison operators.LessOrEqual (versions.Numbered v))
to_branch (Ok (versions.Branch name)) = Err NotAVersion
to_branch (Err fault) = Err fault

abbrev pub else_to_branch : Result Classical VersionFault → Result Comparison VersionFault → Result Comparison VersionFault
else_to_branch (Ok c) branch = Ok (to_classical c)
else_to_branch (Err fault) branch = branch

unfoldable pub upper_of : List ℕ → Result Comparison VersionFault
upper_of word = else_to_branch (classical_form word) (to_branch (normal_form word))

unfoldable pub range_part : List ℕ → List ℕ → Result Part VersionFault
range_part v w = do
  low ← classical_form (bare_word v)
  high ← upper_of (bare_word w)
  Ok (record { bounds = bounds.Two (from low.numbered) high; written = less_stable (flag_in v) (flag_in w); inferred = None })

-- ---- a part by its form

abbrev pub form_part : Form → Result Part VersionFault
form_part (range v w) = range_part v w
form_part (compared operator word) = compared_part operator (flag_in word) (bare_word word)
form_part (alone word) = word_part word
