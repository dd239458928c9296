-- The constraint that a text is read as, or its fault (Composer documentation, "Versions and constraints";
-- composer/semver, VersionParser::parseConstraints).
use Rattle.std.specs.Prelude.{ℕ, zero, suc, ◌+◌, ◌-◌, List, [], ◌∷◌, ◌++◌, length, Bool, if◌then◌else◌, Option, Some, None, Result, Ok, Err, codes}
use Rattle.path_name.specs.Given.{◌>>=◌}
use Rattle.path_name.specs.Orders.{bytes_are_equal}
use Rattle.version_norm.specs.declared.fault.VersionFault.{VersionFault}
use Rattle.version_norm.specs.declared.fault.VersionFault.TheVariants.{DateVersion, NotAVersion}
use Rattle.version_norm.specs.declared.fault.VersionFault.TheVariants as version_faults
use Rattle.version_norm.specs.declared.version.Grade.{Grade}
use Rattle.version_norm.specs.declared.version.Version.{Version}
use Rattle.version_norm.specs.Versions.{trimmed, without_blanks_before}
use Rattle.constraint_set.specs.declared.fault.ConstraintFault.{ConstraintFault}
use Rattle.constraint_set.specs.declared.fault.ConstraintFault.TheVariants.{InlineAlias, BadConstraint, OutOfMemory}
use Rattle.constraint_set.specs.declared.constraint.Comparison.{Comparison}
use Rattle.constraint_set.specs.declared.constraint.Operator.TheVariants as operators
use Rattle.constraint_set.specs.declared.constraint.Flag.{Flag}
use Rattle.constraint_set.specs.declared.constraint.Flag.TheVariants.{Written, Inferred}
use Rattle.constraint_set.specs.declared.constraint.Constraint.{Constraint}
use Rattle.constraint_set.specs.declared.part.Bounds.{Bounds}
use Rattle.constraint_set.specs.declared.part.Bounds.TheVariants as bounds
use Rattle.constraint_set.specs.declared.part.Part.{Part}
use Rattle.constraint_set.specs.declared.words.Joint.{Joint}
use Rattle.constraint_set.specs.declared.words.Joint.TheVariants as joints
use Rattle.constraint_set.specs.Words.{word_here, form_at, joint_at, is_alias}
use Rattle.constraint_set.specs.Parts.{form_part, less_stable, inferred_of, comparison}

-- ---- the parts of a text, each with what joins it to the one before

-- what was read of a text of this length, and what follows it
abbrev pub Reading : Type 0 → Type 0
Reading X = Result (X × List ℕ) ConstraintFault

-- the place of what is left of a text of this length
abbrev pub place_of : ℕ → List ℕ → ℕ
place_of whole rest = whole - length rest

-- a part that no rule reads is bad there
abbrev pub refusal_of : ℕ → VersionFault → ConstraintFault
refusal_of at DateVersion = BadConstraint at
refusal_of at NotAVersion = BadConstraint at
refusal_of at version_faults.OutOfMemory = OutOfMemory

abbrev pub followed_by : ℕ → List ℕ → Result Part VersionFault → Reading Part
followed_by at rest (Ok part) = Ok (part, rest)
followed_by at rest (Err fault) = Err (refusal_of at fault)

-- a part that begins with this word: an alias, or what its form means
abbrev pub part_from : ℕ → Joint → List ℕ → List ℕ → Reading Part
part_from at joint word rest =
    if is_alias joint word rest then Err (InlineAlias at)
    else followed_by at (form_at word rest).1 (form_part (form_at word rest).0)

-- where no word comes, a part is missing
abbrev pub part_or_missing : ℕ → Joint → Option (List ℕ × List ℕ) → Reading Part
part_or_missing at joint None = Err (BadConstraint at)
part_or_missing at joint (Some first) = part_from at joint first.0 first.1

-- the part behind blanks
unfoldable pub part_at : ℕ → Joint → List ℕ → Reading Part
part_at whole joint text = part_or_missing (place_of whole (without_blanks_before text)) joint (word_here (without_blanks_before text))

-- the parts from there on, at most so many
unfoldable pub parts_within : ℕ → ℕ → Option (Joint × List ℕ) → Result (List (Joint × Part)) ConstraintFault
parts_within most whole None = Ok []
parts_within zero whole (Some next) = Ok []
parts_within (suc most) whole (Some next) = do
  part ← part_at whole next.0 next.1
  others ← parts_within most whole (joint_at part.1)
  Ok ((next.0, part.0) ∷ others)

-- all parts of a text: it has no more parts than bytes, and one more
unfoldable pub parts_of : List ℕ → Result (List (Joint × Part)) ConstraintFault
parts_of text = parts_within (length text + 1) (length text) (Some (joints.First, text))

-- ---- the constraint of these parts

abbrev pub comparisons_in : Bounds → List Comparison
comparisons_in bounds.Any = []
comparisons_in (bounds.One c) = c ∷ []
comparisons_in (bounds.Two low high) = low ∷ high ∷ []

abbrev pub comparisons_of : Part → List Comparison
comparisons_of part = comparisons_in part.bounds

-- The alternatives: the comparisons of the parts up to a `|` or `||` are one. Those of the first one so far are given.
abbrev pub alternatives_from : List Comparison → List (Joint × Part) → List (List Comparison)
alternatives_from so_far [] = so_far ∷ []
alternatives_from so_far ((joints.Bar, part) ∷ parts) = so_far ∷ alternatives_from (comparisons_of part) parts
alternatives_from so_far ((joints.First, part) ∷ parts) = alternatives_from (so_far ++ comparisons_of part) parts
alternatives_from so_far ((joints.Comma, part) ∷ parts) = alternatives_from (so_far ++ comparisons_of part) parts
alternatives_from so_far ((joints.Blanks, part) ∷ parts) = alternatives_from (so_far ++ comparisons_of part) parts

-- the least stable of the written stabilities
abbrev pub written_in : Option Grade → List (Joint × Part) → Option Grade
written_in least [] = least
written_in least (part ∷ parts) = written_in (less_stable least part.1.written) parts

-- the stability of the version of the one part, where there is only one
abbrev pub sole_inferred : Joint → Option Grade → Option Grade
sole_inferred joints.First inferred = inferred
sole_inferred joints.Blanks inferred = None
sole_inferred joints.Comma inferred = None
sole_inferred joints.Bar inferred = None

abbrev pub inferred_in : Option Grade → List (Joint × Part) → Option Grade
inferred_in last [] = last
inferred_in last (part ∷ parts) = inferred_in (sole_inferred part.0 part.1.inferred) parts

abbrev pub flag_of : Option Grade → Option Grade → Option Flag
flag_of (Some written) inferred = Some (Written written)
flag_of None (Some inferred) = Some (Inferred inferred)
flag_of None None = None

abbrev pub constraint_in : List (Joint × Part) → Constraint
constraint_in parts = record { alternatives = alternatives_from [] parts; flag = flag_of (written_in None parts) (inferred_in None parts) }

-- ---- a whole text

-- `self.version`, blanks cut
abbrev pub is_self_version : List ℕ → Bool
is_self_version text = bytes_are_equal (trimmed text) (codes "self.version")

-- the package's own version
abbrev pub own_constraint : Version → Constraint
own_constraint own = record { alternatives = (comparison operators.Equal own ∷ []) ∷ []; flag = flag_of None (inferred_of own) }

unfoldable pub constraint_of : List ℕ → Version → Result Constraint ConstraintFault
constraint_of text own = if is_self_version text then Ok (own_constraint own) else (do
  parts ← parts_of text
  Ok (constraint_in parts))
