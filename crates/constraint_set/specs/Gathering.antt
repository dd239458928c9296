-- What the reader has gathered, and the constraint that it makes of it and of the parts that are left.
use Rattle.std.specs.Prelude.{ℕ, List, ◌++◌, Option, Result, Ok}
use Rattle.path_name.specs.Given.{◌>>=◌}
use Rattle.version_norm.specs.declared.version.Grade.{Grade}
use Rattle.constraint_set.specs.declared.fault.ConstraintFault.{ConstraintFault}
use Rattle.constraint_set.specs.declared.constraint.Comparison.{Comparison}
use Rattle.constraint_set.specs.declared.constraint.Constraint.{Constraint}
use Rattle.constraint_set.specs.declared.part.Part.{Part}
use Rattle.constraint_set.specs.declared.words.Joint.{Joint}
use Rattle.constraint_set.specs.Constraints.{parts_of, alternatives_from, written_in, inferred_in, flag_of, constraint_in}

-- whole alternatives, the comparisons of the last one, and the stabilities so far; and the parts behind them
abbrev pub constraint_behind : List (List Comparison) → List Comparison → Option Grade → Option Grade → List (Joint × Part) → Constraint
constraint_behind whole last written inferred parts = record { alternatives = whole ++ alternatives_from last parts; flag = flag_of (written_in written parts) (inferred_in inferred parts) }

unfoldable pub parts_constraint : List ℕ → Result Constraint ConstraintFault
parts_constraint text = do
  parts ← parts_of text
  Ok (constraint_in parts)
