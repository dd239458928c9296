-- Two lists are searched one after the other.
use Rattle.std.proofs.Common.{◌≡◌, List, [], ◌∷◌, ◌++◌, Option, Some, None, true, false, cond, refl}
use Rattle.version_norm.specs.declared.version.Version.{Version}
use Rattle.constraint_set.specs.declared.constraint.Comparison.{Comparison}
use Rattle.constraint_set.specs.declared.overlap.Side.{Side}
use Rattle.constraint_set.specs.Overlap.{names_branch}
use Rattle.constraint_set.specs.Ends.{Limit, limit_in, tighter_of, tightest_of, first_branch}

pub tightest_of_both : (side : Side) (so_far : Option Limit) (first second : List Comparison) → tightest_of side so_far (first ++ second) ≡ tightest_of side (tightest_of side so_far first) second
tightest_of_both side so_far [] second = refl
tightest_of_both side so_far (next ∷ rest) second = tightest_of_both side (tighter_of side so_far (limit_in side next)) rest second

-- the first of two
abbrev pub first_of : Option Version → Option Version → Option Version
first_of (Some branch) second = Some branch
first_of None second = second

pub first_branch_of_both : (first second : List Comparison) → first_branch (first ++ second) ≡ first_of (first_branch first) (first_branch second)
first_branch_of_both [] second = refl
first_branch_of_both (next ∷ rest) second =
    elim (names_branch next) as (λ t. cond t (Some next.version) (first_branch (rest ++ second)) ≡ first_of (cond t (Some next.version) (first_branch rest)) (first_branch second)) [
      | true ↦ refl
      | false ↦ first_branch_of_both rest second
    ]
