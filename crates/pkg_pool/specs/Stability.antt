-- Which packages a root's stabilities allow (Composer's documentation, "Stability constraints", "minimum-stability").
use Rattle.std.specs.Prelude.{◌≡◌, ℕ, List, [], ◌∷◌, ◌++◌, Bool, false, nat_lt, nat_le, if◌then◌else◌, Option, Some, None}
use Rattle.std.specs.Option.{unwrap_or}
use Rattle.std.specs.List.{slice_get}
use Rattle.std.specs.BTreeMap.{get}
use Rattle.path_name.specs.Orders.{byte_cmp, bytes_are_equal}
use Rattle.version_norm.specs.Stability.{rank_of, stability_of}
use Rattle.version_norm.specs.declared.version.Grade.{Grade}
use Rattle.constraint_set.specs.Satisfaction.{satisfies}
use Rattle.constraint_set.specs.declared.constraint.Constraint.{Constraint}
use Rattle.constraint_set.specs.declared.constraint.Flag.{Flag}
use Rattle.constraint_set.specs.declared.constraint.Flag.TheVariants.{Written, Inferred}
use Rattle.manifest_read.specs.declared.types.Link.{Link}
use Rattle.manifest_read.specs.declared.types.Manifest.{Manifest}
use Rattle.manifest_read.specs.declared.types.Package.{Package}
use Rattle.pkg_pool.specs.declared.pool.Candidate.{Candidate}
use Rattle.pkg_pool.specs.declared.pool.Pool.{Pool}
use Rattle.pkg_pool.specs.declared.stability.RootFlags.{RootFlags}

-- ---- root flags

-- a written stability always counts, an inferred one where it is less stable than the minimum
abbrev pub counting : Grade → Option Flag → Option Grade
counting minimum None = None
counting minimum (Some (Written grade)) = Some grade
counting minimum (Some (Inferred grade)) = if nat_lt (rank_of minimum) (rank_of grade) then Some grade else None

-- the less stable of two
abbrev pub less_stable : Option Grade → Option Grade → Option Grade
less_stable None second = second
less_stable (Some first) None = Some first
less_stable (Some first) (Some second) = if nat_lt (rank_of first) (rank_of second) then Some second else Some first

-- the flag of a name, from one more requirement
abbrev pub flag_step : Grade → List ℕ → Option Grade → Link → Option Grade
flag_step minimum name found link = if bytes_are_equal link.name name then less_stable found (counting minimum link.wants.flag) else found

-- from requirements, behind what was found before
abbrev pub flag_from : Grade → List ℕ → Option Grade → List Link → Option Grade
flag_from minimum name found [] = found
flag_from minimum name found (link ∷ links) = flag_from minimum name (flag_step minimum name found link) links

-- the flag of a name: the least stable that counts of the root's requirements on it, those for development included
unfoldable pub root_flag : Manifest → List ℕ → Option Grade
root_flag root name = flag_from root.minimum name None (root.«package».require ++ root.require_dev)

-- ---- what is allowed

-- the least stability that a package of a name may have
abbrev pub bound_of : Manifest → List ℕ → Grade
bound_of root name = unwrap_or (root_flag root name) root.minimum

unfoldable pub is_allowed : Manifest → Candidate → Bool
is_allowed root c = nat_le (rank_of (stability_of c.«package».version)) (rank_of (bound_of root c.«package».name))

abbrev pub is_allowed_one : Manifest → Option Candidate → Bool
is_allowed_one root None = false
is_allowed_one root (Some c) = is_allowed root c

-- the same of a candidate by its number
abbrev pub is_allowed_at : Pool → ℕ → Bool
is_allowed_at pool number = is_allowed_one pool.root (slice_get pool.candidates number)

-- ---- the flags by name

pub record AreFlagsOf (flags : RootFlags) (root : Manifest) : Type 0 where
  pub minimum : flags.minimum ≡ root.minimum
  pub each : (name : List ℕ) → get byte_cmp flags.flags name ≡ root_flag root name

-- ---- versions

-- Whose version meets a constraint.
abbrev pub version_meets : Package → Constraint → Bool
version_meets p wants = satisfies wants p.version
