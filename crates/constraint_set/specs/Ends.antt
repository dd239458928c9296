-- What the search for the ends of a list gives: on each side the one that leaves the least.
use Rattle.std.specs.Prelude.{List, [], ◌∷◌, Bool, true, false, not, ◌&&◌, if◌then◌else◌, Option, Some, None}
use Rattle.std.specs.List.{list_any}
use Rattle.std.specs.Ordering.{is_gt, ordering_then, bool_cmp}
use Rattle.std.specs.declared.cmp.Ordering.{Ordering}
use Rattle.version_norm.specs.declared.version.Numbered.{Numbered}
use Rattle.version_norm.specs.declared.version.Version.{Version}
use Rattle.version_norm.specs.declared.version.Version.TheVariants as versions
use Rattle.version_norm.specs.VersionOrder.{numbered_cmp}
use Rattle.constraint_set.specs.declared.constraint.Operator.{Operator}
use Rattle.constraint_set.specs.declared.constraint.Comparison.{Comparison}
use Rattle.constraint_set.specs.declared.overlap.Side.{Side}
use Rattle.constraint_set.specs.declared.overlap.Side.TheVariants as sides
use Rattle.constraint_set.specs.declared.overlap.End as code
use Rattle.constraint_set.specs.Overlap.{is_lower, is_upper, is_exclusive, names_branch, excludes, room_by}

-- a version, and whether it is left out
pub record Limit : Type 0 where
  pub version : Numbered
  pub exclusive : Bool

-- the limit that the reader's own value stands for
abbrev pub limit_of : code.End → Limit
limit_of end = record { version = end.version.now; exclusive = end.exclusive }

abbrev pub is_end : Side → Operator → Bool
is_end sides.Lower operator = is_lower operator
is_end sides.Upper operator = is_upper operator

abbrev pub limit_at : Bool → Version → Bool → Option Limit
limit_at true (versions.Numbered v) exclusive = Some (record { version = v; exclusive = exclusive })
limit_at true (versions.Branch name) exclusive = None
limit_at false version exclusive = None

-- the limit that a comparison sets on that side
abbrev pub limit_in : Side → Comparison → Option Limit
limit_in side c = limit_at (is_end side c.operator) c.version (is_exclusive c.operator)

-- the order in which versions leave less and less on that side
abbrev pub toward : Side → Numbered → Numbered → Ordering
toward sides.Lower v w = numbered_cmp v w
toward sides.Upper v w = numbered_cmp w v

-- of one version the limit that leaves it out leaves less
abbrev pub limit_cmp : Side → Limit → Limit → Ordering
limit_cmp side a b = ordering_then (toward side a.version b.version) (bool_cmp a.exclusive b.exclusive)

abbrev pub tighter_of : Side → Option Limit → Option Limit → Option Limit
tighter_of side so_far None = so_far
tighter_of side None (Some next) = Some next
tighter_of side (Some last) (Some next) = if is_gt (limit_cmp side next last) then Some next else Some last

-- the tightest limit, of one so far and those of a list
abbrev pub tightest_of : Side → Option Limit → List Comparison → Option Limit
tightest_of side so_far [] = so_far
tightest_of side so_far (next ∷ rest) = tightest_of side (tighter_of side so_far (limit_in side next)) rest

-- two limits leave room, where there are both
abbrev pub room_at : List Comparison → Option Limit → Option Limit → Bool
room_at list None high = true
room_at list (Some low) None = true
room_at list (Some low) (Some high) = room_by (numbered_cmp low.version high.version) (not low.exclusive && not high.exclusive && not (list_any (excludes (versions.Numbered low.version)) list))

-- the first `==` of a branch
abbrev pub branch_or : Comparison → Option Version → Option Version
branch_or next found = if names_branch next then Some next.version else found

abbrev pub first_branch : List Comparison → Option Version
first_branch [] = None
first_branch (next ∷ rest) = branch_or next (first_branch rest)
