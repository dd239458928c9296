-- The candidates of a pool, one after the other.
use Rattle.std.specs.Prelude.{◌≡◌, ℕ, ◌+◌, List, [], ◌∷◌, ◌++◌, length, map, filter, Bool, false, not, ◌||◌, ◌==◌, nat_lt, nat_le, if◌then◌else◌, Option, Some, None, Result, Ok, Err, Vec}
use Rattle.std.specs.List.{list_any}
use Rattle.std.specs.Ordering.{is_eq}
use Rattle.std.specs.BTreeMap.{BTreeMap, get}
use Rattle.std.specs.declared.alloc.Global.{Global}
use Rattle.path_name.specs.Orders.{byte_cmp, bytes_are_equal}
use Rattle.version_norm.specs.declared.version.Version.{Version}
use Rattle.version_norm.specs.declared.version.Version.TheVariants as versions
use Rattle.version_norm.specs.VersionOrder.{numbered_cmp}
use Rattle.tree_dev.specs.declared.limits.LimitKind.TheVariants as limits
use Rattle.pkg_pool.specs.declared.fault.PoolFault.{PoolFault}
use Rattle.pkg_pool.specs.declared.fault.PoolFault.TheVariants as faults
use Rattle.pkg_pool.specs.declared.pool.Candidate.{Candidate}
use Rattle.pkg_pool.specs.declared.gather.Held.{Held}

-- only equal numbered versions compare as equal
abbrev pub is_same_version : Version → Version → Bool
is_same_version (versions.Numbered v) (versions.Numbered w) = is_eq (numbered_cmp v w)
is_same_version (versions.Numbered v) (versions.Branch other) = false
is_same_version (versions.Branch name) (versions.Numbered w) = false
is_same_version (versions.Branch name) (versions.Branch other) = bytes_are_equal name other

-- what is asked of a candidate where another one has its name
abbrev pub row_of : Candidate → Held
row_of c = record { repository = c.repository; version = c.«package».version }

-- a candidate of the same name leaves one out: it comes from another repository, which is an earlier one, or has its
-- version
abbrev pub is_in_way : ℕ → Version → Held → Bool
is_in_way number version row = not (row.repository == number) || is_same_version row.version version

-- the candidates of a name
abbrev pub rows_of : List Candidate → List ℕ → List Held
rows_of candidates name = map row_of (filter (λ c. bytes_are_equal c.«package».name name) candidates)

abbrev pub is_left_out : List Candidate → Candidate → Bool
is_left_out candidates c = list_any (is_in_way c.repository c.«package».version) (rows_of candidates c.«package».name)

-- Of equal name and version in one repository the first counts, and a name of an earlier repository is left out of later
-- ones. Only what is not left out counts for the limits.
unfoldable pub with_candidate : List Candidate → Candidate → Result (List Candidate) PoolFault
with_candidate candidates c =
    if is_left_out candidates c then Ok candidates
    else if nat_le 4096 (length candidates) then Err (faults.Limit limits.Packages)
    else if nat_le 512 (length (rows_of candidates c.«package».name)) then Err (faults.Limit (limits.Candidates c.«package».name))
    else Ok (candidates ++ c ∷ [])

-- the bytes of the manifests that were read
unfoldable pub bytes_counted : ℕ → List ℕ → Result ℕ PoolFault
bytes_counted bytes text = if nat_lt 67108864 (bytes + length text) then Err (faults.Limit limits.PoolBytes) else Ok (bytes + length text)

-- ---- the candidates by name

abbrev pub rows_in : Option (Vec Held Global) → List Held
rows_in None = []
rows_in (Some rows) = rows.items

abbrev pub held_at : BTreeMap (List ℕ) (Vec Held Global) → List ℕ → List Held
held_at held name = rows_in (get byte_cmp held name)

-- the map has the candidates of each name
abbrev pub IsIndex : BTreeMap (List ℕ) (Vec Held Global) → List Candidate → Type 0
IsIndex held candidates = (name : List ℕ) → held_at held name ≡ rows_of candidates name
