-- The lock of a plan: which of its packages are required at run time, and which for development alone (Composer's
-- documentation, "The composer.json schema", "require" and "require-dev").
use Rattle.std.specs.Prelude.{◌≡◌, ℕ, true, not, List, [], map, filter, find, length, Option, option_map}
use Rattle.std.specs.List.{AllByRecursion}
use Rattle.std.specs.List.Sorted.{IsStrictlySortedBy}
use Rattle.std.specs.Option.{option_map_or}
use Rattle.path_name.specs.Orders.{byte_cmp, bytes_are_equal}
use Rattle.version_norm.specs.Stability.{rank_of}
use Rattle.version_norm.specs.declared.version.Grade.{Grade}
use Rattle.manifest_read.specs.declared.types.Link.{Link}
use Rattle.manifest_read.specs.declared.types.Manifest.{Manifest}
use Rattle.pkg_pool.specs.Stability.{root_flag}
use Rattle.pkg_pool.specs.declared.pool.Candidate.{Candidate}
use Rattle.pkg_pool.specs.declared.pool.Pool.{Pool}
use Rattle.plan_rules.specs.Sets.{Chosen, has, is_in, set_of, IsWithin}
use Rattle.plan_rules.specs.Requirements.{is_on_package}
use Rattle.plan_rules.specs.Preference.{package_at, is_alternative}
use Rattle.plan_rules.specs.Validity.{chosen}
use Rattle.lock_file.specs.declared.types.Locked.{Locked}
use Rattle.lock_file.specs.declared.types.PlatformLink.{PlatformLink}
use Rattle.lock_file.specs.declared.types.FlagRow.{FlagRow}
use Rattle.lock_file.specs.declared.types.Lock.{Lock}
use Rattle.lock_file.specs.InstalledText.{IsByName}

-- ---- what is required at run time

-- each member of the plan that meets the requirement belongs to the set
abbrev pub HasMet : Pool → List ℕ → Chosen → Link → Type 0
HasMet pool plan set link = (number : ℕ) → is_in number plan ≡ true → is_alternative pool link number ≡ true → has set number ≡ true

-- what a candidate requires, by its number
abbrev pub requirements_at : Pool → ℕ → List Link
requirements_at pool number = option_map_or (λ party. party.require) (package_at pool number) []

-- The set has each member of the plan that meets a requirement of the root, or of a candidate of the set. What is required
-- for development doesn't count.
pub record IsClosed (pool : Pool) (plan : List ℕ) (set : Chosen) : Type 0 where
  pub root : AllByRecursion (HasMet pool plan set) pool.root.«package».require
  pub members : (number : ℕ) → has set number ≡ true → AllByRecursion (HasMet pool plan set) (requirements_at pool number)

-- the least such set: what is required at run time
pub record IsRuntime (pool : Pool) (plan : List ℕ) (set : Chosen) : Type 0 where
  pub closed : IsClosed pool plan set
  pub least : (other : Chosen) → IsClosed pool plan other → IsWithin set other

-- the members that don't belong to a set
abbrev pub others : List ℕ → Chosen → List ℕ
others plan set = filter (λ number. not (has set number)) plan

-- ---- what is locked

abbrev pub locked_of : Candidate → Locked
locked_of candidate = record { «package» = candidate.«package»; url = candidate.url; reference = candidate.reference }

-- the candidates of a set, in byte order of name
abbrev pub IsListing : Pool → Chosen → List Locked → Type 0
IsListing pool set list = IsByName (map locked_of (chosen set pool.candidates)) list

-- ---- the other keys

-- the requirements on the platform, in order
abbrev pub platform_links : List Link → List PlatformLink
platform_links links = map (λ (link : Link). record { name = link.name; text = link.text }) (filter (λ link. not (is_on_package link)) links)

abbrev pub rank_in : List FlagRow → List ℕ → Option ℕ
rank_in rows name = option_map (λ row. row.rank) (find (λ row. bytes_are_equal row.name name) rows)

-- a row of a name and its flag
abbrev pub row_of : List ℕ × Grade → FlagRow
row_of flag = record { name = flag.0; rank = rank_of flag.1 }

-- one row for each name that has a flag that counts among the root's requirements, in byte order of name
pub record AreFlagRows (root : Manifest) (rows : List FlagRow) : Type 0 where
  pub ascending : IsStrictlySortedBy byte_cmp (map (λ row. row.name) rows)
  pub each : (name : List ℕ) → rank_in rows name ≡ option_map rank_of (root_flag root name)

-- ---- the lock

-- Names of a plan's members are distinct, so there is one such lock.
pub record IsLockOf (pool : Pool) (plan hash : List ℕ) (lock : Lock) : Type 0 where
  pub runtime : Chosen
  pub is_runtime : IsRuntime pool plan runtime
  pub content_hash : lock.content_hash ≡ hash
  pub packages : IsListing pool runtime lock.packages
  pub packages_dev : IsListing pool (set_of (length pool.candidates) (others plan runtime)) lock.packages_dev
  pub minimum : lock.minimum ≡ pool.root.minimum
  pub flags : AreFlagRows pool.root lock.flags
  pub prefer_stable : lock.prefer_stable ≡ pool.root.prefer_stable
  pub platform : lock.platform ≡ platform_links pool.root.«package».require
  pub platform_dev : lock.platform_dev ≡ platform_links pool.root.require_dev
