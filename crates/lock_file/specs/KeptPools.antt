-- When the lock of a plan is read again as it was.
use Rattle.std.specs.Prelude.{◌≡◌, ℕ, true, List, Some, Ok}
use Rattle.std.specs.List.{AllByRecursion, slice_get}
use Rattle.std.specs.Str.{IsUtf8}
use Rattle.path_name.specs.Orders.{bytes_are_equal}
use Rattle.json_ordered.specs.JsonTree.{JsonTree}
use Rattle.manifest_read.specs.declared.types.Manifest.{Manifest}
use Rattle.manifest_read.specs.declared.types.Role.TheVariants.{Root, Member}
use Rattle.manifest_read.specs.Manifests.{manifest_of}
use Rattle.manifest_read.specs.Writable.{IsWritten}
use Rattle.pkg_pool.specs.declared.pool.Candidate.{Candidate}
use Rattle.pkg_pool.specs.declared.pool.Pool.{Pool}
use Rattle.plan_rules.specs.Sets.{is_in}

-- its package is what a composer.json says of a member
pub record IsDocumented (candidate : Candidate) : Type 0 where
  pub tree : JsonTree
  pub manifest : Manifest
  pub written : IsWritten tree
  pub read : manifest_of Member tree ≡ Ok manifest
  pub is : candidate.«package» ≡ manifest.«package»
  pub reference : IsUtf8 candidate.reference

-- it is what a composer.json says of a root
pub record IsDocumentedRoot (root : Manifest) : Type 0 where
  pub tree : JsonTree
  pub written : IsWritten tree
  pub read : manifest_of Root tree ≡ Ok root

-- no two members have one name
abbrev pub HaveOwnNames : Pool → List ℕ → Type 0
HaveOwnNames pool plan = (one other : ℕ) (c d : Candidate) → is_in one plan ≡ true → is_in other plan ≡ true → slice_get pool.candidates one ≡ Some c → slice_get pool.candidates other ≡ Some d
    → bytes_are_equal c.«package».name d.«package».name ≡ true → one ≡ other

pub record IsDocumentedPool (pool : Pool) : Type 0 where
  pub root : IsDocumentedRoot pool.root
  pub candidates : AllByRecursion IsDocumented pool.candidates
