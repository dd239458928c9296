-- What of a lock is read again as it was: what its text's value says is that lock.
use Rattle.std.specs.Prelude.{◌≡◌, ℕ, Bool, true, false, List, [], ◌∷◌, ◌++◌, map, Some, Ok}
use Rattle.std.specs.List.{AllByRecursion, IsDistinct, list_any}
use Rattle.std.specs.Str.{IsUtf8}
use Rattle.path_name.specs.Bytes.{lowered}
use Rattle.path_name.specs.Decimals.{decimal_text}
use Rattle.path_name.specs.Orders.{bytes_are_equal}
use Rattle.path_name.specs.Paths.{IsPath}
use Rattle.json_ordered.specs.JsonTree.{JsonTree}
use Rattle.json_ordered.specs.JsonFaults.{json_of}
use Rattle.manifest_read.specs.declared.types.Link.{Link}
use Rattle.manifest_read.specs.declared.types.PathText.{PathText}
use Rattle.manifest_read.specs.declared.types.PrefixDirs.{PrefixDirs}
use Rattle.manifest_read.specs.declared.types.Package.{Package}
use Rattle.manifest_read.specs.Autoloads.{is_star}
use Rattle.manifest_read.specs.WellFormed.{IsMember}
use Rattle.manifest_read.specs.Writable.{IsWritablePackage}
use Rattle.lock_file.specs.declared.types.Locked.{Locked}
use Rattle.lock_file.specs.declared.types.FlagRow.{FlagRow}
use Rattle.lock_file.specs.declared.types.PlatformLink.{PlatformLink}
use Rattle.lock_file.specs.declared.types.Lock.{Lock}
use Rattle.lock_file.specs.Locks.{locked_name, rank_spelled, lock_fields_of}

-- it is written in small letters
abbrev pub IsSmall : Link → Type 0
IsSmall link = lowered link.name ≡ link.name

-- a prefix whose folder was written as a text has that folder alone
abbrev pub IsOneIfSingle : Bool → List PathText → Type 0
IsOneIfSingle true [] = ⊥
IsOneIfSingle true (folder ∷ []) = Unit {0}
IsOneIfSingle true (folder ∷ next ∷ folders) = ⊥
IsOneIfSingle false folders = Unit {0}

abbrev pub IsSingleRow : PrefixDirs → Type 0
IsSingleRow row = IsOneIfSingle row.single row.folders

abbrev pub IsStarless : PathText → Type 0
IsStarless path = list_any is_star path.written ≡ false

-- what the reader of a package makes of it besides: small letters, and the two rules on folders and paths
pub record IsExact (p : Package) : Type 0 where
  pub name : lowered p.name ≡ p.name
  pub require : AllByRecursion IsSmall p.require
  pub conflict : AllByRecursion IsSmall p.conflict
  pub replace : AllByRecursion IsSmall p.replace
  pub provide : AllByRecursion IsSmall p.provide
  pub psr4 : AllByRecursion IsSingleRow p.autoload.psr4
  pub psr0 : AllByRecursion IsSingleRow p.autoload.psr0
  pub classmap : AllByRecursion IsStarless p.autoload.classmap

-- its url has the segments of a path
abbrev pub HasPath : Locked → Type 0
HasPath locked = IsPath locked.url.path

pub record HavePaths (lock : Lock) : Type 0 where
  pub packages : AllByRecursion HasPath lock.packages
  pub packages_dev : AllByRecursion HasPath lock.packages_dev

pub record IsExactLocked (locked : Locked) : Type 0 where
  pub member : IsMember locked.«package»
  pub exact : IsExact locked.«package»
  pub url : HasPath locked

-- its rank is one of the five
abbrev pub IsRanked : FlagRow → Type 0
IsRanked row = rank_spelled (decimal_text row.rank) ≡ Some row.rank

pub record IsExactLock (lock : Lock) : Type 0 where
  pub packages : AllByRecursion IsExactLocked lock.packages
  pub packages_dev : AllByRecursion IsExactLocked lock.packages_dev
  pub distinct : IsDistinct bytes_are_equal (map locked_name (lock.packages ++ lock.packages_dev))
  pub flags : AllByRecursion IsRanked lock.flags

-- ---- what can be written as JSON

pub record IsWritableLocked (locked : Locked) : Type 0 where
  pub parts : IsWritablePackage locked.«package»
  pub reference : IsUtf8 locked.reference

pub record AreWritableFlags (rows : List FlagRow) : Type 0 where
  pub each : AllByRecursion (λ (row : FlagRow). IsUtf8 row.name) rows
  pub distinct : IsDistinct bytes_are_equal (map (λ (row : FlagRow). row.name) rows)

pub record IsWritablePlatform (link : PlatformLink) : Type 0 where
  pub name : IsUtf8 link.name
  pub text : IsUtf8 link.text

pub record AreWritablePlatforms (links : List PlatformLink) : Type 0 where
  pub each : AllByRecursion IsWritablePlatform links
  pub distinct : IsDistinct bytes_are_equal (map (λ (link : PlatformLink). link.name) links)

-- its texts are UTF-8, and the names of one object are distinct
pub record IsWritableLock (lock : Lock) : Type 0 where
  pub content_hash : IsUtf8 lock.content_hash
  pub packages : AllByRecursion IsWritableLocked lock.packages
  pub packages_dev : AllByRecursion IsWritableLocked lock.packages_dev
  pub flags : AreWritableFlags lock.flags
  pub platform : AreWritablePlatforms lock.platform
  pub platform_dev : AreWritablePlatforms lock.platform_dev

-- a lock that is read again
pub record IsKept (lock : Lock) : Type 0 where
  pub exact : IsExactLock lock
  pub writable : IsWritableLock lock

-- a JSON text whose value says just that lock
pub record IsTextOf (lock : Lock) (text : List ℕ) : Type 0 where
  pub tree : JsonTree
  pub value : json_of text ≡ Ok tree
  pub fields : lock_fields_of tree ≡ Ok lock
