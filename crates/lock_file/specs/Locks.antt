-- A lock: what a composer.lock says, or its first fault. It is what Composer writes of a plan ("Basic usage", "Commit your
-- composer.lock file to version control"), its keys in the order in which Composer writes them.
use Rattle.std.specs.Prelude.{ℕ, List, [], ◌∷◌, map, Option, Some, None, Result, Ok, Err, if◌then◌else◌, codes}
use Rattle.std.specs.Option.{ok_or, option_and_then}
use Rattle.path_name.specs.Given.{◌>>=◌}
use Rattle.path_name.specs.Orders.{bytes_are_equal}
use Rattle.path_name.specs.declared.folder_ref.FolderRef.{FolderRef}
use Rattle.json_ordered.specs.JsonTree.{JsonTree}
use Rattle.json_ordered.specs.JsonParts.{number_in}
use Rattle.manifest_read.specs.declared.fault.FieldFault.{FieldFault}
use Rattle.manifest_read.specs.declared.fault.FieldFault.TheVariants.{BadField, NotOffered}
use Rattle.manifest_read.specs.declared.key.Key.{Key}
use Rattle.manifest_read.specs.declared.key.Key.TheVariants as keys
use Rattle.manifest_read.specs.Keys.{Pairs, value_at}
use Rattle.manifest_read.specs.Pointers.{below, at_key}
use Rattle.manifest_read.specs.Values.{text_at, list_at, object_at, if_there, each}
use Rattle.manifest_read.specs.Repositories.{folder_at, begins_with_slash, path_type_of}
use Rattle.manifest_read.specs.Settings.{minimum_of, boolean_of}
use Rattle.manifest_read.specs.Packages.{package_head_of, package_entry_of}
use Rattle.lock_file.specs.declared.types.Locked.{Locked}
use Rattle.lock_file.specs.declared.types.PlatformLink.{PlatformLink}
use Rattle.lock_file.specs.declared.types.FlagRow.{FlagRow}
use Rattle.lock_file.specs.declared.types.Lock.{Lock}
use Rattle.lock_file.specs.declared.dist.Dist.{Dist}
use Rattle.lock_file.specs.declared.lists.Lists.{Lists}
use Rattle.lock_file.specs.Entries.{entries_of}

-- ---- where a package is installed from

-- the folder that a url names; one that is counted from the root of the file system is not offered
unfoldable pub dist_url_at : List ℕ → JsonTree → Result FolderRef FieldFault
dist_url_at pointer v = do
  text ← text_at pointer v
  folder ← folder_at pointer text
  if begins_with_slash text then Err (NotOffered pointer) else Ok folder

unfoldable pub dist_url_of : List ℕ → Pairs → Result FolderRef FieldFault
dist_url_of at pairs = if_there (value_at pairs keys.Url) (Err (BadField (at_key at keys.Url))) (dist_url_at (at_key at keys.Url))

-- empty where it is missing
unfoldable pub reference_of : List ℕ → Pairs → Result (List ℕ) FieldFault
reference_of at pairs = if_there (value_at pairs keys.Reference) (Ok []) (text_at (at_key at keys.Reference))

unfoldable pub dist_from : List ℕ → Pairs → Result Dist FieldFault
dist_from at pairs = do
  type ← path_type_of at pairs
  url ← dist_url_of at pairs
  reference ← reference_of at pairs
  Ok (record { url = url; reference = reference })

unfoldable pub dist_at : List ℕ → JsonTree → Result Dist FieldFault
dist_at pointer v = do
  pairs ← object_at pointer v
  dist_from pointer pairs

unfoldable pub dist_of : List ℕ → Pairs → Result Dist FieldFault
dist_of at pairs = if_there (value_at pairs keys.Dist) (Err (BadField (at_key at keys.Dist))) (dist_at (at_key at keys.Dist))

-- ---- a locked package

-- its keys in order: name, version, dist, and the others
unfoldable pub locked_at : List ℕ → JsonTree → Result Locked FieldFault
locked_at at v = do
  pairs ← object_at at v
  head ← package_head_of at v
  dist ← dist_of at pairs
  entry ← package_entry_of at v
  Ok (record { «package» = entry; url = dist.url; reference = dist.reference })

abbrev pub locked_name : Locked → List ℕ
locked_name locked = locked.«package».name

-- the packages, and those for development; a name stands once in both together
unfoldable pub lists_of : List ℕ → Pairs → Result Lists FieldFault
lists_of at pairs = do
  packages ← entries_of locked_at locked_name [] at pairs keys.Packages
  packages_dev ← entries_of locked_at locked_name (map locked_name packages) at pairs keys.PackagesDev
  Ok (record { packages = packages; packages_dev = packages_dev })

-- ---- the other keys

unfoldable pub content_hash_of : List ℕ → Pairs → Result (List ℕ) FieldFault
content_hash_of at pairs = if_there (value_at pairs keys.ContentHash) (Err (BadField (at_key at keys.ContentHash))) (text_at (at_key at keys.ContentHash))

-- aliases are not offered, so the list is empty
abbrev pub no_items_or_fault : List ℕ → List JsonTree → Result (Unit {0}) FieldFault
no_items_or_fault pointer [] = Ok tt
no_items_or_fault pointer (first ∷ rest) = Err (NotOffered pointer)

unfoldable pub no_aliases_at : List ℕ → JsonTree → Result (Unit {0}) FieldFault
no_aliases_at pointer v = do
  items ← list_at pointer v
  no_items_or_fault pointer items

unfoldable pub no_aliases_of : List ℕ → Pairs → Result (Unit {0}) FieldFault
no_aliases_of at pairs = if_there (value_at pairs keys.Aliases) (Ok tt) (no_aliases_at (at_key at keys.Aliases))

-- the rank of a stability, as it is spelled
unfoldable pub rank_spelled : List ℕ → Option ℕ
rank_spelled text = if bytes_are_equal text (codes "0") then Some 0
    else (if bytes_are_equal text (codes "5") then Some 5
    else (if bytes_are_equal text (codes "10") then Some 10
    else (if bytes_are_equal text (codes "15") then Some 15
    else (if bytes_are_equal text (codes "20") then Some 20 else None))))

unfoldable pub rank_at : List ℕ → JsonTree → Result ℕ FieldFault
rank_at pointer v = ok_or (option_and_then rank_spelled (number_in v)) (BadField pointer)

unfoldable pub flag_at : List ℕ → List ℕ × JsonTree → Result FlagRow FieldFault
flag_at at pair = do
  rank ← rank_at (below at pair.0) pair.1
  Ok (record { name = pair.0; rank = rank })

unfoldable pub flags_in : List ℕ → JsonTree → Result (List FlagRow) FieldFault
flags_in pointer v = do
  pairs ← object_at pointer v
  each (flag_at pointer) pairs

unfoldable pub flags_of : List ℕ → Pairs → Result (List FlagRow) FieldFault
flags_of at pairs = if_there (value_at pairs keys.StabilityFlags) (Ok []) (flags_in (at_key at keys.StabilityFlags))

unfoldable pub platform_link_at : List ℕ → List ℕ × JsonTree → Result PlatformLink FieldFault
platform_link_at at pair = do
  text ← text_at (below at pair.0) pair.1
  Ok (record { name = pair.0; text = text })

unfoldable pub platform_links_in : List ℕ → JsonTree → Result (List PlatformLink) FieldFault
platform_links_in pointer v = do
  pairs ← object_at pointer v
  each (platform_link_at pointer) pairs

unfoldable pub platform_links_of : List ℕ → Pairs → Key → Result (List PlatformLink) FieldFault
platform_links_of at pairs key = if_there (value_at pairs key) (Ok []) (platform_links_in (at_key at key))

-- ---- the lock

-- the keys in the order in which they are checked
unfoldable pub lock_from : List ℕ → Pairs → Result Lock FieldFault
lock_from at pairs = do
  content_hash ← content_hash_of at pairs
  lists ← lists_of at pairs
  aliases ← no_aliases_of at pairs
  minimum ← minimum_of at pairs
  flags ← flags_of at pairs
  prefer_stable ← boolean_of at pairs keys.PreferStable
  platform ← platform_links_of at pairs keys.Platform
  platform_dev ← platform_links_of at pairs keys.PlatformDev
  Ok (record {
    content_hash = content_hash;
    packages = lists.packages;
    packages_dev = lists.packages_dev;
    minimum = minimum;
    flags = flags;
    prefer_stable = prefer_stable;
    platform = platform;
    platform_dev = platform_dev;
  })

-- the lock of a document, or the first fault
unfoldable pub lock_fields_of : JsonTree → Result Lock FieldFault
lock_fields_of v = do
  pairs ← object_at [] v
  lock_from [] pairs
