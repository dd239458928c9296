-- Autoload rules (Composer's documentation, "autoload"; PSR-0, PSR-4).
use Rattle.std.specs.Prelude.{ℕ, ◌-◌, Bool, true, false, ◌||◌, ◌&&◌, ◌==◌, List, [], ◌∷◌, length, drop, Option, Some, None, Result, Ok, Err, if◌then◌else◌, codes}
use Rattle.std.specs.List.{list_any, prefix_len, slice_get, enumerate_from}
use Rattle.path_name.specs.Given.{◌>>=◌}
use Rattle.path_name.specs.Orders.{bytes_are_equal}
use Rattle.path_name.specs.Paths.{path_of}
use Rattle.path_name.specs.declared.fault.PathFault.{PathFault}
use Rattle.path_name.specs.declared.fault.PathFault.TheVariants as path_faults
use Rattle.json_ordered.specs.JsonTree.{JsonTree}
use Rattle.manifest_read.specs.declared.fault.FieldFault.{FieldFault}
use Rattle.manifest_read.specs.declared.fault.FieldFault.TheVariants.{BadField, NotOffered, OutOfMemory}
use Rattle.manifest_read.specs.declared.key.Key.{Key}
use Rattle.manifest_read.specs.declared.key.Key.TheVariants as keys
use Rattle.manifest_read.specs.declared.types.Role.{Role}
use Rattle.manifest_read.specs.declared.types.Role.TheVariants.{Root, Member}
use Rattle.manifest_read.specs.declared.types.PathText.{PathText}
use Rattle.manifest_read.specs.declared.types.PrefixDirs.{PrefixDirs}
use Rattle.manifest_read.specs.declared.types.Autoload.{Autoload}
use Rattle.manifest_read.specs.declared.autoload.Standard.{Standard}
use Rattle.manifest_read.specs.declared.autoload.Standard.TheVariants.{Psr4, Psr0}
use Rattle.manifest_read.specs.declared.autoload.Folders.{Folders}
use Rattle.manifest_read.specs.Keys.{Pairs, value_at}
use Rattle.manifest_read.specs.Pointers.{below, at_key, at_item}
use Rattle.manifest_read.specs.Values.{items_in, text_at, list_at, object_at, if_there, each}

-- ---- one path

abbrev pub is_star : ℕ → Bool
is_star byte = byte == 42

-- a path that can't be read is a bad field; one that leaves the package's folder is not offered
abbrev pub path_or_fault : List ℕ → Result (List (List ℕ)) PathFault → Result (List (List ℕ)) FieldFault
path_or_fault pointer (Ok path) = Ok path
path_or_fault pointer (Err (path_faults.BadSegment at)) = Err (BadField pointer)
path_or_fault pointer (Err (path_faults.AboveRoot at)) = Err (NotOffered pointer)
path_or_fault pointer (Err path_faults.OutOfMemory) = Err OutOfMemory

unfoldable pub path_at : List ℕ → List ℕ → Result (List (List ℕ)) FieldFault
path_at pointer text = path_or_fault pointer (path_of text)

-- what an install writes in the root's own folder
unfoldable pub is_written_segment : List ℕ → Bool
is_written_segment segment = bytes_are_equal segment (codes "vendor") || bytes_are_equal segment (codes ".install") || bytes_are_equal segment (codes "composer.lock")

abbrev pub is_in_written : List (List ℕ) → Bool
is_in_written [] = false
is_in_written (first ∷ rest) = is_written_segment first

unfoldable pub is_barred : Role → List (List ℕ) → Bool
is_barred Root path = is_in_written path
is_barred Member path = false

-- Which rules hold for a path's text: those of a root, and that it has no `*`.
unfoldable pub is_offered : Role → Bool → PathText → Bool
is_offered role starless p = if is_barred role p.path then false else (if starless && list_any is_star p.written then false else true)

unfoldable pub path_text_at : Role → Bool → List ℕ → JsonTree → Result PathText FieldFault
path_text_at role starless pointer v = do
  text ← text_at pointer v
  path ← path_at pointer text
  if is_offered role starless (record { written = text; path = path }) then Ok (record { written = text; path = path }) else Err (NotOffered pointer)

-- ---- paths of a list

unfoldable pub path_texts_at : Role → Bool → List ℕ → List JsonTree → Result (List PathText) FieldFault
path_texts_at role starless pointer items = each (λ n. path_text_at role starless (at_item pointer n.0) n.1) (enumerate_from 0 items)

unfoldable pub paths_in : Role → Bool → List ℕ → JsonTree → Result (List PathText) FieldFault
paths_in role starless pointer v = do
  items ← list_at pointer v
  path_texts_at role starless pointer items

unfoldable pub paths_of : Role → Bool → List ℕ → Pairs → Key → Result (List PathText) FieldFault
paths_of role starless at pairs key = if_there (value_at pairs key) (Ok []) (paths_in role starless (at_key at key))

-- ---- prefixes

abbrev pub is_backslash : ℕ → Bool
is_backslash byte = byte == 92

abbrev pub without_backslashes : List ℕ → List ℕ
without_backslashes text = drop (prefix_len is_backslash text) text

abbrev pub is_end_of_prefix : Option ℕ → Bool
is_end_of_prefix None = true
is_end_of_prefix (Some byte) = is_backslash byte

-- empty, or it ends in `\`
unfoldable pub is_psr4_prefix : List ℕ → Bool
is_psr4_prefix prefix = is_end_of_prefix (slice_get prefix (length prefix - 1))

unfoldable pub is_prefix : Standard → List ℕ → Bool
is_prefix Psr4 prefix = is_psr4_prefix prefix
is_prefix Psr0 prefix = true

unfoldable pub prefix_at : Standard → List ℕ → List ℕ → Result (List ℕ) FieldFault
prefix_at standard pointer written = if is_prefix standard (without_backslashes written) then Ok (without_backslashes written) else Err (BadField pointer)

-- a list of folders, or a text for the one folder
abbrev pub folders_from : Role → List ℕ → JsonTree → Option (List JsonTree) → Result Folders FieldFault
folders_from role pointer v (Some items) = do
  folders ← path_texts_at role false pointer items
  Ok (record { folders = folders; single = false })
folders_from role pointer v None = do
  folder ← path_text_at role false pointer v
  Ok (record { folders = folder ∷ []; single = true })

unfoldable pub folders_at : Role → List ℕ → JsonTree → Result Folders FieldFault
folders_at role pointer v = folders_from role pointer v (items_in v)

unfoldable pub prefix_dirs_at : Standard → Role → List ℕ → List ℕ × JsonTree → Result PrefixDirs FieldFault
prefix_dirs_at standard role at pair = do
  prefix ← prefix_at standard (below at pair.0) pair.0
  folders ← folders_at role (below at pair.0) pair.1
  Ok (record { written = pair.0; prefix = prefix; folders = folders.folders; single = folders.single })

unfoldable pub prefixes_in : Standard → Role → List ℕ → JsonTree → Result (List PrefixDirs) FieldFault
prefixes_in standard role pointer v = do
  pairs ← object_at pointer v
  each (prefix_dirs_at standard role pointer) pairs

abbrev pub standard_key : Standard → Key
standard_key Psr4 = keys.Psr4
standard_key Psr0 = keys.Psr0

unfoldable pub prefixes_of : Standard → Role → List ℕ → Pairs → Result (List PrefixDirs) FieldFault
prefixes_of standard role at pairs = if_there (value_at pairs (standard_key standard)) (Ok []) (prefixes_in standard role (at_key at (standard_key standard)))

-- ---- texts of a list

unfoldable pub texts_in : List ℕ → JsonTree → Result (List (List ℕ)) FieldFault
texts_in pointer v = do
  items ← list_at pointer v
  each (λ n. text_at (at_item pointer n.0) n.1) (enumerate_from 0 items)

unfoldable pub texts_of : List ℕ → Pairs → Key → Result (List (List ℕ)) FieldFault
texts_of at pairs key = if_there (value_at pairs key) (Ok []) (texts_in (at_key at key))

-- ---- the rules of a package

unfoldable pub no_rules : Autoload
no_rules = record { psr4 = []; psr0 = []; classmap = []; files = []; exclude = [] }

unfoldable pub rules_in : Role → List ℕ → Pairs → Result Autoload FieldFault
rules_in role at pairs = do
  psr4 ← prefixes_of Psr4 role at pairs
  psr0 ← prefixes_of Psr0 role at pairs
  classmap ← paths_of role true at pairs keys.Classmap
  files ← paths_of role false at pairs keys.Files
  exclude ← texts_of at pairs keys.Exclusions
  Ok (record { psr4 = psr4; psr0 = psr0; classmap = classmap; files = files; exclude = exclude })

unfoldable pub autoload_in : Role → List ℕ → JsonTree → Result Autoload FieldFault
autoload_in role pointer v = do
  pairs ← object_at pointer v
  rules_in role pointer pairs

unfoldable pub autoload_of : Role → List ℕ → Pairs → Key → Result Autoload FieldFault
autoload_of role at pairs key = if_there (value_at pairs key) (Ok no_rules) (autoload_in role (at_key at key))
