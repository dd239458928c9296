-- Path repositories (Composer's documentation, "Repositories", "Path").
use Rattle.std.specs.Prelude.{ℕ, Bool, true, false, ◌&&◌, ◌||◌, ◌==◌, not, List, [], ◌∷◌, ◌++◌, Option, Some, None, Result, Ok, Err, if◌then◌else◌, codes}
use Rattle.std.specs.List.{list_any, list_all, enumerate_from}
use Rattle.std.specs.Option.{is_some, option_to_list}
use Rattle.path_name.specs.Given.{◌>>=◌}
use Rattle.path_name.specs.Orders.{bytes_are_equal}
use Rattle.path_name.specs.Paths.{is_slash}
use Rattle.path_name.specs.FolderRefs.{folder_of}
use Rattle.path_name.specs.declared.folder_ref.FolderRef.{FolderRef}
use Rattle.path_name.specs.declared.fault.PathFault.{PathFault}
use Rattle.path_name.specs.declared.fault.PathFault.TheVariants as path_faults
use Rattle.json_ordered.specs.JsonTree.{JsonTree}
use Rattle.json_ordered.specs.JsonParts.{boolean_in, string_in}
use Rattle.manifest_read.specs.declared.fault.FieldFault.{FieldFault}
use Rattle.manifest_read.specs.declared.fault.FieldFault.TheVariants.{BadField, NotOffered, OutOfMemory}
use Rattle.manifest_read.specs.declared.key.Key.{Key}
use Rattle.manifest_read.specs.declared.key.Key.TheVariants as keys
use Rattle.manifest_read.specs.declared.types.Repository.{Repository}
use Rattle.manifest_read.specs.Keys.{Pairs, key_text, value_at}
use Rattle.manifest_read.specs.Pointers.{below, at_key, at_item}
use Rattle.manifest_read.specs.Values.{items_in, text_at, object_at, if_there}
use Rattle.manifest_read.specs.Autoloads.{is_star}

-- ---- the url

-- a text that can't be read is a bad field
abbrev pub folder_or_fault : List ℕ → Result FolderRef PathFault → Result FolderRef FieldFault
folder_or_fault pointer (Ok folder) = Ok folder
folder_or_fault pointer (Err (path_faults.BadSegment at)) = Err (BadField pointer)
folder_or_fault pointer (Err (path_faults.AboveRoot at)) = Err (BadField pointer)
folder_or_fault pointer (Err path_faults.OutOfMemory) = Err OutOfMemory

unfoldable pub folder_at : List ℕ → List ℕ → Result FolderRef FieldFault
folder_at pointer text = folder_or_fault pointer (folder_of text)

abbrev pub begins_with_slash : List ℕ → Bool
begins_with_slash [] = false
begins_with_slash (first ∷ rest) = is_slash first

-- what an install writes in the project's folder
unfoldable pub is_installed_segment : List ℕ → Bool
is_installed_segment segment = bytes_are_equal segment (codes "vendor") || bytes_are_equal segment (codes ".install")

-- the project itself, or what an install writes in it
abbrev pub is_own_path : List (List ℕ) → Bool
is_own_path [] = true
is_own_path (first ∷ rest) = is_installed_segment first

unfoldable pub is_own_folder : FolderRef → Bool
is_own_folder folder = (folder.up == 0) && is_own_path folder.path

-- a `*` stands alone in its segment
unfoldable pub is_pattern : List ℕ → Bool
is_pattern segment = bytes_are_equal segment (codes "*") || not (list_any is_star segment)

unfoldable pub is_offered_url : List ℕ → FolderRef → Bool
is_offered_url text folder = not (begins_with_slash text) && (not (is_own_folder folder) && list_all is_pattern folder.path)

unfoldable pub url_at : List ℕ → JsonTree → Result Repository FieldFault
url_at pointer v = do
  text ← text_at pointer v
  folder ← folder_at pointer text
  if is_offered_url text folder then Ok (record { up = folder.up; segments = folder.path; written = text }) else Err (NotOffered pointer)

unfoldable pub url_of : List ℕ → Pairs → Result Repository FieldFault
url_of at pairs = if_there (value_at pairs keys.Url) (Err (BadField (at_key at keys.Url))) (url_at (at_key at keys.Url))

-- ---- the other keys of an entry

-- the text `path`
unfoldable pub is_path_type : Option (List ℕ) → Bool
is_path_type None = false
is_path_type (Some text) = bytes_are_equal text (codes "path")

abbrev pub path_type_at : List ℕ → JsonTree → Result (Unit {0}) FieldFault
path_type_at pointer v = if is_path_type (string_in v) then Ok tt else Err (NotOffered pointer)

unfoldable pub path_type_of : List ℕ → Pairs → Result (Unit {0}) FieldFault
path_type_of at pairs = if_there (value_at pairs keys.Type) (Err (BadField (at_key at keys.Type))) (path_type_at (at_key at keys.Type))

-- a key that may not be there
unfoldable pub absent_at : List ℕ → Pairs → Key → Result (Unit {0}) FieldFault
absent_at at pairs key = if is_some (value_at pairs key) then Err (NotOffered (at_key at key)) else Ok tt

unfoldable pub options_at : List ℕ → JsonTree → Result (Unit {0}) FieldFault
options_at pointer v = do
  pairs ← object_at pointer v
  versions ← absent_at pointer pairs keys.Versions
  absent_at pointer pairs keys.Reference

unfoldable pub options_of : List ℕ → Pairs → Result (Unit {0}) FieldFault
options_of at pairs = if_there (value_at pairs keys.Options) (Ok tt) (options_at (at_key at keys.Options))

-- keys of an entry that would change which packages it gives
unfoldable pub plain_at : List ℕ → Pairs → Result (Unit {0}) FieldFault
plain_at at pairs = do
  canonical ← absent_at at pairs keys.Canonical
  only ← absent_at at pairs keys.Only
  exclude ← absent_at at pairs keys.Exclude
  options_of at pairs

-- ---- an entry

-- what switches packagist off: the name `packagist` or `packagist.org`, and the value false
abbrev pub is_false : Option Bool → Bool
is_false None = false
is_false (Some value) = not value

unfoldable pub is_packagist_off : List ℕ × JsonTree → Bool
is_packagist_off pair = (bytes_are_equal pair.0 (key_text keys.Packagist) || bytes_are_equal pair.0 (key_text keys.PackagistOrg)) && is_false (boolean_in pair.1)

abbrev pub is_only_packagist_off : Pairs → Bool
is_only_packagist_off [] = false
is_only_packagist_off (pair ∷ []) = is_packagist_off pair
is_only_packagist_off (pair ∷ next ∷ pairs) = false

-- an entry by its pairs; None for one that is skipped
unfoldable pub repository_at : List ℕ → Pairs → Result (Option Repository) FieldFault
repository_at at pairs = do
  type ← path_type_of at pairs
  repository ← url_of at pairs
  plain ← plain_at at pairs
  Ok (Some repository)

unfoldable pub entry_at : List ℕ → JsonTree → Result (Option Repository) FieldFault
entry_at pointer v = do
  pairs ← object_at pointer v
  if is_only_packagist_off pairs then Ok None else repository_at pointer pairs

-- an entry of the object form
unfoldable pub named_entry_at : List ℕ → List ℕ × JsonTree → Result (Option Repository) FieldFault
named_entry_at at pair = if is_packagist_off pair then Ok None else entry_at (below at pair.0) pair.1

-- ---- the repositories

-- each of a list, in order, without those that are skipped; the first refusal is the answer
unfoldable pub each_there : {X Y : Type 0} → (X → Result (Option Y) FieldFault) → List X → Result (List Y) FieldFault
each_there read [] = Ok []
each_there read (x ∷ xs) = do
  y ← read x
  ys ← each_there read xs
  Ok (option_to_list y ++ ys)

abbrev pub repositories_from : List ℕ → JsonTree → Option (List JsonTree) → Result (List Repository) FieldFault
repositories_from pointer v (Some items) = each_there (λ n. entry_at (at_item pointer n.0) n.1) (enumerate_from 0 items)
repositories_from pointer v None = do
  pairs ← object_at pointer v
  each_there (named_entry_at pointer) pairs

unfoldable pub repositories_in : List ℕ → JsonTree → Result (List Repository) FieldFault
repositories_in pointer v = repositories_from pointer v (items_in v)

unfoldable pub repositories_of : List ℕ → Pairs → Result (List Repository) FieldFault
repositories_of at pairs = if_there (value_at pairs keys.Repositories) (Ok []) (repositories_in (at_key at keys.Repositories))
