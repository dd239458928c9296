-- What a root says beside its package (Composer's documentation, "The composer.json schema" and "Config").
use Rattle.std.specs.Prelude.{ℕ, Bool, false, List, [], Option, Some, None, Result, Ok, Err, if◌then◌else◌, codes}
use Rattle.path_name.specs.Given.{◌>>=◌}
use Rattle.path_name.specs.Orders.{bytes_are_equal}
use Rattle.json_ordered.specs.JsonTree.{JsonTree}
use Rattle.json_ordered.specs.JsonParts.{boolean_in, string_in}
use Rattle.version_norm.specs.declared.version.Version.{Version}
use Rattle.version_norm.specs.declared.version.Grade.{Grade}
use Rattle.version_norm.specs.declared.version.Grade.TheVariants as grades
use Rattle.manifest_read.specs.declared.fault.FieldFault.{FieldFault}
use Rattle.manifest_read.specs.declared.fault.FieldFault.TheVariants.{BadField, NotOffered}
use Rattle.manifest_read.specs.declared.key.Key.{Key}
use Rattle.manifest_read.specs.declared.key.Key.TheVariants as keys
use Rattle.manifest_read.specs.declared.types.Role.{Role}
use Rattle.manifest_read.specs.declared.types.Role.TheVariants.{Root, Member}
use Rattle.manifest_read.specs.declared.types.PlatformRow.{PlatformRow}
use Rattle.manifest_read.specs.declared.config.Config.{Config}
use Rattle.manifest_read.specs.declared.settings.Settings.{Settings}
use Rattle.manifest_read.specs.Keys.{Pairs, value_at}
use Rattle.manifest_read.specs.Pointers.{below, at_key}
use Rattle.manifest_read.specs.Values.{text_at, boolean_at, object_at, if_there, each}
use Rattle.manifest_read.specs.Names.{is_platform_name}
use Rattle.manifest_read.specs.Versions.{version_at}
use Rattle.manifest_read.specs.Repositories.{is_false, repositories_of}

-- ---- minimum-stability

unfoldable pub grade_named : List ℕ → Option Grade
grade_named text = if bytes_are_equal text (codes "stable") then Some grades.Stable
    else (if bytes_are_equal text (codes "RC") then Some grades.Rc
    else (if bytes_are_equal text (codes "rc") then Some grades.Rc
    else (if bytes_are_equal text (codes "beta") then Some grades.Beta
    else (if bytes_are_equal text (codes "alpha") then Some grades.Alpha
    else (if bytes_are_equal text (codes "dev") then Some grades.Dev else None)))))

abbrev pub grade_or_fault : List ℕ → Option Grade → Result Grade FieldFault
grade_or_fault pointer (Some grade) = Ok grade
grade_or_fault pointer None = Err (BadField pointer)

unfoldable pub grade_at : List ℕ → JsonTree → Result Grade FieldFault
grade_at pointer v = do
  text ← text_at pointer v
  grade_or_fault pointer (grade_named text)

unfoldable pub minimum_of : List ℕ → Pairs → Result Grade FieldFault
minimum_of at pairs = if_there (value_at pairs keys.MinimumStability) (Ok grades.Stable) (grade_at (at_key at keys.MinimumStability))

-- ---- booleans, false where they are missing

unfoldable pub boolean_of : List ℕ → Pairs → Key → Result Bool FieldFault
boolean_of at pairs key = if_there (value_at pairs key) (Ok false) (boolean_at (at_key at key))

-- ---- config

unfoldable pub is_vendor : Option (List ℕ) → Bool
is_vendor None = false
is_vendor (Some text) = bytes_are_equal text (codes "vendor")

abbrev pub vendor_dir_at : List ℕ → JsonTree → Result (Unit {0}) FieldFault
vendor_dir_at pointer v = if is_vendor (string_in v) then Ok tt else Err (NotOffered pointer)

unfoldable pub vendor_dir_of : List ℕ → Pairs → Result (Unit {0}) FieldFault
vendor_dir_of at pairs = if_there (value_at pairs keys.VendorDir) (Ok tt) (vendor_dir_at (at_key at keys.VendorDir))

-- false for what is absent, or a version's text
unfoldable pub platform_version_at : List ℕ → JsonTree → Result (Option Version) FieldFault
platform_version_at pointer v = if is_false (boolean_in v) then Ok None else do
  text ← text_at pointer v
  version ← version_at pointer text
  Ok (Some version)

unfoldable pub platform_name_at : List ℕ → List ℕ → Result (List ℕ) FieldFault
platform_name_at pointer name = if is_platform_name name then Ok name else Err (BadField pointer)

unfoldable pub platform_row_at : List ℕ → List ℕ × JsonTree → Result PlatformRow FieldFault
platform_row_at at pair = do
  name ← platform_name_at (below at pair.0) pair.0
  version ← platform_version_at (below at pair.0) pair.1
  Ok (record { name = name; version = version })

unfoldable pub platform_in : List ℕ → JsonTree → Result (List PlatformRow) FieldFault
platform_in pointer v = do
  pairs ← object_at pointer v
  each (platform_row_at pointer) pairs

unfoldable pub platform_of : List ℕ → Pairs → Result (List PlatformRow) FieldFault
platform_of at pairs = if_there (value_at pairs keys.Platform) (Ok []) (platform_in (at_key at keys.Platform))

unfoldable pub no_config : Config
no_config = record { platform = []; optimise = false; authoritative = false }

unfoldable pub config_in : List ℕ → Pairs → Result Config FieldFault
config_in at pairs = do
  vendor ← vendor_dir_of at pairs
  platform ← platform_of at pairs
  optimise ← boolean_of at pairs keys.OptimizeAutoloader
  authoritative ← boolean_of at pairs keys.ClassmapAuthoritative
  Ok (record { platform = platform; optimise = optimise; authoritative = authoritative })

unfoldable pub config_at : List ℕ → JsonTree → Result Config FieldFault
config_at pointer v = do
  pairs ← object_at pointer v
  config_in pointer pairs

unfoldable pub config_of : List ℕ → Pairs → Result Config FieldFault
config_of at pairs = if_there (value_at pairs keys.Config) (Ok no_config) (config_at (at_key at keys.Config))

-- ---- all of them

unfoldable pub no_settings : Settings
no_settings = record { repositories = []; minimum = grades.Stable; prefer_stable = false; config = no_config }

unfoldable pub root_settings : List ℕ → Pairs → Result Settings FieldFault
root_settings at pairs = do
  repositories ← repositories_of at pairs
  minimum ← minimum_of at pairs
  prefer_stable ← boolean_of at pairs keys.PreferStable
  config ← config_of at pairs
  Ok (record { repositories = repositories; minimum = minimum; prefer_stable = prefer_stable; config = config })

-- those of a member are ignored
unfoldable pub settings_of : Role → List ℕ → Pairs → Result Settings FieldFault
settings_of Root at pairs = root_settings at pairs
settings_of Member at pairs = Ok no_settings
