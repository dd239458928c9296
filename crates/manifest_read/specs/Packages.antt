-- A package, as a composer.json or an entry of a lock describes it (Composer's documentation, "The composer.json schema").
use Rattle.std.specs.Prelude.{ℕ, List, Result, Ok, Err, if◌then◌else◌, codes}
use Rattle.path_name.specs.Given.{◌>>=◌}
use Rattle.path_name.specs.Bytes.{lowered}
use Rattle.json_ordered.specs.JsonTree.{JsonTree}
use Rattle.version_norm.specs.declared.version.Version.{Version}
use Rattle.manifest_read.specs.declared.fault.FieldFault.{FieldFault}
use Rattle.manifest_read.specs.declared.fault.FieldFault.TheVariants.{BadField, ReservedName}
use Rattle.manifest_read.specs.declared.key.Key.TheVariants as keys
use Rattle.manifest_read.specs.declared.types.Role.{Role}
use Rattle.manifest_read.specs.declared.types.Role.TheVariants.{Root, Member}
use Rattle.manifest_read.specs.declared.types.Package.{Package}
use Rattle.manifest_read.specs.declared.package.Head.{Head}
use Rattle.manifest_read.specs.declared.package.Others.{Others}
use Rattle.manifest_read.specs.Keys.{Pairs, value_at}
use Rattle.manifest_read.specs.Pointers.{at_key}
use Rattle.manifest_read.specs.Values.{text_at, object_at, if_there}
use Rattle.manifest_read.specs.Names.{is_package_name, is_reserved}
use Rattle.manifest_read.specs.Versions.{version_at}
use Rattle.manifest_read.specs.Links.{links_of}
use Rattle.manifest_read.specs.Autoloads.{autoload_of}
use Rattle.manifest_read.specs.Repositories.{absent_at}

-- ---- name

unfoldable pub package_name_at : List ℕ → JsonTree → Result (List ℕ) FieldFault
package_name_at pointer v = do
  text ← text_at pointer v
  if is_package_name (lowered text) then Ok (lowered text) else Err (BadField pointer)

-- a member's name is no reserved one
unfoldable pub member_name_at : List ℕ → JsonTree → Result (List ℕ) FieldFault
member_name_at pointer v = do
  name ← package_name_at pointer v
  if is_reserved name then Err (ReservedName name) else Ok name

unfoldable pub root_name : List ℕ
root_name = codes "__root__"

unfoldable pub name_of : Role → List ℕ → Pairs → Result (List ℕ) FieldFault
name_of Root at pairs = if_there (value_at pairs keys.Name) (Ok root_name) (package_name_at (at_key at keys.Name))
name_of Member at pairs = if_there (value_at pairs keys.Name) (Err (BadField (at_key at keys.Name))) (member_name_at (at_key at keys.Name))

-- ---- version

unfoldable pub default_version : Role → List ℕ
default_version Root = codes "1.0.0"
default_version Member = codes "dev-main"

unfoldable pub version_text_of : Role → List ℕ → Pairs → Result (List ℕ) FieldFault
version_text_of role at pairs = if_there (value_at pairs keys.Version) (Ok (default_version role)) (text_at (at_key at keys.Version))

-- that of an entry must be there
unfoldable pub entry_version_text_of : List ℕ → Pairs → Result (List ℕ) FieldFault
entry_version_text_of at pairs = if_there (value_at pairs keys.Version) (Err (BadField (at_key at keys.Version))) (text_at (at_key at keys.Version))

-- ---- name and version

unfoldable pub head_of : Role → List ℕ → Pairs → Result Head FieldFault
head_of role at pairs = do
  name ← name_of role at pairs
  text ← version_text_of role at pairs
  version ← version_at (at_key at keys.Version) text
  Ok (record { name = name; version_text = text; version = version })

unfoldable pub entry_head_of : List ℕ → Pairs → Result Head FieldFault
entry_head_of at pairs = do
  name ← name_of Member at pairs
  text ← entry_version_text_of at pairs
  version ← version_at (at_key at keys.Version) text
  Ok (record { name = name; version_text = text; version = version })

-- ---- type

unfoldable pub library : List ℕ
library = codes "library"

unfoldable pub kind_of : List ℕ → Pairs → Result (List ℕ) FieldFault
kind_of at pairs = if_there (value_at pairs keys.Type) (Ok library) (text_at (at_key at keys.Type))

-- ---- links other than requirements

unfoldable pub others_of : Version → List ℕ → Pairs → Result Others FieldFault
others_of own at pairs = do
  conflict ← links_of own at pairs keys.Conflict
  replace ← links_of own at pairs keys.Replace
  provide ← links_of own at pairs keys.Provide
  Ok (record { conflict = conflict; replace = replace; provide = provide })

-- ---- keys that are not offered

unfoldable pub plain_package_at : List ℕ → Pairs → Result (Unit {0}) FieldFault
plain_package_at at pairs = do
  target ← absent_at at pairs keys.TargetDir
  absent_at at pairs keys.IncludePath

-- ---- an entry of a lock, or of installed.json

unfoldable pub package_entry_from : List ℕ → Pairs → Result Package FieldFault
package_entry_from at pairs = do
  head ← entry_head_of at pairs
  require ← links_of head.version at pairs keys.Require
  others ← others_of head.version at pairs
  kind ← kind_of at pairs
  autoload ← autoload_of Member at pairs keys.Autoload
  plain ← plain_package_at at pairs
  Ok (record {
    name = head.name;
    version_text = head.version_text;
    version = head.version;
    kind = kind;
    require = require;
    conflict = others.conflict;
    replace = others.replace;
    provide = others.provide;
    autoload = autoload;
  })

-- the package of an entry that stands at a pointer, or the first fault
unfoldable pub package_entry_of : List ℕ → JsonTree → Result Package FieldFault
package_entry_of at v = do
  pairs ← object_at at v
  package_entry_from at pairs

-- its name and version alone: all that is read before the entry's `dist`
unfoldable pub package_head_of : List ℕ → JsonTree → Result Head FieldFault
package_head_of at v = do
  pairs ← object_at at v
  entry_head_of at pairs
