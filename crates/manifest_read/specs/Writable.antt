-- What of a manifest can be written as JSON again (RFC 8259): its texts are UTF-8, and what were the names of one object
-- are distinct. It holds of what is read of a document whose own texts are UTF-8 and whose names are distinct, as those
-- of every JSON text are. That links have distinct names holds of every document.
use Rattle.std.specs.Prelude.{List, map}
use Rattle.std.specs.List.{AllByRecursion, IsDistinct}
use Rattle.std.specs.Str.{IsUtf8}
use Rattle.path_name.specs.Orders.{bytes_are_equal}
use Rattle.json_ordered.specs.JsonTree.{JsonTree, HasDistinctNames, HasUtf8Texts}
use Rattle.manifest_read.specs.declared.types.Link.{Link}
use Rattle.manifest_read.specs.declared.types.PathText.{PathText}
use Rattle.manifest_read.specs.declared.types.PrefixDirs.{PrefixDirs}
use Rattle.manifest_read.specs.declared.types.Autoload.{Autoload}
use Rattle.manifest_read.specs.declared.types.Package.{Package}
use Rattle.manifest_read.specs.declared.types.PlatformRow.{PlatformRow}
use Rattle.manifest_read.specs.declared.types.Repository.{Repository}
use Rattle.manifest_read.specs.declared.types.Manifest.{Manifest}

-- a value that can be written
pub record IsWritten (v : JsonTree) : Type 0 where
  pub texts : HasUtf8Texts v
  pub names : HasDistinctNames v

pub record IsWritableLink (link : Link) : Type 0 where
  pub name : IsUtf8 link.name
  pub text : IsUtf8 link.text

abbrev pub IsWritablePath : PathText → Type 0
IsWritablePath p = IsUtf8 p.written

pub record IsWritablePrefix (row : PrefixDirs) : Type 0 where
  pub written : IsUtf8 row.written
  pub prefix : IsUtf8 row.prefix
  pub folders : AllByRecursion IsWritablePath row.folders

-- each prefix, and no two of them are written in one way
pub record AreWritablePrefixes (rows : List PrefixDirs) : Type 0 where
  pub each : AllByRecursion IsWritablePrefix rows
  pub distinct : IsDistinct bytes_are_equal (map (λ (row : PrefixDirs). row.written) rows)

pub record IsWritableAutoload (rules : Autoload) : Type 0 where
  pub psr4 : AreWritablePrefixes rules.psr4
  pub psr0 : AreWritablePrefixes rules.psr0
  pub classmap : AllByRecursion IsWritablePath rules.classmap
  pub files : AllByRecursion IsWritablePath rules.files
  pub exclude : AllByRecursion IsUtf8 rules.exclude

pub record IsWritablePackage (p : Package) : Type 0 where
  pub name : IsUtf8 p.name
  pub version_text : IsUtf8 p.version_text
  pub kind : IsUtf8 p.kind
  pub require : AllByRecursion IsWritableLink p.require
  pub conflict : AllByRecursion IsWritableLink p.conflict
  pub replace : AllByRecursion IsWritableLink p.replace
  pub provide : AllByRecursion IsWritableLink p.provide
  pub autoload : IsWritableAutoload p.autoload

-- each platform package, and no two of them have one name
pub record AreWritableRows (rows : List PlatformRow) : Type 0 where
  pub each : AllByRecursion (λ (row : PlatformRow). IsUtf8 row.name) rows
  pub distinct : IsDistinct bytes_are_equal (map (λ (row : PlatformRow). row.name) rows)

pub record IsWritableManifest (m : Manifest) : Type 0 where
  pub parts : IsWritablePackage m.package
  pub require_dev : AllByRecursion IsWritableLink m.require_dev
  pub autoload_dev : IsWritableAutoload m.autoload_dev
  pub repositories : AllByRecursion (λ (repository : Repository). IsUtf8 repository.written) m.repositories
  pub platform : AreWritableRows m.platform
