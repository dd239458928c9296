-- What is known of each part of what is read.
use Rattle.std.specs.Prelude.{◌≡◌, ℕ, true, false, ◌||◌, List, map, Ok}
use Rattle.std.specs.List.{AllByRecursion, IsDistinct, list_all}
use Rattle.path_name.specs.Orders.{bytes_are_equal}
use Rattle.path_name.specs.Paths.{IsPath, path_of}
use Rattle.path_name.specs.FolderRefs.{folder_of}
use Rattle.version_norm.specs.declared.version.Version.{Version}
use Rattle.version_norm.specs.Versions.{normal_form}
use Rattle.constraint_set.specs.Constraints.{constraint_of}
use Rattle.manifest_read.specs.declared.types.Role.{Role}
use Rattle.manifest_read.specs.declared.types.Role.TheVariants.{Root, Member}
use Rattle.manifest_read.specs.declared.types.Link.{Link}
use Rattle.manifest_read.specs.declared.types.PathText.{PathText}
use Rattle.manifest_read.specs.declared.types.PrefixDirs.{PrefixDirs}
use Rattle.manifest_read.specs.declared.types.Autoload.{Autoload}
use Rattle.manifest_read.specs.declared.types.Package.{Package}
use Rattle.manifest_read.specs.declared.types.PlatformRow.{PlatformRow}
use Rattle.manifest_read.specs.declared.types.Repository.{Repository}
use Rattle.manifest_read.specs.declared.types.Manifest.{Manifest}
use Rattle.manifest_read.specs.declared.autoload.Standard.{Standard}
use Rattle.manifest_read.specs.declared.autoload.Standard.TheVariants.{Psr4, Psr0}
use Rattle.manifest_read.specs.Names.{is_package_name, is_platform_name, is_link_name, is_reserved}
use Rattle.manifest_read.specs.Autoloads.{is_barred, is_prefix, without_backslashes}
use Rattle.manifest_read.specs.Repositories.{is_pattern}
use Rattle.manifest_read.specs.Packages.{root_name}

-- its name is that of a package or of a platform package, and the constraint is that of the text, with the version of
-- the package whose link it is
pub record IsLink (own : Version) (link : Link) : Type 0 where
  pub name : is_link_name link.name ≡ true
  pub wants : constraint_of link.text own ≡ Ok link.wants

-- no two links have one name
abbrev pub HaveDistinctNames : List Link → Type 0
HaveDistinctNames links = IsDistinct bytes_are_equal (map (λ (link : Link). link.name) links)

-- the path is that of the text, and one of a root does not lead into what an install writes
pub record IsPathText (role : Role) (p : PathText) : Type 0 where
  pub read : path_of p.written ≡ Ok p.path
  pub path : IsPath p.path
  pub allowed : is_barred role p.path ≡ false

-- the prefix is the text without leading `\`, and one of PSR-4 is empty or ends in `\`
pub record IsPrefixDirs (standard : Standard) (role : Role) (row : PrefixDirs) : Type 0 where
  pub cut : row.prefix ≡ without_backslashes row.written
  pub prefix : is_prefix standard row.prefix ≡ true
  pub folders : AllByRecursion (IsPathText role) row.folders

pub record IsAutoload (role : Role) (rules : Autoload) : Type 0 where
  pub psr4 : AllByRecursion (IsPrefixDirs Psr4 role) rules.psr4
  pub psr0 : AllByRecursion (IsPrefixDirs Psr0 role) rules.psr0
  pub classmap : AllByRecursion (IsPathText role) rules.classmap
  pub files : AllByRecursion (IsPathText role) rules.files

-- the name of a member has the form of a package's and is no reserved one
abbrev pub IsMemberName : List ℕ → Type 0
IsMemberName name = (is_package_name name ≡ true) × (is_reserved name ≡ false)

-- a root may have no name, and has then one that is no package's
abbrev pub IsNameOf : Role → List ℕ → Type 0
IsNameOf Root name = is_package_name name || bytes_are_equal name root_name ≡ true
IsNameOf Member name = IsMemberName name

pub record IsPackage (role : Role) (p : Package) : Type 0 where
  pub version : normal_form p.version_text ≡ Ok p.version
  pub require : AllByRecursion (IsLink p.version) p.require
  pub conflict : AllByRecursion (IsLink p.version) p.conflict
  pub replace : AllByRecursion (IsLink p.version) p.replace
  pub provide : AllByRecursion (IsLink p.version) p.provide
  pub required_names : HaveDistinctNames p.require
  pub conflict_names : HaveDistinctNames p.conflict
  pub replaced_names : HaveDistinctNames p.replace
  pub provided_names : HaveDistinctNames p.provide
  pub autoload : IsAutoload role p.autoload

-- a member: a package of that name
pub record IsMember (p : Package) : Type 0 where
  pub name : IsMemberName p.name
  pub parts : IsPackage Member p

pub record IsPlatformRow (row : PlatformRow) : Type 0 where
  pub name : is_platform_name row.name ≡ true

-- it is the folder that its text names, and a `*` stands alone in its segment
pub record IsRepository (repository : Repository) : Type 0 where
  pub read : folder_of repository.written ≡ Ok (record { up = repository.up; path = repository.segments })
  pub segments : IsPath repository.segments
  pub patterns : list_all is_pattern repository.segments ≡ true

pub record IsManifest (role : Role) (m : Manifest) : Type 0 where
  pub name : IsNameOf role m.package.name
  pub parts : IsPackage role m.package
  pub require_dev : AllByRecursion (IsLink m.package.version) m.require_dev
  pub require_dev_names : HaveDistinctNames m.require_dev
  pub autoload_dev : IsAutoload role m.autoload_dev
  pub repositories : AllByRecursion IsRepository m.repositories
  pub platform : AllByRecursion IsPlatformRow m.platform
