-- The text of an installed.json, as Composer 2 writes it.
use Rattle.std.specs.Prelude.{◌≡◌, ℕ, Bool, true, false, List, [], ◌∷◌, ◌++◌, map, codes}
use Rattle.std.specs.List.Sorted.{IsPermutation, IsSortedByKey}
use Rattle.path_name.specs.Orders.{byte_cmp}
use Rattle.json_ordered.specs.JsonTree.{JsonTree, Boolean, String, array_of, object_of}
use Rattle.json_ordered.specs.JsonTexts.{pretty_text}
use Rattle.version_norm.specs.Versions.{normal_text}
use Rattle.manifest_read.specs.declared.key.Key.TheVariants as keys
use Rattle.manifest_read.specs.Keys.{Pairs}
use Rattle.lock_file.specs.declared.types.Locked.{Locked}
use Rattle.lock_file.specs.declared.types.Lock.{Lock}
use Rattle.lock_file.specs.Locks.{locked_name}
use Rattle.lock_file.specs.PackageTrees.{keyed, locked_pairs}

-- where a package is installed, seen from vendor/composer
unfoldable pub install_path : List ℕ → List ℕ
install_path name = codes "../" ++ name

-- a package of a lock, with its normal version and its place behind the other keys
unfoldable pub installed_pairs : Locked → Pairs
installed_pairs locked = locked_pairs locked
    ++ keyed keys.VersionNormalized (String (normal_text locked.«package».version)) ∷ keyed keys.InstallPath (String (install_path locked.«package».name)) ∷ []

unfoldable pub installed_tree : Locked → JsonTree
installed_tree locked = object_of (installed_pairs locked)

-- the installed packages of `packages-dev`
abbrev pub installed_dev : Bool → Lock → List Locked
installed_dev true lock = lock.packages_dev
installed_dev false lock = []

abbrev pub entries_tree : List Locked → JsonTree
entries_tree entries = array_of (map installed_tree entries)

abbrev pub names_tree : List Locked → JsonTree
names_tree entries = array_of (map (λ (entry : Locked). String (locked_name entry)) entries)

-- the packages, whether those for development are among them, and their names
unfoldable pub installed_json : Bool → JsonTree → JsonTree → JsonTree
installed_json dev packages names = object_of (keyed keys.Packages packages ∷ keyed keys.Dev (Boolean dev) ∷ keyed keys.DevPackageNames names ∷ [])

-- the same packages in byte order of name
pub record IsByName (some sorted : List Locked) : Type 0 where
  pub same : IsPermutation some sorted
  pub ascending : IsSortedByKey locked_name byte_cmp sorted

-- The pretty form and a final LF, of the installed packages and of those for development among them, each in byte order of
-- name. Names of a lock are distinct, so there is one such text.
pub record IsInstalledText (lock : Lock) (dev : Bool) (written : List ℕ) : Type 0 where
  pub entries : List Locked
  pub dev_entries : List Locked
  pub by_name : IsByName (lock.packages ++ installed_dev dev lock) entries
  pub dev_by_name : IsByName (installed_dev dev lock) dev_entries
  pub text : written ≡ pretty_text (installed_json dev (entries_tree entries) (names_tree dev_entries)) ++ 10 ∷ []
