-- The text of a lock, as Composer writes it.
use Rattle.std.specs.Prelude.{ℕ, false, List, [], ◌∷◌, ◌++◌, map, codes}
use Rattle.path_name.specs.Decimals.{decimal_text}
use Rattle.json_ordered.specs.JsonTree.{JsonTree, Boolean, Number, String, array_of, object_of}
use Rattle.json_ordered.specs.JsonTexts.{pretty_text}
use Rattle.version_norm.specs.declared.version.Grade.{Grade}
use Rattle.version_norm.specs.declared.version.Grade.TheVariants as grades
use Rattle.manifest_read.specs.declared.key.Key.TheVariants as keys
use Rattle.manifest_read.specs.Keys.{Pairs}
use Rattle.lock_file.specs.declared.types.Locked.{Locked}
use Rattle.lock_file.specs.declared.types.PlatformLink.{PlatformLink}
use Rattle.lock_file.specs.declared.types.FlagRow.{FlagRow}
use Rattle.lock_file.specs.declared.types.Lock.{Lock}
use Rattle.lock_file.specs.PackageTrees.{keyed, locked_tree}

-- what Composer tells a reader of the file
unfoldable pub readme_lines : List (List ℕ)
readme_lines =
    codes "This file locks the dependencies of your project to a known state"
    ∷ codes "Read more about it at https://getcomposer.org/doc/01-basic-usage.md#installing-dependencies"
    ∷ codes "This file is @generated automatically" ∷ []

-- how `minimum-stability` is spelled
unfoldable pub grade_text : Grade → List ℕ
grade_text grades.Stable = codes "stable"
grade_text grades.Rc = codes "RC"
grade_text grades.Beta = codes "beta"
grade_text grades.Alpha = codes "alpha"
grade_text grades.Dev = codes "dev"

-- the version of the interface of plugins that a lock of Composer 2.6 names
unfoldable pub plugin_version : List ℕ
plugin_version = codes "2.6.0"

abbrev pub flag_pair : FlagRow → List ℕ × JsonTree
flag_pair row = (row.name, Number (decimal_text row.rank))

abbrev pub flags_tree : List FlagRow → JsonTree
flags_tree rows = object_of (map flag_pair rows)

abbrev pub platform_pair : PlatformLink → List ℕ × JsonTree
platform_pair link = (link.name, String link.text)

abbrev pub platform_tree : List PlatformLink → JsonTree
platform_tree links = object_of (map platform_pair links)

abbrev pub packages_tree : List Locked → JsonTree
packages_tree packages = array_of (map locked_tree packages)

unfoldable pub readme_tree : JsonTree
readme_tree = array_of (map String readme_lines)

-- the keys up to the packages for development, and those behind
unfoldable pub front_pairs : Lock → Pairs
front_pairs lock = keyed keys.Readme readme_tree ∷ keyed keys.ContentHash (String lock.content_hash) ∷ keyed keys.Packages (packages_tree lock.packages)
    ∷ keyed keys.PackagesDev (packages_tree lock.packages_dev) ∷ keyed keys.Aliases (array_of []) ∷ []

unfoldable pub back_pairs : Lock → Pairs
back_pairs lock = keyed keys.MinimumStability (String (grade_text lock.minimum)) ∷ keyed keys.StabilityFlags (flags_tree lock.flags) ∷ keyed keys.PreferStable (Boolean lock.prefer_stable)
    ∷ keyed keys.PreferLowest (Boolean false) ∷ keyed keys.Platform (platform_tree lock.platform) ∷ keyed keys.PlatformDev (platform_tree lock.platform_dev)
    ∷ keyed keys.PluginApiVersion (String plugin_version) ∷ []

unfoldable pub lock_tree : Lock → JsonTree
lock_tree lock = object_of (front_pairs lock ++ back_pairs lock)

-- the pretty form, and a final LF
unfoldable pub lock_text : Lock → List ℕ
lock_text lock = pretty_text (lock_tree lock) ++ 10 ∷ []
