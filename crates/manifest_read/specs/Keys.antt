-- The keys of a manifest, as Composer's documentation spells them ("The composer.json schema", "Repositories", "Config"),
-- and those of a lock and of installed.json, as Composer writes them.
use Rattle.std.specs.Prelude.{ℕ, List, Option, codes}
use Rattle.json_ordered.specs.JsonTree.{JsonTree}
use Rattle.json_ordered.specs.JsonNames.{value_of}
use Rattle.manifest_read.specs.declared.key.Key.{Key}
use Rattle.manifest_read.specs.declared.key.Key.TheVariants as keys

unfoldable pub key_text : Key → List ℕ
key_text keys.Name = codes "name"
key_text keys.Version = codes "version"
key_text keys.Type = codes "type"
key_text keys.Require = codes "require"
key_text keys.RequireDev = codes "require-dev"
key_text keys.Conflict = codes "conflict"
key_text keys.Replace = codes "replace"
key_text keys.Provide = codes "provide"
key_text keys.Autoload = codes "autoload"
key_text keys.AutoloadDev = codes "autoload-dev"
key_text keys.Repositories = codes "repositories"
key_text keys.MinimumStability = codes "minimum-stability"
key_text keys.PreferStable = codes "prefer-stable"
key_text keys.Config = codes "config"
key_text keys.TargetDir = codes "target-dir"
key_text keys.IncludePath = codes "include-path"
key_text keys.Psr4 = codes "psr-4"
key_text keys.Psr0 = codes "psr-0"
key_text keys.Classmap = codes "classmap"
key_text keys.Files = codes "files"
key_text keys.Exclusions = codes "exclude-from-classmap"
key_text keys.Packagist = codes "packagist"
key_text keys.PackagistOrg = codes "packagist.org"
key_text keys.Url = codes "url"
key_text keys.Canonical = codes "canonical"
key_text keys.Only = codes "only"
key_text keys.Exclude = codes "exclude"
key_text keys.Options = codes "options"
key_text keys.Versions = codes "versions"
key_text keys.Reference = codes "reference"
key_text keys.VendorDir = codes "vendor-dir"
key_text keys.Platform = codes "platform"
key_text keys.OptimizeAutoloader = codes "optimize-autoloader"
key_text keys.ClassmapAuthoritative = codes "classmap-authoritative"
key_text keys.ContentHash = codes "content-hash"
key_text keys.Packages = codes "packages"
key_text keys.PackagesDev = codes "packages-dev"
key_text keys.Aliases = codes "aliases"
key_text keys.StabilityFlags = codes "stability-flags"
key_text keys.PreferLowest = codes "prefer-lowest"
key_text keys.PlatformDev = codes "platform-dev"
key_text keys.PluginApiVersion = codes "plugin-api-version"
key_text keys.Readme = codes "_readme"
key_text keys.Dist = codes "dist"
key_text keys.VersionNormalized = codes "version_normalized"
key_text keys.InstallPath = codes "install-path"
key_text keys.Dev = codes "dev"
key_text keys.DevPackageNames = codes "dev-package-names"

-- the pairs of an object
abbrev pub Pairs : Type 0
Pairs = List (List ℕ × JsonTree)

-- the value of a key, if it is there
unfoldable pub value_at : Pairs → Key → Option JsonTree
value_at pairs key = value_of pairs (key_text key)
