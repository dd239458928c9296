-- A manifest: what a composer.json says, or its first fault (Composer's documentation, "The composer.json schema").
use Rattle.std.specs.Prelude.{ℕ, List, [], Result, Ok}
use Rattle.path_name.specs.Given.{◌>>=◌}
use Rattle.json_ordered.specs.JsonTree.{JsonTree}
use Rattle.version_norm.specs.declared.version.Version.{Version}
use Rattle.manifest_read.specs.declared.fault.FieldFault.{FieldFault}
use Rattle.manifest_read.specs.declared.key.Key.TheVariants as keys
use Rattle.manifest_read.specs.declared.types.Role.{Role}
use Rattle.manifest_read.specs.declared.types.Role.TheVariants.{Root, Member}
use Rattle.manifest_read.specs.declared.types.Link.{Link}
use Rattle.manifest_read.specs.declared.types.Autoload.{Autoload}
use Rattle.manifest_read.specs.declared.types.Manifest.{Manifest}
use Rattle.manifest_read.specs.Keys.{Pairs}
use Rattle.manifest_read.specs.Values.{object_at}
use Rattle.manifest_read.specs.Links.{links_of}
use Rattle.manifest_read.specs.Autoloads.{no_rules, autoload_of}
use Rattle.manifest_read.specs.Settings.{settings_of}
use Rattle.manifest_read.specs.Packages.{head_of, kind_of, others_of, plain_package_at}

-- what a root alone says; of a member it is ignored
unfoldable pub dev_links_of : Role → Version → List ℕ → Pairs → Result (List Link) FieldFault
dev_links_of Root own at pairs = links_of own at pairs keys.RequireDev
dev_links_of Member own at pairs = Ok []

unfoldable pub dev_autoload_of : Role → List ℕ → Pairs → Result Autoload FieldFault
dev_autoload_of Root at pairs = autoload_of Root at pairs keys.AutoloadDev
dev_autoload_of Member at pairs = Ok no_rules

-- the keys in the order in which they are checked
unfoldable pub manifest_from : Role → List ℕ → Pairs → Result Manifest FieldFault
manifest_from role at pairs = do
  head ← head_of role at pairs
  kind ← kind_of at pairs
  require ← links_of head.version at pairs keys.Require
  require_dev ← dev_links_of role head.version at pairs
  others ← others_of head.version at pairs
  autoload ← autoload_of role at pairs keys.Autoload
  autoload_dev ← dev_autoload_of role at pairs
  settings ← settings_of role at pairs
  plain ← plain_package_at at pairs
  Ok (record {
    «package» = record {
      name = head.name;
      version_text = head.version_text;
      version = head.version;
      kind = kind;
      require = require;
      conflict = others.conflict;
      replace = others.replace;
      provide = others.provide;
      autoload = autoload;
    };
    require_dev = require_dev;
    autoload_dev = autoload_dev;
    repositories = settings.repositories;
    minimum = settings.minimum;
    prefer_stable = settings.prefer_stable;
    platform = settings.config.platform;
    optimise = settings.config.optimise;
    authoritative = settings.config.authoritative;
  })

-- the manifest of a document, or the first fault
unfoldable pub manifest_of : Role → JsonTree → Result Manifest FieldFault
manifest_of role v = do
  pairs ← object_at [] v
  manifest_from role [] pairs
