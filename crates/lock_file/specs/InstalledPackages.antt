-- What an installed.json says, or its first fault: the packages in `vendor`, as Composer 2 writes them there.
use Rattle.std.specs.Prelude.{ℕ, List, [], Result, Ok}
use Rattle.path_name.specs.Given.{◌>>=◌}
use Rattle.json_ordered.specs.JsonTree.{JsonTree}
use Rattle.manifest_read.specs.declared.fault.FieldFault.{FieldFault}
use Rattle.manifest_read.specs.declared.key.Key.TheVariants as keys
use Rattle.manifest_read.specs.declared.types.Package.{Package}
use Rattle.manifest_read.specs.Keys.{Pairs}
use Rattle.manifest_read.specs.Values.{object_at}
use Rattle.manifest_read.specs.Autoloads.{texts_of}
use Rattle.manifest_read.specs.Settings.{boolean_of}
use Rattle.manifest_read.specs.Packages.{package_entry_of}
use Rattle.lock_file.specs.declared.types.Installed.{Installed}
use Rattle.lock_file.specs.Entries.{entries_of}

abbrev pub package_name : Package → List ℕ
package_name entry = entry.name

-- the keys in the order in which they are checked; of an entry its `dist` is not looked at
unfoldable pub installed_from : List ℕ → Pairs → Result Installed FieldFault
installed_from at pairs = do
  packages ← entries_of package_entry_of package_name [] at pairs keys.Packages
  dev ← boolean_of at pairs keys.Dev
  dev_names ← texts_of at pairs keys.DevPackageNames
  Ok (record { packages = packages; dev = dev; dev_names = dev_names })

-- what a document says is installed, or the first fault
unfoldable pub installed_fields_of : JsonTree → Result Installed FieldFault
installed_fields_of v = do
  pairs ← object_at [] v
  installed_from [] pairs
