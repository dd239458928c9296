-- Versions in a manifest.
use Rattle.std.specs.Prelude.{ℕ, List, Result, Ok, Err}
use Rattle.version_norm.specs.declared.version.Version.{Version}
use Rattle.version_norm.specs.declared.fault.VersionFault.{VersionFault}
use Rattle.version_norm.specs.declared.fault.VersionFault.TheVariants as version_faults
use Rattle.version_norm.specs.Versions.{normal_form}
use Rattle.manifest_read.specs.declared.fault.FieldFault.{FieldFault}
use Rattle.manifest_read.specs.declared.fault.FieldFault.TheVariants.{BadField, OutOfMemory}

-- a text that is no version, or a date, is a bad field
abbrev pub version_or_fault : List ℕ → Result Version VersionFault → Result Version FieldFault
version_or_fault pointer (Ok version) = Ok version
version_or_fault pointer (Err version_faults.DateVersion) = Err (BadField pointer)
version_or_fault pointer (Err version_faults.NotAVersion) = Err (BadField pointer)
version_or_fault pointer (Err version_faults.OutOfMemory) = Err OutOfMemory

unfoldable pub version_at : List ℕ → List ℕ → Result Version FieldFault
version_at pointer text = version_or_fault pointer (normal_form text)
