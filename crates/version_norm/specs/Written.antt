-- What a version's text tells beside the version: which of its numbers are written.
use Rattle.std.specs.Prelude.{ℕ, List, Option, Some, None, Result, Ok, unwrap_or}
use Rattle.path_name.specs.Given.{◌>>=◌}
use Rattle.version_norm.specs.declared.fault.VersionFault.{VersionFault}
use Rattle.version_norm.specs.declared.written.Position.{Position}
use Rattle.version_norm.specs.declared.written.Position.TheVariants as positions
use Rattle.version_norm.specs.declared.written.WrittenNumbers.{WrittenNumbers}
use Rattle.version_norm.specs.declared.written.Classical.{Classical}
use Rattle.version_norm.specs.Pieces.{Reading, is_any_v, without_first, number_at, part_at}
use Rattle.version_norm.specs.Versions.{trimmed, without_flag, without_build, classical_of}

-- the last number that is written, by the parts that follow the first one
abbrev pub last_written : Option ℕ → Option ℕ → Option ℕ → Position
last_written minor release (Some build) = positions.Build
last_written minor (Some release) None = positions.Release
last_written (Some minor) None None = positions.Minor
last_written None None None = positions.Major

-- up to four numbers joined by `.`, of which the first has at most so many digits; a missing one is 0
unfoldable pub written_numbers_at : ℕ → List ℕ → Reading WrittenNumbers
written_numbers_at most text = do
  major ← number_at most text
  minor ← part_at major.1
  release ← part_at minor.1
  build ← part_at release.1
  Ok (
    record {
      numbers = record { major = major.0; minor = unwrap_or minor.0 0; release = unwrap_or release.0 0; build = unwrap_or build.0 0 };
      last = last_written minor.0 release.0 build.0;
    },
    build.1,
  )

-- the text without blanks around it, a final stability and a build
abbrev pub bare_text : List ℕ → List ℕ
bare_text text = without_build (without_flag (trimmed text))

-- the classical version that a text has, and the last number that it writes; else the fault
unfoldable pub classical_form : List ℕ → Result Classical VersionFault
classical_form text = do
  numbered ← classical_of (bare_text text)
  written ← written_numbers_at 5 (without_first is_any_v (bare_text text))
  Ok (record { numbered = numbered; last = written.0.last })
