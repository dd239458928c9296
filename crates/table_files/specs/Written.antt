-- The files that are written with the tables, as parts of a job.
use Rattle.std.specs.Prelude.{◌≡◌, ℕ, List, [], ◌∷◌, ◌++◌, length, nat_lt, if◌then◌else◌, Option, Some, None, Result, Ok, Err}
use Rattle.path_name.specs.Given.{◌>>=◌}
use Rattle.tree_dev.specs.Projects.{lock_path}
use Rattle.tree_dev.specs.declared.limits.TheConstants.{FILE_BYTES}
use Rattle.tree_dev.specs.declared.limits.LimitKind.TheVariants.{FileBytes}
use Rattle.stage_job.specs.declared.job.Part.{Part}
use Rattle.stage_job.specs.declared.job.Source.TheVariants.{Bytes}
use Rattle.table_scan.specs.TableFaults as grammar
use Rattle.table_scan.specs.declared.types.TableFile.TheVariants as files
use Rattle.table_scan.specs.declared.types.TableTexts.{TableTexts}
use Rattle.table_scan.specs.declared.types.Tables.{Tables}
use Rattle.table_print.specs.AutoloadText.{autoload_text}
use Rattle.table_print.specs.TablePrinting.{printed}
use Rattle.run_answers.specs.declared.refusal.Refusal.{Refusal}
use Rattle.run_answers.specs.declared.refusal.Refusal.TheVariants as refusals
use Rattle.project_files.specs.Places.{autoloader_place, installed_place, table_place}
use Rattle.table_files.specs.declared.written.FilePlace.{FilePlace}
use Rattle.table_files.specs.declared.written.FilePlace.TheVariants as places
use Rattle.table_files.specs.declared.written.WrittenFile.{WrittenFile}

-- where a file stands in a project
abbrev pub place_in : List (List ℕ) → FilePlace → List (List ℕ)
place_in project (places.Table table) = table_place project table
place_in project places.Installed = installed_place project
place_in project places.Autoloader = autoloader_place project
place_in project places.Lock = lock_path project

abbrev pub file_at_place : FilePlace → Option (List ℕ) → WrittenFile
file_at_place place text = record { place = place; text = text }

-- The tables, installed.json, and the autoloader, each where it has a text.
unfoldable pub written_files : TableTexts → Option (List ℕ) → List WrittenFile
written_files texts installed =
    file_at_place (places.Table files.Psr4) texts.psr4
    ∷ file_at_place (places.Table files.Psr0) texts.psr0
    ∷ file_at_place (places.Table files.ClassMap) texts.class_map
    ∷ file_at_place (places.Table files.Files) texts.files
    ∷ file_at_place (places.Table files.State) texts.state
    ∷ file_at_place places.Installed installed
    ∷ file_at_place places.Autoloader (Some autoload_text) ∷ []

abbrev pub text_part : List (List ℕ) → Option (List ℕ) → List Part
text_part target None = []
text_part target (Some text) = record { target = target; from = Bytes text } ∷ []

-- where a file goes, counted from the project
abbrev pub target_of : WrittenFile → List (List ℕ)
target_of file = place_in [] file.place

abbrev pub part_of : WrittenFile → List Part
part_of file = text_part (target_of file) file.text

-- a part for each file that has a text
abbrev pub parts_of : List WrittenFile → List Part
parts_of [] = []
parts_of (file ∷ written) = part_of file ++ parts_of written

-- a text that is no longer than a file may be
abbrev pub text_checked : List (List ℕ) → Option (List ℕ) → Result (Unit {0}) Refusal
text_checked at None = Ok tt
text_checked at (Some text) = if nat_lt FILE_BYTES (length text) then Err (refusals.Limit (FileBytes at)) else Ok tt

abbrev pub file_checked : List (List ℕ) → WrittenFile → Result (Unit {0}) Refusal
file_checked project file = text_checked (place_in project file.place) file.text

-- The first file that is too long is refused.
abbrev pub files_checked : List (List ℕ) → List WrittenFile → Result (Unit {0}) Refusal
files_checked project [] = Ok tt
files_checked project (file ∷ written) = file_checked project file >>= λ passed. files_checked project written

-- the parts of files that can be written
unfoldable pub parts_in : List (List ℕ) → List WrittenFile → Result (List Part) Refusal
parts_in project written = files_checked project written >>= λ passed. Ok (parts_of written)

-- The texts of tables are read as these tables again.
abbrev pub AreReadBack : List (List ℕ) → Tables → Type 0
AreReadBack project tables = grammar.tables_of project (printed project tables) ≡ Ok tables
