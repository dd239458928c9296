-- What is wanted of a project, and what has to be changed for it.
use Rattle.std.specs.Prelude.{◌≡◌, ℕ, List, [], ◌∷◌, ◌++◌, Bool, map, Option, Some, Result, Ok, Err, IfOk}
use Rattle.path_name.specs.Given.{◌>>=◌}
use Rattle.tree_dev.specs.Trees.{FileTree}
use Rattle.lock_file.specs.InstalledText.{IsInstalledText}
use Rattle.package_moves.specs.Moves.{IsJobFor, moves_checked}
use Rattle.package_moves.specs.Wanted.{AreWanted}
use Rattle.psr_routes.specs.declared.types.Placed.{Placed}
use Rattle.stage_job.specs.Jobs.{AreParts}
use Rattle.stage_job.specs.declared.job.Job.{Job}
use Rattle.stage_job.specs.declared.job.Part.{Part}
use Rattle.stage_job.specs.declared.job.Source.TheVariants.{Copy}
use Rattle.table_print.specs.TablePrinting.{printed}
use Rattle.table_scan.specs.declared.types.TableTexts.{TableTexts}
use Rattle.table_scan.specs.declared.types.Tables.{Tables}
use Rattle.run_answers.specs.declared.refusal.Refusal.{Refusal}
use Rattle.install_sources.specs.Folders.{package_place}
use Rattle.install_commands.specs.Refusals.{or_not_staged}
use Rattle.table_files.specs.Written.{AreReadBack, file_at_place, parts_in, written_files}
use Rattle.table_files.specs.declared.written.FilePlace.TheVariants.{Lock}
use Rattle.install_choice.specs.declared.chosen.Chosen.{Chosen}
use Rattle.table_files.specs.declared.written.WrittenFile.{WrittenFile}

-- ---- what is wanted

-- a copy of a package, at vendor/NAME
abbrev pub copy_part : Placed → Part
copy_part one = record { target = package_place [] one.«package».name; from = Copy one.at }

abbrev pub copy_parts : List Placed → List Part
copy_parts members = map copy_part members

-- a new lock is written, and the one that stands is left as it is
abbrev pub lock_file_of : Option (List ℕ) → WrittenFile
lock_file_of text = file_at_place Lock text

-- the files that are written: those below vendor, and then the lock
abbrev pub install_files : TableTexts → List ℕ → Option (List ℕ) → List WrittenFile
install_files texts installed lock = written_files texts (Some installed) ++ lock_file_of lock ∷ []

-- The files of tables and of a choice of packages. The texts of the tables are read as these tables again.
pub record AreFilesOf (at : List (List ℕ)) (tables : Tables) (chosen : Chosen) (dev : Bool) (files : List WrittenFile) : Type 0 where
  pub installed : List ℕ
  pub is_installed : IsInstalledText chosen.lock dev installed
  pub are : files ≡ install_files (printed at tables) installed chosen.text
  pub read_back : AreReadBack at tables

-- their parts; the first that is too long is refused
pub record AreFileParts (at : List (List ℕ)) (tables : Tables) (chosen : Chosen) (dev : Bool) (made : Result (List Part) Refusal) : Type 0 where
  pub files : List WrittenFile
  pub are_files : AreFilesOf at tables chosen dev files
  pub is_made : made ≡ parts_in at files

abbrev pub wanted_of : List (List ℕ) → List Placed → List WrittenFile → Result (List Part) Refusal
wanted_of at members files = parts_in at files >>= λ parts. Ok (copy_parts members ++ parts)

-- Parts of which a job can be made, and that can be put into a project.
pub record CanBeMade (at : List (List ℕ)) (parts : List Part) : Type 0 where
  pub are_wanted : AreWanted parts
  pub are_parts : AreParts at parts

-- The copies of the packages in their order, and the files that are written; the first of these that is too long is refused.
pub record AreWantedParts (at : List (List ℕ)) (members : List Placed) (tables : Tables) (chosen : Chosen) (dev : Bool) (made : Result (List Part) Refusal) : Type 0 where
  pub files : List WrittenFile
  pub are_files : AreFilesOf at tables chosen dev files
  pub is_made : made ≡ wanted_of at members files
  pub can_be : IfOk made (CanBeMade at)

-- ---- what has to be changed

-- the job for what is wanted, with the entries that may then still be listed; or the first refusal
unfoldable pub IsJob : FileTree → List (List ℕ) → List Part → ℕ → Result (Job × ℕ) Refusal → Type 0
IsJob t at wanted left (Ok moved) = IsJobFor at t wanted moved.0.parts × (moves_checked at t wanted left ≡ Ok moved.1) × AreParts at moved.0.parts
IsJob t at wanted left (Err refusal) = or_not_staged (moves_checked at t wanted left) ≡ Err refusal
