-- All that an install of packages commits, put together from its steps.
use Rattle.std.specs.Prelude.{◌≡◌, ◌⊎◌, ℕ, true, List, [], ◌∷◌, ◌++◌, Some, None, Ok, IfSome}
use Rattle.std.specs.FinMap as map
use Rattle.std.specs.List.{AllByRecursion}
use Rattle.tree_dev.specs.Projects.{bytes_of, file_at, work_path}
use Rattle.tree_dev.specs.Trees.{FileTree, behind, has_folder}
use Rattle.tree_dev.specs.declared.limits.TheConstants.{ENTRIES}
use Rattle.composer_words.specs.declared.chosen.Ways.{Ways}
use Rattle.package_moves.specs.Moves.{IsJobFor, moves_checked}
use Rattle.package_moves.specs.Wanted.{without_vendor}
use Rattle.psr_routes.specs.declared.types.Placed.{Placed}
use Rattle.stage_job.specs.Jobs.{AreParts, Files, job_result}
use Rattle.stage_job.specs.declared.job.Part.{Part}
use Rattle.stage_job.specs.Mirrored.{mirrored}
use Rattle.class_walk.specs.Walks.{AreScansOf, Walked}
use Rattle.class_walk.specs.declared.job.Scanned.{Scanned}
use Rattle.table_scan.specs.declared.types.Tables.{Tables}
use Rattle.autoload_build.specs.Answers.{walks_of}
use Rattle.autoload_build.specs.BuiltTables.{tables_of}
use Rattle.autoload_build.specs.ClassAgreement.{file_in, file_of_package}
use Rattle.autoload_build.specs.Jobs.{Project}
use Rattle.install_sources.specs.Folders.{package_place}
use Rattle.install_sources.specs.Sources.{AreMembers}
use Rattle.project_files.specs.States.{generation_in}
use Rattle.install_choice.specs.Choosing.{IsChosenToInstall, IsChosenToUpdate}
use Rattle.install_choice.specs.declared.chosen.Chosen.{Chosen}
use Rattle.install_commands.specs.Claiming.{with_claim}
use Rattle.install_commands.specs.Working.{IsInstalled}
use Rattle.install_commands.specs.declared.work.Work.{Work}
use Rattle.table_files.specs.Modes.{next_generation}
use Rattle.table_files.specs.Written.{files_checked, parts_of, place_in}
use Rattle.table_files.specs.declared.written.WrittenFile.{WrittenFile}
use Rattle.install_packages.specs.InstallParts.{AreFilesOf, CanBeMade, copy_parts}
use Rattle.install_packages.specs.Installing.{install_lines, setting_of}
use Rattle.table_files.specs.NewTables.{project_with}
use Rattle.table_files.specs.declared.building.Setting.{Setting}

-- The packages in their places, what the walks find of their classes, the files that are written, and the job that makes of the
-- project what is wanted. So many entries of the tree may be listed before, and behind it.
pub record Installation (t : FileTree) (at : List (List ℕ)) (chosen : Chosen) (setting : Setting) (left after : ℕ) (work : Work) : Type 0 where
  pub members : List Placed
  pub are_members : AreMembers t at chosen.lock setting.dev (Ok members)
  pub walked : Walked
  pub walks : walks_of t (project_with at chosen.root members setting.dev) setting.mode left ≡ Ok walked
  pub found : List Scanned
  pub scans : AreScansOf walked.found found
  pub next : next_generation setting.stands ≡ Ok work.generation
  pub files : List WrittenFile
  pub are_files : AreFilesOf at (tables_of (project_with at chosen.root members setting.dev) setting.mode work.generation found) chosen setting.dev files
  pub none_long : files_checked at files ≡ Ok tt
  pub can_be : CanBeMade at (copy_parts members ++ parts_of files)
  pub job : IsJobFor at t (copy_parts members ++ parts_of files) work.job.parts
  pub parts : AreParts at work.job.parts
  pub counted : moves_checked at t (copy_parts members ++ parts_of files) walked.left ≡ Ok after
  pub lines : work.lines ≡ install_lines members (tables_of (project_with at chosen.root members setting.dev) setting.mode work.generation found) work.generation

-- the project with its packages that is installed
abbrev pub project_in : {t : FileTree} {at : List (List ℕ)} {chosen : Chosen} {setting : Setting} {left after : ℕ} {work : Work} → Installation t at chosen setting left after work → Project
project_in {t} {at} {chosen} {setting} made = project_with at chosen.root made.members setting.dev

-- The files of a project of packages and of files that are written: the copy of each package at vendor/NAME, each file that has a
-- text in its place, and nothing else in `vendor`; outside of these the files of before.
abbrev pub installed_files : List (List ℕ) → FileTree → List Placed → List WrittenFile → Files → Files
installed_files at t members files old = job_result at t (copy_parts members ++ parts_of files) (without_vendor at old)

-- each package's copy stands at vendor/NAME: the mirrored entries of its folder, and nothing else
abbrev pub ArePackagesAt : List (List ℕ) → FileTree → Files → List Placed → Type 0
ArePackagesAt at t files members =
    AllByRecursion (λ one. (below : List (List ℕ)) → files (package_place at one.«package».name ++ below) ≡ bytes_of (mirrored t one.at below)) members

-- each file that has a text stands in its place
abbrev pub AreWrittenAt : List (List ℕ) → Files → List WrittenFile → Type 0
AreWrittenAt at files written = AllByRecursion (λ file. IfSome file.text (λ text. files (place_in at file.place) ≡ Some text)) written

abbrev pub AreAboveNone : List (List ℕ) → List Part → List (List ℕ) → Type 0
AreAboveNone at [] path = Unit {0}
AreAboveNone at (part ∷ parts) path = (behind (at ++ part.target) path ≡ None) × AreAboveNone at parts path

-- a path that is at or below no copy of a package and no file that is written
abbrev pub IsOffTargets : List (List ℕ) → List Placed → List WrittenFile → List (List ℕ) → Type 0
IsOffTargets at members files path = AreAboveNone at (copy_parts members ++ parts_of files) path

-- the tables that an installation writes
abbrev pub tables_in : {t : FileTree} {at : List (List ℕ)} {chosen : Chosen} {setting : Setting} {left after : ℕ} {work : Work} → Installation t at chosen setting left after work → Tables
tables_in {t} {at} {chosen} {setting} {left} {after} {work} made = tables_of (project_with at chosen.root made.members setting.dev) setting.mode work.generation made.found

-- each package is seen in a tree in its place as the walks for classes see it where it is copied from
abbrev pub ArePackagesShown : FileTree → FileTree → List Placed → Type 0
ArePackagesShown read shown members = AllByRecursion (λ one. (below : List (List ℕ)) → file_in shown (one.shown ++ below) ≡ file_of_package read one below) members

-- What a command that began in a tree has made in another one: under its claim it chose packages, of the lock that stands or of
-- a new plan, and their installation stands there, in the surroundings of the beginning.
pub record HasNewProject (at : List (List ℕ)) (ways : Ways) (start u : FileTree) : Type 0 where
  pub folder : has_folder start (Some at) ≡ true
  pub unclaimed : map.get start (work_path at) ≡ None
  pub choice : Chosen × ℕ
  pub is_chosen : IsChosenToInstall (with_claim at start) at ENTRIES (Ok choice) ⊎ IsChosenToUpdate (with_claim at start) at ENTRIES (Ok choice)
  pub after : ℕ
  pub work : Work
  pub made : Installation (with_claim at start) at choice.0 (setting_of ways choice.0.root (generation_in (with_claim at start) at)) choice.1 after work
  pub stands : IsInstalled at start (job_result at (with_claim at start) work.job.parts (file_at start)) u

-- a choice whose lock stands already
abbrev pub kept_choice : Chosen → Chosen
kept_choice chosen = record { root = chosen.root; lock = chosen.lock; text = None }
