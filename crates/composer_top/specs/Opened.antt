-- What classes open in a project in which new tables stand.
use Rattle.std.specs.Prelude.{◌≡◌, ℕ, List, Bool, Some, Result, Ok}
use Rattle.path_name.specs.Given.{◌>>=◌}
use Rattle.tree_dev.specs.Trees.{FileTree}
use Rattle.tree_dev.specs.Projects.{file_at}
use Rattle.tree_dev.specs.declared.limits.TheConstants.{ENTRIES}
use Rattle.class_paths.specs.Search.{Listed, search_file}
use Rattle.class_paths.specs.declared.types.Route.{Route}
use Rattle.class_lookup.specs.Lookup.{has_file, lookup_in}
use Rattle.class_walk.specs.declared.job.Scanned.{Scanned}
use Rattle.table_scan.specs.TableFaults as grammar
use Rattle.table_scan.specs.declared.types.TableFile.{TableFile}
use Rattle.table_scan.specs.declared.types.Tables.{Tables}
use Rattle.autoload_build.specs.BuiltTables.{classes_of}
use Rattle.autoload_build.specs.Jobs.{Project, rows}
use Rattle.composer_words.specs.declared.chosen.Ways.{Ways}
use Rattle.run_answers.specs.declared.refusal.Refusal.{Refusal}
use Rattle.install_world.specs.InFlight.{NoJournal}
use Rattle.stage_job.specs.Jobs.{job_result}
use Rattle.project_files.specs.Places.{table_place}
use Rattle.project_files.specs.Texts.{text_in}
use Rattle.table_files.specs.Readable.{texts_at}
use Rattle.install_choice.specs.LockLaws.{HasNewLock}
use Rattle.install_commands.specs.Claiming.{with_claim}
use Rattle.install_commands.specs.Working.{IsInstalled}
use Rattle.install_commands.specs.declared.work.Work.{Work}
use Rattle.dump_command.specs.Dumping.{IsStandingWork}
use Rattle.dump_command.specs.Standing.{standing_in}
use Rattle.dump_command.specs.declared.standing.Standing.{Standing}
use Rattle.install_packages.specs.Installations.{HasNewProject}
use Rattle.composer_top.specs.Outcome.Lookup.{found_in, lookup_outcome, named, or_nothing}

-- The five table files of a project stand in a tree, each with a text that is no longer than a file may be, and are read as these
-- tables; and no journal stands.
pub record AreTablesStanding (project : List (List ℕ)) (u : FileTree) (tables : Tables) : Type 0 where
  pub no_journal : NoJournal project u
  pub texts : (table : TableFile) → (text : List ℕ) × (text_in u (table_place project table) ≡ Ok (Some text)) × (file_at u (table_place project table) ≡ Some text)
  pub read : grammar.tables_of project (texts_at project u) ≡ Ok tables

-- what a word opens in a tree by tables
abbrev pub opened_in : FileTree → Tables → List ℕ → Result (List (List ℕ)) Refusal
opened_in u tables word = named word >>= found_in u tables

-- what a word opens in a tree by rows and listed classes: the first listed file, or else the first file to which the rows lead
abbrev pub searched_in : FileTree → List Route → List Listed → List ℕ → Result (List (List ℕ)) Refusal
searched_in u routes listed word = named word >>= λ name. or_nothing (search_file (has_file u) routes listed name)

-- Plain tables stand of a project, whose listed folders and files hold these files. They open for every class, whatever files there
-- are, the first listed file that declares it, and else the first file to which the rows lead it; and so does `lookup`.
pub record OpensByRows (p : Project) (found : List Scanned) (u : FileTree) : Type 0 where
  pub tables : Tables
  pub standing : AreTablesStanding p.at u tables
  pub opens : (is_file : List (List ℕ) → Bool) (name : List ℕ) → lookup_in tables is_file name ≡ search_file is_file (rows p) (classes_of found) name
  pub looked_up : (word : List ℕ) → lookup_outcome u p.at word ≡ searched_in u (rows p) (classes_of found) word

-- What a dump that began in a tree has made in another one: the work of what stood under its claim stands there, in the
-- surroundings of the beginning.
pub record HasNewTables (project : List (List ℕ)) (ways : Ways) (start u : FileTree) : Type 0 where
  pub standing : Standing
  pub stood : standing_in (with_claim project start) project ways ≡ Ok standing
  pub after : ℕ
  pub work : Work
  pub dumped : IsStandingWork (with_claim project start) project ENTRIES after standing (Ok work)
  pub stands : IsInstalled project start (job_result project (with_claim project start) work.job.parts (file_at start)) u

-- What an update that began in a tree has made in another one: a new project, whose lock is that of the plan of first choices.
pub record HasUpdated (project : List (List ℕ)) (ways : Ways) (start u : FileTree) : Type 0 where
  pub new : HasNewProject project ways start u
  pub chosen : HasNewLock (with_claim project start) project ENTRIES new.choice.0
