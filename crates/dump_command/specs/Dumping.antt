-- What `dump-autoload` writes: the tables of the packages that are installed.
use Rattle.std.specs.Prelude.{◌≡◌, ℕ, List, [], ◌∷◌, ◌++◌, Bool, true, false, Option, Some, None, Result, Ok, Err, IfOk}
use Rattle.path_name.specs.Given.{◌>>=◌}
use Rattle.tree_dev.specs.Trees.{FileTree}
use Rattle.composer_words.specs.declared.chosen.Ways.{Ways}
use Rattle.json_ordered.specs.JsonTexts.{pretty_text}
use Rattle.json_ordered.specs.JsonTree.{array_of}
use Rattle.lock_file.specs.InstalledText.{installed_json}
use Rattle.stage_job.specs.declared.job.Part.{Part}
use Rattle.table_scan.specs.declared.types.Tables.{Tables}
use Rattle.table_print.specs.TablePrinting.{printed}
use Rattle.run_answers.specs.declared.refusal.Refusal.{Refusal}
use Rattle.table_files.specs.Counts.{counts_lines}
use Rattle.table_files.specs.NewTables.{AreNewTables}
use Rattle.table_files.specs.Written.{AreReadBack, parts_in, written_files}
use Rattle.table_files.specs.declared.building.NewTables.{NewTables}
use Rattle.install_commands.specs.declared.work.Work.{Work}
use Rattle.dump_command.specs.Standing.{project_of, standing_in}
use Rattle.dump_command.specs.declared.standing.Standing.{Standing}

-- the installed.json of no packages
unfoldable pub none_installed : List ℕ
none_installed = pretty_text (installed_json false (array_of []) (array_of [])) ++ 10 ∷ []

-- One that is there is not written.
abbrev pub installed_text : Bool → Option (List ℕ)
installed_text true = None
installed_text false = Some none_installed

-- the files of tables
abbrev pub dumped_parts : List (List ℕ) → Bool → Tables → Result (List Part) Refusal
dumped_parts project is_listed tables = parts_in project (written_files (printed project tables) (installed_text is_listed))

abbrev pub work_with : NewTables → List Part → Work
work_with new parts = record { job = record { parts = parts }; generation = new.generation; lines = counts_lines new.tables new.generation }

-- the work of tables whose texts are no longer than files may be
unfoldable pub tables_work : List (List ℕ) → Bool → NewTables → Result Work Refusal
tables_work project is_listed new = dumped_parts project is_listed new.tables >>= λ parts. Ok (work_with new parts)

-- The work of tables that were built, behind which so many entries may still be listed; or the refusal of building them.
abbrev pub IsWorkOf : List (List ℕ) → Bool → ℕ → Result (NewTables × ℕ) Refusal → Result Work Refusal → Type 0
IsWorkOf project is_listed after (Ok new) made = (new.1 ≡ after) × (made ≡ tables_work project is_listed new.0)
IsWorkOf project is_listed after (Err refusal) made = made ≡ Err refusal

-- The work of the tables of what stands in a tree, of which so many entries may be listed, and how many may be listed behind it; or
-- its first refusal. What is written is read as the tables that are meant.
pub record IsStandingWork (t : FileTree) (project : List (List ℕ)) (left after : ℕ) (standing : Standing) (made : Result Work Refusal) : Type 0 where
  pub new : Result (NewTables × ℕ) Refusal
  pub is_new : AreNewTables t (project_of project standing) standing.setting left new
  pub is_made : IsWorkOf project standing.is_listed after new made
  pub read_back : IfOk made (λ work. IfOk new (λ built. AreReadBack project built.0.tables))

abbrev pub IsWorkFrom : FileTree → List (List ℕ) → ℕ → ℕ → Result Standing Refusal → Result Work Refusal → Type 0
IsWorkFrom t project left after (Ok standing) made = IsStandingWork t project left after standing made
IsWorkFrom t project left after (Err refusal) made = made ≡ Err refusal

-- The work of `dump-autoload` in a tree that is claimed, of which so many entries may be listed, and how many may be listed
-- behind it; or its first refusal.
unfoldable pub IsDumped : List (List ℕ) → Ways → ℕ → FileTree → ℕ → Result Work Refusal → Type 0
IsDumped project ways left t after made = IsWorkFrom t project left after (standing_in t project ways) made
