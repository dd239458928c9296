-- The table files of a project over a tree: their texts, or the first refusal.
use Rattle.std.specs.Prelude.{ℕ, List, Bool, true, false, ◌&&◌, ◌||◌, not, if◌then◌else◌, Option, None, is_none, Result, Ok, Err}
use Rattle.path_name.specs.Given.{◌>>=◌}
use Rattle.tree_dev.specs.Trees.{FileTree, kind_at}
use Rattle.tree_dev.specs.Projects.{journal_path}
use Rattle.tree_dev.specs.declared.entry.Kind.{Kind}
use Rattle.tree_dev.specs.declared.entry.Kind.TheVariants as kinds
use Rattle.table_scan.specs.TableFaults.{tables_of}
use Rattle.table_scan.specs.declared.types.Tables.{Tables}
use Rattle.table_scan.specs.declared.types.TableTexts.{TableTexts}
use Rattle.table_scan.specs.declared.types.TableFile.{TableFile}
use Rattle.table_scan.specs.declared.types.TableFile.TheVariants as tables
use Rattle.table_scan.specs.declared.types.TableFault.{TableFault}
use Rattle.run_answers.specs.Faults.{refusal_of_table}
use Rattle.run_answers.specs.declared.refusal.Refusal.{Refusal}
use Rattle.run_answers.specs.declared.refusal.Refusal.TheVariants as refusals
use Rattle.project_files.specs.Places.{table_place}
use Rattle.project_files.specs.Texts.{text_in}

abbrev pub is_kind_there : Kind → Bool
is_kind_there kinds.Absent = false
is_kind_there kinds.File = true
is_kind_there kinds.Folder = true
is_kind_there kinds.Other = true

-- Pending, where anything stands in the journal's place
unfoldable pub not_pending : FileTree → List (List ℕ) → Result (Unit {0}) Refusal
not_pending t project = if is_kind_there (kind_at t (journal_path project)) then Err refusals.Pending else Ok tt

-- the text of a table file, and None where there is no such file
unfoldable pub table_text_in : FileTree → List (List ℕ) → TableFile → Result (Option (List ℕ)) Refusal
table_text_in t project table = text_in t (table_place project table)

-- NoTables, where none of the three is there
abbrev pub some_table : Option (List ℕ) → Option (List ℕ) → Option (List ℕ) → Result (Unit {0}) Refusal
some_table psr4 psr0 class_map = if is_none psr4 && is_none psr0 && is_none class_map then Err refusals.NoTables else Ok tt

-- the tables by which classes are looked up
unfoldable pub class_texts_in : FileTree → List (List ℕ) → Result TableTexts Refusal
class_texts_in t project = do
  psr4 ← table_text_in t project tables.Psr4
  psr0 ← table_text_in t project tables.Psr0
  class_map ← table_text_in t project tables.ClassMap
  passed ← some_table psr4 psr0 class_map
  state ← table_text_in t project tables.State
  Ok (record { psr4 = psr4; psr0 = psr0; class_map = class_map; files = None; state = state })

-- whether anything stands in a table's place
unfoldable pub is_there : FileTree → List (List ℕ) → TableFile → Bool
is_there t project table = is_kind_there (kind_at t (table_place project table))

unfoldable pub has_class_table : FileTree → List (List ℕ) → Bool
has_class_table t project = is_there t project tables.Psr4 || is_there t project tables.Psr0 || is_there t project tables.ClassMap

-- NoTables, where there is neither this text nor another table
abbrev pub some_file : FileTree → List (List ℕ) → Option (List ℕ) → Result (Unit {0}) Refusal
some_file t project files = if is_none files && not (has_class_table t project) then Err refusals.NoTables else Ok tt

-- the table of files
unfoldable pub file_texts_in : FileTree → List (List ℕ) → Result TableTexts Refusal
file_texts_in t project = do
  files ← table_text_in t project tables.Files
  passed ← some_file t project files
  Ok (record { psr4 = None; psr0 = None; class_map = None; files = files; state = None })

abbrev pub or_refused : Result Tables TableFault → Result Tables Refusal
or_refused (Ok tables) = Ok tables
or_refused (Err fault) = Err (refusal_of_table fault)

-- the tables of texts
abbrev pub tables_in : List (List ℕ) → TableTexts → Result Tables Refusal
tables_in project texts = or_refused (tables_of project texts)

unfoldable pub class_tables_in : FileTree → List (List ℕ) → Result Tables Refusal
class_tables_in t project = do
  texts ← class_texts_in t project
  tables_in project texts

unfoldable pub file_tables_in : FileTree → List (List ℕ) → Result Tables Refusal
file_tables_in t project = do
  texts ← file_texts_in t project
  tables_in project texts
