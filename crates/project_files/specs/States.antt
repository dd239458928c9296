-- The generation of the tables that stand, by their state.
use Rattle.std.specs.Prelude.{ℕ, List, Option, Some, None, Result, Ok, Err}
use Rattle.std.specs.Option.{option_map}
use Rattle.tree_dev.specs.Trees.{FileTree, read_at}
use Rattle.tree_dev.specs.declared.limits.TheConstants.{FILE_BYTES}
use Rattle.tree_dev.specs.declared.entry.ReadAnswer.{ReadAnswer}
use Rattle.tree_dev.specs.declared.entry.ReadAnswer.TheVariants as answers
use Rattle.table_scan.specs.TableFaults.{tables_of}
use Rattle.table_scan.specs.declared.types.Tables.{Tables}
use Rattle.table_scan.specs.declared.types.TableFile.TheVariants as files
use Rattle.table_scan.specs.declared.types.TableFault.{TableFault}
use Rattle.project_files.specs.Places.{table_place}

abbrev pub generation_or_none : Result Tables TableFault → Option ℕ
generation_or_none (Ok tables) = option_map (λ state. state.generation) tables.state
generation_or_none (Err fault) = None

-- what the text of a state says; None where it is none
unfoldable pub generation_of : List (List ℕ) → List ℕ → Option ℕ
generation_of project text = generation_or_none (tables_of project (record { psr4 = None; psr0 = None; class_map = None; files = None; state = Some text }))

abbrev pub generation_read : List (List ℕ) → ReadAnswer → Option ℕ
generation_read project (answers.Bytes text) = generation_of project text
generation_read project answers.Absent = None
generation_read project answers.NotFile = None
generation_read project answers.TooLong = None

unfoldable pub generation_in : FileTree → List (List ℕ) → Option ℕ
generation_in t project = generation_read project (read_at t (table_place project files.State) FILE_BYTES)
