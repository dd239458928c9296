-- The outcome of `files`: the paths of the table of files, a line each, or the first refusal.
use Rattle.std.specs.Prelude.{ℕ, List, [], ◌∷◌, ◌++◌, Result, Ok}
use Rattle.std.specs.List.{flat_map}
use Rattle.path_name.specs.Given.{◌>>=◌}
use Rattle.path_name.specs.Paths.{path_text}
use Rattle.tree_dev.specs.Trees.{FileTree}
use Rattle.table_scan.specs.declared.types.FileRow.{FileRow}
use Rattle.run_answers.specs.declared.refusal.Refusal.{Refusal}
use Rattle.composer_top.specs.Outcome.Tables.{not_pending, file_tables_in}

abbrev pub file_lines : List FileRow → List ℕ
file_lines rows = flat_map (λ row. path_text row.path ++ 10 ∷ []) rows

unfoldable pub files_outcome : FileTree → List (List ℕ) → Result (List ℕ) Refusal
files_outcome t project = do
  passed ← not_pending t project
  tables ← file_tables_in t project
  Ok (file_lines tables.files)
