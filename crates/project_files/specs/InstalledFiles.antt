-- What the installed.json of a project says, over a tree, or the first refusal.
use Rattle.std.specs.Prelude.{ℕ, List, Option, Some, None, Result, Ok, Err}
use Rattle.path_name.specs.Given.{◌>>=◌}
use Rattle.tree_dev.specs.Trees.{FileTree}
use Rattle.json_ordered.specs.JsonTree.{JsonTree}
use Rattle.lock_file.specs.InstalledPackages.{installed_fields_of}
use Rattle.lock_file.specs.declared.types.Installed.{Installed}
use Rattle.run_answers.specs.declared.refusal.NamedFile.TheVariants as files
use Rattle.run_answers.specs.declared.refusal.Refusal.{Refusal}
use Rattle.project_files.specs.Places.{installed_place}
use Rattle.project_files.specs.Texts.{text_in}
use Rattle.project_files.specs.Documents.{document_in, or_bad_fields}

-- the fields of a document, or its first fault
unfoldable pub installed_fields_in : JsonTree → Result Installed Refusal
installed_fields_in document = or_bad_fields files.Installed (installed_fields_of document)

unfoldable pub installed_of_text : List ℕ → Result Installed Refusal
installed_of_text text = do
  document ← document_in files.Installed text
  installed_fields_in document

abbrev pub installed_if : Option (List ℕ) → Result (Option Installed) Refusal
installed_if None = Ok None
installed_if (Some text) = installed_of_text text >>= λ installed. Ok (Some installed)

-- what is installed, and None where nothing says so
unfoldable pub installed_in : FileTree → List (List ℕ) → Result (Option Installed) Refusal
installed_in t project = text_in t (installed_place project) >>= installed_if
