-- The manifest of a project over a tree, with its content hash, or the first refusal (Composer's documentation, "The
-- composer.json schema").
use Rattle.std.specs.Prelude.{ℕ, List, Option, Some, None, Result, Ok, Err}
use Rattle.path_name.specs.Given.{◌>>=◌}
use Rattle.tree_dev.specs.Trees.{FileTree}
use Rattle.json_ordered.specs.JsonTree.{JsonTree}
use Rattle.content_hash.specs.HashedText.{hashed_text_of}
use Rattle.content_hash.specs.Ids.{id_of}
use Rattle.manifest_read.specs.Manifests.{manifest_of}
use Rattle.manifest_read.specs.declared.types.Manifest.{Manifest}
use Rattle.manifest_read.specs.declared.types.Role.TheVariants.{Root}
use Rattle.run_answers.specs.declared.refusal.NamedFile.TheVariants as files
use Rattle.run_answers.specs.declared.refusal.Refusal.{Refusal}
use Rattle.run_answers.specs.declared.refusal.Refusal.TheVariants as refusals
use Rattle.project_files.specs.declared.manifests.ProjectManifest.{ProjectManifest}
use Rattle.project_files.specs.Places.{manifest_place}
use Rattle.project_files.specs.Texts.{text_in}
use Rattle.project_files.specs.Documents.{document_in, or_bad_fields}

abbrev pub or_no_manifest : Option (List ℕ) → Result (List ℕ) Refusal
or_no_manifest (Some text) = Ok text
or_no_manifest None = Err refusals.NoManifest

-- the text of composer.json, which must be there
unfoldable pub manifest_text_in : FileTree → List (List ℕ) → Result (List ℕ) Refusal
manifest_text_in t project = text_in t (manifest_place project) >>= or_no_manifest

-- the fields of a document, or its first fault
unfoldable pub root_in : JsonTree → Result Manifest Refusal
root_in document = or_bad_fields files.Manifest (manifest_of Root document)

-- the manifest that a text describes, and the hash of its document
unfoldable pub manifest_of_text : List ℕ → Result ProjectManifest Refusal
manifest_of_text text = do
  document ← document_in files.Manifest text
  root ← root_in document
  Ok (record { root = root; content_hash = id_of (hashed_text_of document) })

unfoldable pub project_manifest_in : FileTree → List (List ℕ) → Result ProjectManifest Refusal
project_manifest_in t project = do
  text ← manifest_text_in t project
  manifest_of_text text
