-- Reading composer.json and the repositories never answers that there is no plan.
use Rattle.std.proofs.Common.{◌≡◌, ℕ, List, Option, Some, None, Result, Ok, Err}
use Rattle.tree_dev.specs.Trees.{FileTree, read_at}
use Rattle.tree_dev.specs.declared.limits.TheConstants.{FILE_BYTES}
use Rattle.tree_dev.specs.declared.entry.ReadAnswer.{ReadAnswer}
use Rattle.tree_dev.specs.declared.entry.ReadAnswer.TheVariants as answers
use Rattle.json_ordered.specs.JsonFaults.{json_of}
use Rattle.json_ordered.specs.JsonTree.{JsonTree}
use Rattle.json_ordered.specs.declared.fault.JsonFault.{JsonFault}
use Rattle.json_ordered.specs.declared.fault.JsonFault.TheVariants as json_faults
use Rattle.manifest_read.specs.Manifests.{manifest_of}
use Rattle.manifest_read.specs.declared.fault.FieldFault.{FieldFault}
use Rattle.manifest_read.specs.declared.fault.FieldFault.TheVariants as field_faults
use Rattle.manifest_read.specs.declared.types.Manifest.{Manifest}
use Rattle.manifest_read.specs.declared.types.Role.TheVariants.{Root}
use Rattle.pkg_pool.specs.declared.fault.PoolFault.{PoolFault}
use Rattle.pkg_pool.specs.declared.fault.PoolFault.TheVariants as pool_faults
use Rattle.run_answers.specs.declared.refusal.NamedFile.{NamedFile}
use Rattle.run_answers.specs.declared.refusal.NamedFile.TheVariants as files
use Rattle.run_answers.specs.declared.refusal.Refusal.{Refusal}
use Rattle.run_answers.specs.declared.refusal.Refusal.TheVariants as refusals
use Rattle.project_files.specs.Documents.{document_in, or_bad_fields, or_no_document}
use Rattle.project_files.specs.Places.{manifest_place}
use Rattle.project_files.specs.ProjectManifest.{manifest_of_text, manifest_text_in, or_no_manifest, project_manifest_in, root_in}
use Rattle.project_files.specs.Texts.{text_in, text_of}
use Rattle.project_files.specs.declared.manifests.ProjectManifest.{ProjectManifest}
use Rattle.install_choice.specs.Refusals.{or_not_loaded}
use Rattle.install_choice.proofs.Steps.{neither}

abbrev IsNoPlan : {X : Type 0} → Result X Refusal → Type 0
IsNoPlan r = r ≡ Err refusals.NoPlan

module _ {P : Type 0} where
  -- ---- composer.json

  text_plan : (path : List (List ℕ)) (answer : ReadAnswer) → IsNoPlan (text_of path answer) → P
  text_plan path (answers.Bytes text) e = absurd cc
  text_plan path answers.Absent e = absurd cc
  text_plan path answers.NotFile e = absurd cc
  text_plan path answers.TooLong e = absurd cc

  absent_plan : (text : Option (List ℕ)) → IsNoPlan (or_no_manifest text) → P
  absent_plan (Some text) e = absurd cc
  absent_plan None e = absurd cc

  json_plan : (file : NamedFile) (r : Result JsonTree JsonFault) → IsNoPlan (or_no_document file r) → P
  json_plan file (Ok tree) e = absurd cc
  json_plan file (Err (json_faults.NotUtf8 at)) e = absurd cc
  json_plan file (Err (json_faults.Syntax at)) e = absurd cc
  json_plan file (Err (json_faults.TooDeep at)) e = absurd cc
  json_plan file (Err json_faults.OutOfMemory) e = absurd cc

  fields_plan : (file : NamedFile) (r : Result Manifest FieldFault) → IsNoPlan (or_bad_fields file r) → P
  fields_plan file (Ok root) e = absurd cc
  fields_plan file (Err (field_faults.BadField pointer)) e = absurd cc
  fields_plan file (Err (field_faults.NotOffered pointer)) e = absurd cc
  fields_plan file (Err (field_faults.ReservedName name)) e = absurd cc
  fields_plan file (Err field_faults.OutOfMemory) e = absurd cc

  made_plan : (manifest : ProjectManifest) → IsNoPlan (Ok manifest) → P
  made_plan manifest e = absurd cc

  text_read : (t : FileTree) (at : List (List ℕ)) → IsNoPlan (manifest_text_in t at) → P
  unfolding manifest_text_in text_in
  text_read t at e = neither (text_of (manifest_place at) (read_at t (manifest_place at) FILE_BYTES)) or_no_manifest refusals.NoPlan (text_plan (manifest_place at) (read_at t (manifest_place at) FILE_BYTES)) absent_plan e

  root_read : (tree : JsonTree) → IsNoPlan (root_in tree) → P
  unfolding root_in
  root_read tree e = fields_plan files.Manifest (manifest_of Root tree) e

  document_read : (text : List ℕ) → IsNoPlan (document_in files.Manifest text) → P
  unfolding document_in
  document_read text e = json_plan files.Manifest (json_of text) e

  fields_read : (text : List ℕ) → IsNoPlan (manifest_of_text text) → P
  unfolding manifest_of_text
  fields_read text e = neither (document_in files.Manifest text) _ refusals.NoPlan (document_read text) (λ tree. neither (root_in tree) _ refusals.NoPlan (root_read tree) (λ root. made_plan _)) e

  pub manifest_plan : (t : FileTree) (at : List (List ℕ)) → IsNoPlan (project_manifest_in t at) → P
  unfolding project_manifest_in
  manifest_plan t at e = neither (manifest_text_in t at) manifest_of_text refusals.NoPlan (text_read t at) fields_read e

  -- ---- the repositories

  pub pool_plan : {X : Type 0} (r : Result X PoolFault) → IsNoPlan (or_not_loaded r) → P
  pool_plan (Ok x) e = absurd cc
  pool_plan (Err (pool_faults.MissingPath text)) e = absurd cc
  pool_plan (Err (pool_faults.BadManifest path fault)) e = absurd cc
  pool_plan (Err (pool_faults.NotOffered path pointer)) e = absurd cc
  pool_plan (Err (pool_faults.OtherEntry path)) e = absurd cc
  pool_plan (Err (pool_faults.Limit limit)) e = absurd cc
  pool_plan (Err (pool_faults.Vanished path)) e = absurd cc
  pool_plan (Err pool_faults.DeviceFault) e = absurd cc
  pool_plan (Err pool_faults.OutOfMemory) e = absurd cc
