-- The package of a folder, by its composer.json (Composer's documentation, "The composer.json schema").
use Rattle.std.specs.Prelude.{ℕ, List, [], ◌∷◌, ◌++◌, codes, Option, Some, None, Result, Ok, Err}
use Rattle.std.specs.Option.{option_map}
use Rattle.path_name.specs.Given.{◌>>=◌}
use Rattle.tree_dev.specs.Trees.{FileTree, read_at}
use Rattle.tree_dev.specs.declared.entry.ReadAnswer.{ReadAnswer}
use Rattle.tree_dev.specs.declared.entry.ReadAnswer.TheVariants as answers
use Rattle.tree_dev.specs.declared.limits.LimitKind.TheVariants as limits
use Rattle.json_ordered.specs.JsonTree.{JsonTree}
use Rattle.json_ordered.specs.JsonFaults.{json_of}
use Rattle.json_ordered.specs.declared.fault.JsonFault.{JsonFault}
use Rattle.json_ordered.specs.declared.fault.JsonFault.TheVariants as json_faults
use Rattle.manifest_read.specs.Manifests.{manifest_of}
use Rattle.manifest_read.specs.declared.fault.FieldFault.{FieldFault}
use Rattle.manifest_read.specs.declared.fault.FieldFault.TheVariants as field_faults
use Rattle.manifest_read.specs.declared.types.Manifest.{Manifest}
use Rattle.manifest_read.specs.declared.types.Package.{Package}
use Rattle.manifest_read.specs.declared.types.Role.TheVariants.{Member}
use Rattle.pkg_pool.specs.declared.fault.ManifestFault.TheVariants as manifests
use Rattle.pkg_pool.specs.declared.fault.PoolFault.{PoolFault}
use Rattle.pkg_pool.specs.declared.fault.PoolFault.TheVariants as faults

-- ---- its text

abbrev pub manifest_path : List (List ℕ) → List (List ℕ)
manifest_path folder = folder ++ codes "composer.json" ∷ []

-- a manifest that isn't there is passed over
abbrev pub text_told : List (List ℕ) → ReadAnswer → Result (Option (List ℕ)) PoolFault
text_told path (answers.Bytes text) = Ok (Some text)
text_told path answers.Absent = Ok None
text_told path answers.NotFile = Err (faults.OtherEntry path)
text_told path answers.TooLong = Err (faults.Limit (limits.FileBytes path))

unfoldable pub told_text : FileTree → List (List ℕ) → Result (Option (List ℕ)) PoolFault
told_text t path = text_told path (read_at t path 67108864)

-- the text of the manifest in a folder, with its path
unfoldable pub manifest_text : FileTree → List (List ℕ) → Result (Option (List (List ℕ) × List ℕ)) PoolFault
manifest_text t folder = told_text t (manifest_path folder) >>= λ text. Ok (option_map (λ bytes. (manifest_path folder, bytes)) text)

-- ---- its package

abbrev pub document_told : List (List ℕ) → Result JsonTree JsonFault → Result JsonTree PoolFault
document_told path (Ok tree) = Ok tree
document_told path (Err (json_faults.NotUtf8 at)) = Err (faults.BadManifest path (manifests.NotUtf8 at))
document_told path (Err (json_faults.Syntax at)) = Err (faults.BadManifest path (manifests.Syntax at))
document_told path (Err (json_faults.TooDeep at)) = Err (faults.BadManifest path (manifests.TooDeep at))
document_told path (Err json_faults.OutOfMemory) = Err faults.OutOfMemory

unfoldable pub document_of : List (List ℕ) → List ℕ → Result JsonTree PoolFault
document_of path text = document_told path (json_of text)

abbrev pub fields_told : List (List ℕ) → Result Manifest FieldFault → Result Package PoolFault
fields_told path (Ok manifest) = Ok manifest.package
fields_told path (Err (field_faults.BadField pointer)) = Err (faults.BadManifest path (manifests.BadField pointer))
fields_told path (Err (field_faults.NotOffered pointer)) = Err (faults.NotOffered path pointer)
fields_told path (Err (field_faults.ReservedName name)) = Err (faults.BadManifest path (manifests.ReservedName name))
fields_told path (Err field_faults.OutOfMemory) = Err faults.OutOfMemory

unfoldable pub fields_of : List (List ℕ) → JsonTree → Result Package PoolFault
fields_of path tree = fields_told path (manifest_of Member tree)

-- the package that a text at a path describes, or its first fault
unfoldable pub package_of : List (List ℕ) → List ℕ → Result Package PoolFault
package_of path text = do
  tree ← document_of path text
  fields_of path tree
