-- The warning on a lock that was made for another composer.json (Composer's documentation, "Basic usage", "Commit your
-- composer.lock file to version control").
use Rattle.std.specs.Prelude.{◌⊎◌, ℕ, List, [], ◌∷◌, ◌++◌, codes, Option, Some, None, Result, Ok, Err, if◌then◌else◌}
use Rattle.path_name.specs.Orders.{bytes_are_equal}
use Rattle.tree_dev.specs.Device.{Rose}
use Rattle.tree_dev.specs.Sinks.{Taken, Takes, TakesPart}
use Rattle.tree_dev.specs.Trees.{FileTree}
use Rattle.lock_file.specs.declared.types.Lock.{Lock}
use Rattle.run_answers.specs.declared.refusal.Refusal.{Refusal}
use Rattle.project_files.specs.declared.manifests.ProjectManifest.{ProjectManifest}
use Rattle.project_files.specs.ProjectManifest.{project_manifest_in}
use Rattle.install_choice.specs.Choosing.{standing_lock_in}

-- A text was taken, or a prefix of it by a sink that failed.
abbrev pub TakesText : Taken → Taken → List ℕ → Type 0
TakesText before now text = Takes before now text ⊎ (TakesPart before now text × Rose before.faults now.faults)

unfoldable pub stale_text : List ℕ
stale_text = codes "warning: composer.lock is out of date" ++ 10 ∷ []

-- nothing, where the lock has the content hash of the composer.json
abbrev pub warning_of : ProjectManifest → Lock → List ℕ
warning_of manifest lock = if bytes_are_equal manifest.content_hash lock.content_hash then [] else stale_text

-- without a lock there is nothing to warn of
abbrev pub warning_of_lock : ProjectManifest → Option Lock → List ℕ
warning_of_lock manifest None = []
warning_of_lock manifest (Some lock) = warning_of manifest lock

abbrev pub warning_if : ProjectManifest → Result (Option Lock) Refusal → List ℕ
warning_if manifest (Ok lock) = warning_of_lock manifest lock
warning_if manifest (Err refusal) = []

abbrev pub warning_after : FileTree → List (List ℕ) → Result ProjectManifest Refusal → List ℕ
warning_after t at (Ok manifest) = warning_if manifest (standing_lock_in t at)
warning_after t at (Err refusal) = []

-- what `install` warns of in a tree that is claimed: it comes once both files were read
unfoldable pub warning_in : FileTree → List (List ℕ) → List ℕ
warning_in t at = warning_after t at (project_manifest_in t at)

-- nothing was put, or the warning
abbrev pub MayWarn : Taken → Taken → Type 0
MayWarn before now = TakesText before now [] ⊎ TakesText before now stale_text
