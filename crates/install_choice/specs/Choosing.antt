-- Which packages `install` and `update` install (Composer's documentation, "Basic usage", "Installing dependencies").
use Rattle.std.specs.Prelude.{ℕ, List, Option, Some, None, Result, Ok}
use Rattle.path_name.specs.Given.{◌>>=◌}
use Rattle.tree_dev.specs.Projects.{lock_path}
use Rattle.tree_dev.specs.Trees.{FileTree, kind_at}
use Rattle.tree_dev.specs.declared.entry.Kind.{Kind}
use Rattle.tree_dev.specs.declared.entry.Kind.TheVariants as kinds
use Rattle.lock_file.specs.declared.types.Lock.{Lock}
use Rattle.manifest_read.specs.declared.types.Manifest.{Manifest}
use Rattle.pkg_pool.specs.declared.pool.Pool.{Pool}
use Rattle.run_answers.specs.declared.refusal.Refusal.{Refusal}
use Rattle.project_files.specs.ProjectLock.{pool_in, project_lock_in}
use Rattle.project_files.specs.ProjectManifest.{project_manifest_in}
use Rattle.project_files.specs.declared.manifests.ProjectManifest.{ProjectManifest}
use Rattle.install_choice.specs.Planning.{IsChosenByPlan}
use Rattle.install_choice.specs.Sequences.{Is, Then}
use Rattle.install_sources.specs.Verdicts.{all_met}
use Rattle.install_choice.specs.declared.chosen.Chosen.{Chosen}

-- ---- the lock that stands

-- what it says
abbrev pub lock_read : FileTree → List (List ℕ) → Result (Option Lock) Refusal
lock_read t at = project_lock_in t at >>= λ lock. Ok (Some lock)

abbrev pub lock_by_kind : FileTree → List (List ℕ) → Kind → Result (Option Lock) Refusal
lock_by_kind t at kinds.Absent = Ok None
lock_by_kind t at kinds.File = lock_read t at
lock_by_kind t at kinds.Folder = lock_read t at
lock_by_kind t at kinds.Other = lock_read t at

-- what it says, and None where nothing is there
unfoldable pub standing_lock_in : FileTree → List (List ℕ) → Result (Option Lock) Refusal
standing_lock_in t at = lock_by_kind t at (kind_at t (lock_path at))

-- a lock that is left as it is
abbrev pub standing_choice : Lock → Pool → Chosen
standing_choice lock pool = record { root = pool.root; lock = lock; text = None }

abbrev pub chosen_if_met : Lock → Pool → Result (Unit {0}) Refusal → Result Chosen Refusal
chosen_if_met lock pool met = met >>= λ done. Ok (standing_choice lock pool)

unfoldable pub chosen_in_pool : Lock → Pool → Result Chosen Refusal
chosen_in_pool lock pool = chosen_if_met lock pool (all_met pool)

-- The packages of the lock that stands: its urls lead to folders of the tree, and all its packages together, those for
-- development too, are a valid plan.
unfoldable pub chosen_by_lock : List (List ℕ) → Manifest → Lock → Result Chosen Refusal
chosen_by_lock at root lock = pool_in root lock at >>= chosen_in_pool lock

-- ---- what the commands install

-- The packages of the lock that stands, and those of a new plan without one; with the entries that may then still be listed.
abbrev pub IsChosenWith : FileTree → List (List ℕ) → ℕ → ProjectManifest → Option Lock → Result (Chosen × ℕ) Refusal → Type 0
IsChosenWith t at left manifest None = IsChosenByPlan t at manifest.root manifest.content_hash left
IsChosenWith t at left manifest (Some lock) = Is (chosen_by_lock at manifest.root lock >>= λ chosen. Ok (chosen, left))

abbrev pub IsChosenFor : FileTree → List (List ℕ) → ℕ → ProjectManifest → Result (Chosen × ℕ) Refusal → Type 0
IsChosenFor t at left manifest = Then (Is (standing_lock_in t at)) (IsChosenWith t at left manifest)

-- What `install` installs: composer.json is read first, then the lock.
unfoldable pub IsChosenToInstall : FileTree → List (List ℕ) → ℕ → Result (Chosen × ℕ) Refusal → Type 0
IsChosenToInstall t at left = Then (Is (project_manifest_in t at)) (IsChosenFor t at left)

abbrev pub IsChosenAnew : FileTree → List (List ℕ) → ℕ → ProjectManifest → Result (Chosen × ℕ) Refusal → Type 0
IsChosenAnew t at left manifest = IsChosenByPlan t at manifest.root manifest.content_hash left

-- What `update` installs: it does not look at the lock that stands.
unfoldable pub IsChosenToUpdate : FileTree → List (List ℕ) → ℕ → Result (Chosen × ℕ) Refusal → Type 0
IsChosenToUpdate t at left = Then (Is (project_manifest_in t at)) (IsChosenAnew t at left)
