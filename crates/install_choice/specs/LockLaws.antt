-- What is known of the lock that stands after `install` and `update`.
use Rattle.std.specs.Prelude.{◌≡◌, ℕ, true, List, Some, None, Ok}
use Rattle.tree_dev.specs.Trees.{FileTree}
use Rattle.lock_file.specs.LockText.{lock_text}
use Rattle.lock_file.specs.PlanLocks.{IsLockOf}
use Rattle.lock_file.specs.Rereading.{IsTextOf}
use Rattle.lock_file.specs.declared.types.Lock.{Lock}
use Rattle.manifest_read.specs.declared.types.Manifest.{Manifest}
use Rattle.pkg_pool.specs.Pools.{Loaded, pool_of_tree}
use Rattle.pkg_pool.specs.declared.pool.Pool.{Pool}
use Rattle.plan_rules.specs.FirstChoice.{IsFirstChoice}
use Rattle.plan_rules.specs.Validity.{is_valid}
use Rattle.plan_solve.specs.Answers.{HasNoPlan}
use Rattle.project_files.specs.ProjectLock.{pool_in}
use Rattle.project_files.specs.ProjectManifest.{project_manifest_in}
use Rattle.project_files.specs.declared.manifests.ProjectManifest.{ProjectManifest}
use Rattle.install_sources.specs.Verdicts.{whole}
use Rattle.install_choice.specs.declared.chosen.Chosen.{Chosen}

-- The packages of the root's repositories, as `update` reads them.
pub record HasPool (t : FileTree) (at : List (List ℕ)) (left : ℕ) (manifest : ProjectManifest) (loaded : Loaded) : Type 0 where
  pub read : project_manifest_in t at ≡ Ok manifest
  pub pool : pool_of_tree t at manifest.root left ≡ Ok loaded

-- The lock is that of the plan of first choices among these packages. Its text, which is to be written, is read as it again.
pub record HasNewLock (t : FileTree) (at : List (List ℕ)) (left : ℕ) (chosen : Chosen) : Type 0 where
  pub manifest : ProjectManifest
  pub loaded : Loaded
  pub offered : HasPool t at left manifest loaded
  pub root : chosen.root ≡ manifest.root
  pub plan : List ℕ
  pub first : IsFirstChoice loaded.pool plan
  pub is_lock : IsLockOf loaded.pool plan manifest.content_hash chosen.lock
  pub written : chosen.text ≡ Some (lock_text chosen.lock)
  pub read_back : IsTextOf chosen.lock (lock_text chosen.lock)

-- No set of these packages is valid.
pub record HasNoValidSet (t : FileTree) (at : List (List ℕ)) (left : ℕ) : Type 0 where
  pub manifest : ProjectManifest
  pub loaded : Loaded
  pub offered : HasPool t at left manifest loaded
  pub none : HasNoPlan loaded.pool

-- All packages of a lock, those for development with them, are a valid plan for a root.
pub record IsMet (at : List (List ℕ)) (root : Manifest) (lock : Lock) : Type 0 where
  pub pool : Pool
  pub offered : pool_in root lock at ≡ Ok pool
  pub valid : is_valid pool (whole pool) ≡ true

-- The lock that stands is left as it is, and is met for the composer.json that was read.
pub record HasMetLock (t : FileTree) (at : List (List ℕ)) (lock : Lock) (chosen : Chosen) : Type 0 where
  pub manifest : ProjectManifest
  pub read : project_manifest_in t at ≡ Ok manifest
  pub root : chosen.root ≡ manifest.root
  pub same : chosen.lock ≡ lock
  pub unwritten : chosen.text ≡ None
  pub met : IsMet at manifest.root lock
