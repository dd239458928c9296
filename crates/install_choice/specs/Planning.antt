-- The packages of a new plan, with their lock.
use Rattle.std.specs.Prelude.{◌≡◌, ℕ, List, Some, Result, Ok, Err}
use Rattle.std.specs.Str.{IsUtf8}
use Rattle.tree_dev.specs.Trees.{FileTree}
use Rattle.lock_file.specs.FormedLocks.{IsLock}
use Rattle.lock_file.specs.KeptPools.{IsDocumentedRoot}
use Rattle.lock_file.specs.LockText.{lock_text}
use Rattle.lock_file.specs.PlanLocks.{IsLockOf}
use Rattle.lock_file.specs.Rereading.{IsKept}
use Rattle.lock_file.specs.declared.types.Lock.{Lock}
use Rattle.manifest_read.specs.WellFormed.{IsManifest}
use Rattle.manifest_read.specs.declared.types.Manifest.{Manifest}
use Rattle.manifest_read.specs.declared.types.Role.TheVariants.{Root}
use Rattle.pkg_pool.specs.Pools.{Loaded, pool_of_tree}
use Rattle.pkg_pool.specs.declared.pool.Pool.{Pool}
use Rattle.plan_rules.specs.FirstChoice.{IsFirstChoice}
use Rattle.plan_solve.specs.Answers.{HasNoPlan}
use Rattle.run_answers.specs.declared.refusal.Refusal.{Refusal}
use Rattle.run_answers.specs.declared.refusal.Refusal.TheVariants as refusals
use Rattle.install_choice.specs.Refusals.{or_not_loaded}
use Rattle.install_choice.specs.Sequences.{Is, Then}
use Rattle.install_choice.specs.declared.chosen.Chosen.{Chosen}

-- The lock of the plan of first choices, whose text is read as that lock again; without a valid set of packages there is none.
abbrev pub IsLockOfPlan : Pool → List ℕ → Result Lock Refusal → Type 0
IsLockOfPlan pool hash (Ok lock) = (plan : List ℕ) × IsFirstChoice pool plan × IsLockOf pool plan hash lock × IsKept lock
IsLockOfPlan pool hash (Err refusal) = HasNoPlan pool × (refusal ≡ refusals.NoPlan)

-- a lock that is to be written
abbrev pub new_choice : Manifest → Lock → Chosen
new_choice root lock = record { root = root; lock = lock; text = Some (lock_text lock) }

abbrev pub IsNewChoice : Manifest → Lock → Result Chosen Refusal → Type 0
IsNewChoice root lock = Is (Ok (new_choice root lock))

-- the packages of the plan of a pool
abbrev pub IsChosenOf : Manifest → Pool → List ℕ → Result Chosen Refusal → Type 0
IsChosenOf root pool hash = Then (IsLockOfPlan pool hash) (IsNewChoice root)

abbrev pub IsWithLeft : ℕ → Chosen → Result (Chosen × ℕ) Refusal → Type 0
IsWithLeft left chosen = Is (Ok (chosen, left))

-- the same, with the entries that may then still be listed
abbrev pub IsChosenFrom : Manifest → List ℕ → Loaded → Result (Chosen × ℕ) Refusal → Type 0
IsChosenFrom root hash loaded = Then (IsChosenOf root loaded.pool hash) (IsWithLeft loaded.left)

-- The packages of the plan of the pool that the root's repositories make, for a composer.json of this content hash.
unfoldable pub IsChosenByPlan : FileTree → List (List ℕ) → Manifest → List ℕ → ℕ → Result (Chosen × ℕ) Refusal → Type 0
IsChosenByPlan t at root hash left = Then (Is (or_not_loaded (pool_of_tree t at root left))) (IsChosenFrom root hash)

-- ---- what is known

-- a root that a JSON text says, and a hash that is UTF-8
pub record IsDocumented (manifest : Manifest) (id : List ℕ) : Type 0 where
  pub root : IsDocumentedRoot manifest
  pub hash : IsUtf8 id

-- The packages of the lock are members with names of their own, and the root is one.
pub record IsChoice (chosen : Chosen) : Type 0 where
  pub lock : IsLock chosen.lock
  pub root : IsManifest Root chosen.root
