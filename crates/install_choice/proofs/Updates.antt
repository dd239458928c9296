-- What `update` chooses, and `install` without a lock.
use Rattle.std.proofs.Common.{◌≡◌, ℕ, Bool, true, false, List, length, None, Result, Ok, Err, refl, sym, ap, ◌∙◌, subst, inl, inr}
use Rattle.std.specs.Prelude.{◌⊎◌}
use Rattle.std.proofs.lemmas.Bool.{false≢true}
use Rattle.tree_dev.specs.Trees.{FileTree}
use Rattle.lock_file.proofs.KeptLocks.{text_of}
use Rattle.lock_file.specs.declared.types.Lock.{Lock}
use Rattle.manifest_read.specs.declared.types.Manifest.{Manifest}
use Rattle.pkg_pool.specs.Pools.{Loaded, pool_of_tree}
use Rattle.pkg_pool.specs.declared.fault.PoolFault.{PoolFault}
use Rattle.pkg_pool.specs.declared.pool.Pool.{Pool}
use Rattle.plan_rules.specs.FirstChoice.{IsFirstChoice}
use Rattle.plan_rules.specs.Sets.{set_of}
use Rattle.plan_rules.proofs.Marked.{length_of}
use Rattle.plan_solve.specs.Answers.{HasNoPlan}
use Rattle.run_answers.specs.declared.refusal.Refusal.{Refusal}
use Rattle.run_answers.specs.declared.refusal.Refusal.TheVariants as refusals
use Rattle.project_files.specs.ProjectManifest.{project_manifest_in}
use Rattle.project_files.specs.declared.manifests.ProjectManifest.{ProjectManifest}
use Rattle.install_choice.specs.Choosing.{IsChosenAnew, IsChosenFor, IsChosenToInstall, IsChosenToUpdate, IsChosenWith, standing_lock_in}
use Rattle.install_choice.specs.LockLaws.{HasNewLock, HasNoValidSet, HasPool}
use Rattle.install_choice.specs.Planning.{IsChosenByPlan, IsChosenFrom, IsChosenOf, IsLockOfPlan, IsNewChoice, IsWithLeft, new_choice}
use Rattle.install_choice.specs.Refusals.{or_not_loaded}
use Rattle.install_choice.specs.Sequences.{Follows, Is}
use Rattle.install_choice.specs.declared.chosen.Chosen.{Chosen}
use Rattle.install_choice.proofs.NoPlans.{manifest_plan, pool_plan}
use Rattle.install_choice.proofs.Steps.{after, both_taken, one_stops, same_value}

loaded_of : (r : Result Loaded PoolFault) (loaded : Loaded) → Ok loaded ≡ or_not_loaded r → r ≡ Ok loaded
loaded_of (Ok other) loaded e = ap Ok (same_value other loaded (sym e))
loaded_of (Err fault) loaded e = absurd cc

-- ---- the lock of the plan

new_lock : (t : FileTree) (at : List (List ℕ)) (left : ℕ) (manifest : ProjectManifest) (loaded : Loaded) (lock : Lock) → HasPool t at left manifest loaded → IsLockOfPlan loaded.pool manifest.content_hash (Ok lock)
    → HasNewLock t at left (new_choice manifest.root lock)
new_lock t at left manifest loaded lock offered is = record {
  manifest = manifest;
  loaded = loaded;
  offered = offered;
  root = refl;
  plan = is.0;
  first = is.1;
  is_lock = is.2;
  written = refl;
  read_back = text_of lock is.3;
}

chosen_lock : (t : FileTree) (at : List (List ℕ)) (left : ℕ) (manifest : ProjectManifest) (made : Chosen × ℕ) → project_manifest_in t at ≡ Ok manifest → IsChosenByPlan t at manifest.root manifest.content_hash left (Ok made)
    → HasNewLock t at left made.0
unfolding IsChosenByPlan
chosen_lock t at left manifest made read is =
    let pool = both_taken (Is (or_not_loaded (pool_of_tree t at manifest.root left))) (IsChosenFrom manifest.root manifest.content_hash) made is in
    let chosen = both_taken (IsChosenOf manifest.root pool.0.pool manifest.content_hash) (IsWithLeft pool.0.left) made pool.2 in
    let lock = both_taken (IsLockOfPlan pool.0.pool manifest.content_hash) (IsNewChoice manifest.root) chosen.0 chosen.1 in
    let offered : HasPool t at left manifest pool.0 = record { read = read; pool = loaded_of (pool_of_tree t at manifest.root left) pool.0 pool.1 } in
    let new : chosen.0 ≡ new_choice manifest.root lock.0 = same_value chosen.0 (new_choice manifest.root lock.0) lock.2 in
    let same : made ≡ (chosen.0, pool.0.left) = same_value made (chosen.0, pool.0.left) chosen.2 in
    subst (HasNewLock t at left) (sym (ap (λ (it : Chosen × ℕ). it.0) same ∙ new)) (new_lock t at left manifest pool.0 lock.0 offered lock.1)

pub update_locks : (t : FileTree) (at : List (List ℕ)) (left : ℕ) (made : Chosen × ℕ) → IsChosenToUpdate t at left (Ok made) → HasNewLock t at left made.0
unfolding IsChosenToUpdate
update_locks t at left made is =
    let read = both_taken (Is (project_manifest_in t at)) (IsChosenAnew t at left) made is in
    chosen_lock t at left read.0 made (sym read.1) read.2

-- ---- no valid set

lock_stops : (pool : Pool) (hash : List ℕ) (root : Manifest) → IsLockOfPlan pool hash (Err refusals.NoPlan) ⊎ ((lock : Lock) × IsLockOfPlan pool hash (Ok lock) × IsNewChoice root lock (Err refusals.NoPlan)) → HasNoPlan pool
lock_stops pool hash root (inl none) = none.0
lock_stops pool hash root (inr new) = absurd (let e = new.2 in cc)

chosen_stops : (pool : Pool) (hash : List ℕ) (root : Manifest) (left : ℕ) → IsChosenOf root pool hash (Err refusals.NoPlan) ⊎ ((chosen : Chosen) × IsChosenOf root pool hash (Ok chosen) × IsWithLeft left chosen (Err refusals.NoPlan))
    → HasNoPlan pool
chosen_stops pool hash root left (inl none) = lock_stops pool hash root (one_stops (IsLockOfPlan pool hash) (IsNewChoice root) refusals.NoPlan none)
chosen_stops pool hash root left (inr chosen) = absurd (let e = chosen.2 in cc)

pool_stops : (t : FileTree) (at : List (List ℕ)) (left : ℕ) (manifest : ProjectManifest) → project_manifest_in t at ≡ Ok manifest
    → Is (or_not_loaded (pool_of_tree t at manifest.root left)) (Err refusals.NoPlan)
    ⊎ ((loaded : Loaded) × Is (or_not_loaded (pool_of_tree t at manifest.root left)) (Ok loaded) × IsChosenFrom manifest.root manifest.content_hash loaded (Err refusals.NoPlan))
    → HasNoValidSet t at left
pool_stops t at left manifest read (inl refused) = pool_plan (pool_of_tree t at manifest.root left) (sym refused)
pool_stops t at left manifest read (inr pool) = record {
  manifest = manifest;
  loaded = pool.0;
  offered = record { read = read; pool = loaded_of (pool_of_tree t at manifest.root left) pool.0 pool.1 };
  none = chosen_stops pool.0.pool manifest.content_hash manifest.root pool.0.left (one_stops (IsChosenOf manifest.root pool.0.pool manifest.content_hash) (IsWithLeft pool.0.left) refusals.NoPlan pool.2);
}

anew_stops : (t : FileTree) (at : List (List ℕ)) (left : ℕ) (manifest : ProjectManifest) → project_manifest_in t at ≡ Ok manifest → IsChosenByPlan t at manifest.root manifest.content_hash left (Err refusals.NoPlan) → HasNoValidSet t at left
unfolding IsChosenByPlan
anew_stops t at left manifest read is = pool_stops t at left manifest read (one_stops (Is (or_not_loaded (pool_of_tree t at manifest.root left))) (IsChosenFrom manifest.root manifest.content_hash) refusals.NoPlan is)

update_stops : (t : FileTree) (at : List (List ℕ)) (left : ℕ)
    → Is (project_manifest_in t at) (Err refusals.NoPlan) ⊎ ((manifest : ProjectManifest) × Is (project_manifest_in t at) (Ok manifest) × IsChosenAnew t at left manifest (Err refusals.NoPlan)) → HasNoValidSet t at left
update_stops t at left (inl refused) = manifest_plan t at (sym refused)
update_stops t at left (inr read) = anew_stops t at left read.0 (sym read.1) read.2

pub no_valid_set : (t : FileTree) (at : List (List ℕ)) (left : ℕ) → IsChosenToUpdate t at left (Err refusals.NoPlan) → HasNoValidSet t at left
unfolding IsChosenToUpdate
no_valid_set t at left is = update_stops t at left (one_stops (Is (project_manifest_in t at)) (IsChosenAnew t at left) refusals.NoPlan is)

-- ---- and there alone

not_both : {P : Type 0} (b : Bool) → b ≡ true → b ≡ false → P
not_both true is other = absurd (false≢true (sym other))
not_both false is other = absurd (false≢true is)

no_first_choice : {P : Type 0} (pool : Pool) (plan : List ℕ) → HasNoPlan pool → IsFirstChoice pool plan → P
no_first_choice pool plan none first = not_both _ first.valid (none (set_of (length pool.candidates) plan) (length_of (length pool.candidates) plan))

lock_refused : (pool : Pool) (hash : List ℕ) (root : Manifest) (refusal : Refusal) → HasNoPlan pool
    → IsLockOfPlan pool hash (Err refusal) ⊎ ((lock : Lock) × IsLockOfPlan pool hash (Ok lock) × IsNewChoice root lock (Err refusal)) → refusal ≡ refusals.NoPlan
lock_refused pool hash root refusal none (inl is) = is.1
lock_refused pool hash root refusal none (inr new) = no_first_choice pool new.1.0 none new.1.1

chosen_refused : (pool : Pool) (hash : List ℕ) (root : Manifest) (left : ℕ) (made : Result (Chosen × ℕ) Refusal) → HasNoPlan pool → (first : Result Chosen Refusal) → IsChosenOf root pool hash first
    → Follows (IsWithLeft left) first made → made ≡ Err refusals.NoPlan
chosen_refused pool hash root left made none (Ok chosen) is next =
    let lock = both_taken (IsLockOfPlan pool hash) (IsNewChoice root) chosen is in
    no_first_choice pool lock.1.0 none lock.1.1
chosen_refused pool hash root left made none (Err refusal) is next =
    next ∙ ap Err (lock_refused pool hash root refusal none (one_stops (IsLockOfPlan pool hash) (IsNewChoice root) refusal is))

anew_refused : (t : FileTree) (at : List (List ℕ)) (left : ℕ) (manifest : ProjectManifest) (loaded : Loaded) (made : Result (Chosen × ℕ) Refusal) → pool_of_tree t at manifest.root left ≡ Ok loaded → HasNoPlan loaded.pool
    → IsChosenByPlan t at manifest.root manifest.content_hash left made → made ≡ Err refusals.NoPlan
unfolding IsChosenByPlan
anew_refused t at left manifest loaded made read none is =
    let steps = after (or_not_loaded (pool_of_tree t at manifest.root left)) loaded (IsChosenFrom manifest.root manifest.content_hash) made (ap or_not_loaded read) is in
    chosen_refused loaded.pool manifest.content_hash manifest.root loaded.left made none steps.0 steps.1 steps.2

pub no_plan : (t : FileTree) (at : List (List ℕ)) (left : ℕ) (made : Result (Chosen × ℕ) Refusal) → HasNoValidSet t at left → IsChosenToUpdate t at left made → made ≡ Err refusals.NoPlan
unfolding IsChosenToUpdate
no_plan t at left made none is =
    anew_refused t at left none.manifest none.loaded made none.offered.pool none.none (after (project_manifest_in t at) none.manifest (IsChosenAnew t at left) made none.offered.read is)

-- ---- without a lock

followed : (t : FileTree) (at : List (List ℕ)) (left : ℕ) (made : Result (Chosen × ℕ) Refusal) → standing_lock_in t at ≡ Ok None → (first : Result ProjectManifest Refusal) → Follows (IsChosenFor t at left) first made
    → Follows (IsChosenAnew t at left) first made
followed t at left made none (Ok manifest) next = after (standing_lock_in t at) None (IsChosenWith t at left manifest) made none next
followed t at left made none (Err refusal) next = next

pub without_lock : (t : FileTree) (at : List (List ℕ)) (left : ℕ) (made : Result (Chosen × ℕ) Refusal) → standing_lock_in t at ≡ Ok None → IsChosenToInstall t at left made → IsChosenToUpdate t at left made
unfolding IsChosenToInstall IsChosenToUpdate
without_lock t at left made none steps = (steps.0, steps.1, followed t at left made none steps.0 steps.2)
