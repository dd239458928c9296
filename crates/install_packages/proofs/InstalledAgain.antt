-- What `install` takes right after a command that answered its lines: the lock that stands then.
use Rattle.std.proofs.Common.{◌≡◌, ℕ, Bool, true, cond, List, [], codes, Option, Some, None, Result, Ok, refl, sym, ap, ◌∙◌, subst}
use Rattle.std.specs.Prelude.{is_none}
use Rattle.std.specs.Option.{option_map_or}
use Rattle.std.proofs.lemmas.Bool.{false≢true}
use Rattle.path_name.specs.Given.{◌>>=◌}
use Rattle.path_name.specs.Orders.{bytes_are_equal}
use Rattle.tree_dev.specs.Projects.{lock_path}
use Rattle.tree_dev.specs.Trees.{FileTree, IsTree, kind_at, kind_of}
use Rattle.tree_dev.specs.declared.entry.Kind.TheVariants as kinds
use Rattle.tree_dev.specs.declared.limits.TheConstants.{ENTRIES}
use Rattle.tree_dev.proofs.Behind.{bytes_same}
use Rattle.package_moves.proofs.SameEntries.{entry_below}
use Rattle.composer_words.specs.declared.chosen.Ways.{Ways}
use Rattle.lock_file.specs.declared.types.Lock.{Lock}
use Rattle.manifest_read.specs.declared.types.Manifest.{Manifest}
use Rattle.pkg_pool.specs.declared.pool.Pool.{Pool}
use Rattle.plan_rules.specs.Validity.{first_broken, is_valid}
use Rattle.plan_rules.specs.declared.rule.Rule.{Rule}
use Rattle.plan_rules.specs.declared.rule.Verdict.TheVariants as verdicts
use Rattle.run_answers.specs.declared.refusal.Refusal.{Refusal}
use Rattle.project_files.specs.Places.{manifest_place}
use Rattle.project_files.specs.ProjectLock.{project_lock_in}
use Rattle.project_files.specs.ProjectManifest.{project_manifest_in}
use Rattle.install_sources.specs.Verdicts.{all_met, met_or_broken, whole}
use Rattle.install_choice.specs.Choosing.{IsChosenFor, IsChosenToInstall, IsChosenToUpdate, IsChosenWith, chosen_by_lock, chosen_in_pool, standing_choice, standing_lock_in}
use Rattle.install_choice.specs.LockLaws.{IsMet}
use Rattle.install_choice.specs.Warnings.{stale_text, warning_after, warning_if, warning_in}
use Rattle.install_choice.specs.declared.chosen.Chosen.{Chosen}
use Rattle.install_choice.proofs.PoolRoots.{pool_root}
use Rattle.install_choice.proofs.Steps.{after}
use Rattle.install_choice.proofs.Updates.{update_locks}
use Rattle.install_commands.specs.Claiming.{with_claim}
use Rattle.install_packages.specs.Installations.{HasNewProject, kept_choice}
use Rattle.install_packages.proofs.InstalledLocks.{lock_file_there, lock_is_met, lock_is_read, manifest_is_read, manifest_kept, same_lock, same_manifest}
use Rattle.install_packages.proofs.ShownPackages.{top_within}
use Rattle.install_packages.proofs.ShownTrees.{claimed_entry}

-- ---- a lock that is met

broken_none : (broken : Option Rule) → is_none broken ≡ true → met_or_broken (option_map_or verdicts.Breaks broken verdicts.Meets) ≡ Ok tt
broken_none None e = refl
broken_none (Some rule) e = absurd (false≢true e)

valid_met : (pool : Pool) → is_valid pool (whole pool) ≡ true → all_met pool ≡ Ok tt
unfolding all_met
valid_met pool valid = broken_none (first_broken pool (whole pool)) valid

lock_taken : (at : List (List ℕ)) (root : Manifest) (lock : Lock) (is : IsMet at root lock) → chosen_by_lock at root lock ≡ Ok (standing_choice lock is.pool)
unfolding chosen_by_lock chosen_in_pool
lock_taken at root lock is = rw (is.offered, valid_met is.pool is.valid) refl

lock_stands : (t : FileTree) (at : List (List ℕ)) (lock : Lock) → kind_at t (lock_path at) ≡ kinds.File → project_lock_in t at ≡ Ok lock → standing_lock_in t at ≡ Ok (Some lock)
unfolding standing_lock_in
lock_stands t at lock kind read = rw (kind, read) refl

is_file_there : (t : FileTree) (at : List (List ℕ)) (lock : Lock) → project_lock_in t at ≡ Ok lock → kind_at t (lock_path at) ≡ kinds.File
unfolding kind_at
is_file_there t at lock read = ap kind_of (lock_file_there t at lock read).1

-- ---- the tree with another claim

module _ (at : List (List ℕ)) (ways : Ways) (start u : FileTree) (new : HasNewProject at ways start u) where
  abbrev again : FileTree
  again = with_claim at u

  abbrev chosen : Chosen
  chosen = new.choice.0

  lock_again : IsTree (with_claim at start) → project_lock_in again at ≡ Ok chosen.lock
  lock_again claimed =
      let name = codes "composer.lock" in
      same_lock u again at (entry_below again at name [] ∙ claimed_entry at u (lock_path at) (top_within at (codes ".install") name []) ∙ sym (entry_below u at name [])) ∙ lock_is_read at ways start u new claimed

  manifest_again : project_manifest_in again at ≡ project_manifest_in u at
  manifest_again =
      let name = codes "composer.json" in
      same_manifest u again at (entry_below again at name [] ∙ claimed_entry at u (manifest_place at) (top_within at (codes ".install") name []) ∙ sym (entry_below u at name []))

  standing_again : IsTree (with_claim at start) → standing_lock_in again at ≡ Ok (Some chosen.lock)
  standing_again claimed = let read = lock_again claimed in lock_stands again at chosen.lock (is_file_there again at chosen.lock read) read

  pub same_taken : (more : ℕ) (made : Result (Chosen × ℕ) Refusal) → IsTree (with_claim at start) → IsChosenToInstall again at more made → made ≡ Ok (kept_choice chosen, more)
  unfolding IsChosenToInstall
  same_taken more made claimed is =
      let manifest = manifest_is_read at ways start u new in
      let with_manifest = after (project_manifest_in again at) manifest.0 (IsChosenFor again at more) made (manifest_again ∙ manifest.1) is in
      let with_lock = after (standing_lock_in again at) (Some chosen.lock) (IsChosenWith again at more manifest.0) made (standing_again claimed) with_manifest in
      let met = subst (λ (root : Manifest). IsMet at root chosen.lock) manifest.2 (lock_is_met at ways start u new) in
      let root : met.pool.root ≡ chosen.root = pool_root manifest.0.root chosen.lock at met.pool met.offered ∙ sym manifest.2 in
      let of_root = λ (it : Manifest). let one : Chosen = record { root = it; lock = chosen.lock; text = None } in let all : Result (Chosen × ℕ) Refusal = Ok (one, more) in all in
      with_lock ∙ ap (λ (r : Result Chosen Refusal). r >>= λ (it : Chosen). Ok (it, more)) (lock_taken at manifest.0.root chosen.lock met) ∙ ap of_root root

  -- the lock of an update has the hash of composer.json
  pub none_warned : IsTree (with_claim at start) → IsChosenToUpdate (with_claim at start) at ENTRIES (Ok new.choice) → warning_in again at ≡ []
  unfolding warning_in
  none_warned claimed update =
      let is = update_locks (with_claim at start) at ENTRIES new.choice update in
      let hash = ap (bytes_are_equal is.manifest.content_hash) is.is_lock.content_hash ∙ bytes_same is.manifest.content_hash in
      ap (warning_after again at) (manifest_again ∙ manifest_kept at ways start u new ∙ is.offered.read) ∙ ap (warning_if is.manifest) (standing_again claimed) ∙ ap (λ (same : Bool). cond same [] stale_text) hash
