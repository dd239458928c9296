-- The lock that stands, from which `install` takes its packages.
use Rattle.std.proofs.Common.{◌≡◌, ℕ, true, List, Option, Some, None, Ok, refl, sym, ap, subst}
use Rattle.std.specs.Prelude.{is_none}
use Rattle.std.specs.Option.{option_map_or}
use Rattle.tree_dev.specs.Trees.{FileTree}
use Rattle.lock_file.specs.declared.types.Lock.{Lock}
use Rattle.pkg_pool.specs.declared.pool.Pool.{Pool}
use Rattle.plan_rules.specs.Validity.{first_broken, is_valid}
use Rattle.plan_rules.specs.declared.rule.Rule.{Rule}
use Rattle.plan_rules.specs.declared.rule.Verdict.TheVariants as verdicts
use Rattle.project_files.specs.ProjectLock.{pool_in}
use Rattle.project_files.specs.ProjectManifest.{project_manifest_in}
use Rattle.project_files.specs.declared.manifests.ProjectManifest.{ProjectManifest}
use Rattle.install_sources.specs.Verdicts.{all_met, met_or_broken, whole}
use Rattle.install_choice.specs.Choosing.{IsChosenFor, IsChosenToInstall, IsChosenWith, chosen_by_lock, chosen_in_pool, standing_choice, standing_lock_in}
use Rattle.install_choice.specs.LockLaws.{HasMetLock}
use Rattle.install_choice.specs.Sequences.{Is}
use Rattle.install_choice.specs.declared.chosen.Chosen.{Chosen}
use Rattle.install_choice.proofs.PoolRoots.{pool_root}
use Rattle.install_choice.proofs.Steps.{after, both_ok, both_taken, same_value}

-- ---- a set that breaks no rule

none_broken : (broken : Option Rule) → met_or_broken (option_map_or verdicts.Breaks broken verdicts.Meets) ≡ Ok tt → is_none broken ≡ true
none_broken None e = refl
none_broken (Some rule) e = absurd cc

all_valid : (pool : Pool) → all_met pool ≡ Ok tt → is_valid pool (whole pool) ≡ true
unfolding all_met
all_valid pool e = none_broken (first_broken pool (whole pool)) e

-- ---- the lock

standing_met : (t : FileTree) (at : List (List ℕ)) (manifest : ProjectManifest) (lock : Lock) (pool : Pool) → project_manifest_in t at ≡ Ok manifest → pool_in manifest.root lock at ≡ Ok pool → all_met pool ≡ Ok tt
    → HasMetLock t at lock (standing_choice lock pool)
standing_met t at manifest lock pool read offered met = record {
  manifest = manifest;
  read = read;
  root = pool_root manifest.root lock at pool offered;
  same = refl;
  unwritten = refl;
  met = record { pool = pool; offered = offered; valid = all_valid pool met };
}

chosen_met : (t : FileTree) (at : List (List ℕ)) (manifest : ProjectManifest) (lock : Lock) (chosen : Chosen) → project_manifest_in t at ≡ Ok manifest → chosen_by_lock at manifest.root lock ≡ Ok chosen → HasMetLock t at lock chosen
unfolding chosen_by_lock chosen_in_pool
chosen_met t at manifest lock chosen read is =
    let pool = both_ok (pool_in manifest.root lock at) (chosen_in_pool lock) chosen is in
    let met = both_ok (all_met pool.0) _ chosen pool.2 in
    subst (HasMetLock t at lock) (same_value (standing_choice lock pool.0) chosen met.2) (standing_met t at manifest lock pool.0 read pool.1 met.1)

pub lock_met : (t : FileTree) (at : List (List ℕ)) (left : ℕ) (lock : Lock) (made : Chosen × ℕ) → standing_lock_in t at ≡ Ok (Some lock) → IsChosenToInstall t at left (Ok made) → HasMetLock t at lock made.0
unfolding IsChosenToInstall
lock_met t at left lock made stands is =
    let read = both_taken (Is (project_manifest_in t at)) (IsChosenFor t at left) made is in
    let with_lock = after (standing_lock_in t at) (Some lock) (IsChosenWith t at left read.0) (Ok made) stands read.2 in
    let chosen = both_ok (chosen_by_lock at read.0.root lock) _ made (sym with_lock) in
    subst (HasMetLock t at lock) (ap (λ (it : Chosen × ℕ). it.0) (same_value (chosen.0, left) made chosen.2)) (chosen_met t at read.0 lock chosen.0 (sym read.1) chosen.1)
