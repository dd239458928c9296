-- The folders that the parts of a job need to be moved, and what stops them.
use Rattle.std.specs.Prelude.{◌≡◌, ◌⊎◌, ℕ, ◌<◌, List, true, false, Some}
use Rattle.std.specs.FinMap as map
use Rattle.path_name.specs.Paths.{without_last}
use Rattle.tree_dev.specs.Trees.{FileTree, entry_at, kind_at}
use Rattle.tree_dev.specs.Changes.{is_leaf}
use Rattle.tree_dev.specs.Projects.{is_within}
use Rattle.install_world.specs.InFlight.{IsPart, IsThere, old_path, staged_path, target_path}
use Rattle.install_world.specs.Moving.{is_kept}
use Rattle.install_world.specs.declared.target.Target.{Target}

-- The second path is at or above the folder that the first one stands in.
pub record IsAbove (path at : List (List ℕ)) : Type 0 where
  pub parent : List (List ℕ)
  pub parent_is : without_last path ≡ Some parent
  pub within : is_within at parent ≡ true

-- A part needs a folder at a path: at `.install/old`, where it takes what stands at its target there; and above its target, where
-- something staged is to be put there.
abbrev pub IsNeeded : List (List ℕ) → ℕ → Target → FileTree → List (List ℕ) → Type 0
IsNeeded project number target t at =
    ((at ≡ old_path project) × (is_kept target.gone (kind_at t (target_path project target)) (kind_at t (staged_path project number)) ≡ true))
    ⊎ ((target.gone ≡ false) × IsThere t (staged_path project number) × IsAbove (target_path project target) at)

-- Another entry is there.
pub record IsBlocked (project : List (List ℕ)) (number : ℕ) (target : Target) (t : FileTree) (at : List (List ℕ)) : Type 0 where
  pub needed : IsNeeded project number target t at
  pub leaf : is_leaf (entry_at t at) ≡ true

-- It stops the first of the parts of a job that is stopped.
pub record IsFirstBlocked (project : List (List ℕ)) (targets : List Target) (t : FileTree) (at : List (List ℕ)) : Type 0 where
  pub number : ℕ
  pub target : Target
  pub part : IsPart targets number target
  pub blocked : IsBlocked project number target t at
  pub before : (j : ℕ) (other : Target) → j < number → IsPart targets j other → (path : List (List ℕ)) → IsBlocked project j other t path → ⊥

-- What a part needs, and whether another entry is there, is the same in two trees.
pub record NeedsAlike (project : List (List ℕ)) (number : ℕ) (target : Target) (t u : FileTree) : Type 0 where
  pub target_same : map.get u (target_path project target) ≡ map.get t (target_path project target)
  pub staged_same : map.get u (staged_path project number) ≡ map.get t (staged_path project number)
  pub old : is_leaf (entry_at u (old_path project)) ≡ is_leaf (entry_at t (old_path project))
  pub above : (at : List (List ℕ)) → IsAbove (target_path project target) at → is_leaf (entry_at u at) ≡ is_leaf (entry_at t at)
