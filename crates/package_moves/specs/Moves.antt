-- The job of an install: of what is wanted what does not stand already, and what is to go.
use Rattle.std.specs.Prelude.{◌≡◌, ◌⊎◌, ℕ, ◌+◌, List, [], ◌∷◌, ◌++◌, Bool, true, false, Result, is_some, Some}
use Rattle.path_name.specs.Given.{◌>>=◌}
use Rattle.tree_dev.specs.Trees.{FileTree, entry_at}
use Rattle.tree_dev.specs.Changes.{is_leaf}
use Rattle.path_name.specs.Paths.{without_last}
use Rattle.tree_dev.specs.Projects.{is_within, vendor_path}
use Rattle.stage_job.specs.Checked.{job_checked}
use Rattle.stage_job.specs.Jobs.{AreApart}
use Rattle.stage_job.specs.declared.fault.StageFault.{StageFault}
use Rattle.stage_job.specs.declared.job.Part.{Part}
use Rattle.package_moves.specs.Counted.{counted_off, targets_count}
use Rattle.package_moves.specs.Found.{AreStanding}
use Rattle.package_moves.specs.Joined.{left_outside, left_parts, vendor_part}
use Rattle.package_moves.specs.Needed.{gone_parts, is_blocked_of, names_of, needs_of, vendor_count}
use Rattle.package_moves.specs.Wanted.{vendor_name}

-- First all sources are walked as in staging. Then count the names of targets that stand beside folders of sources, those of
-- `vendor`, and those of each folder in it that targets stand in.
unfoldable pub moves_checked : List (List ℕ) → FileTree → List Part → ℕ → Result ℕ StageFault
moves_checked project t wanted left =
    job_checked project t wanted left >>= λ rest. counted_off (targets_count project t wanted + vendor_count (needs_of wanted) project t) rest

-- something is in the way of the folder at a path in `vendor` that targets are to stand in
abbrev pub is_in_way : List (List ℕ) → FileTree → List Part → List (List ℕ) → Bool
is_in_way project t wanted path = is_blocked_of (needs_of wanted) project t vendor_name (names_of t (vendor_path project)) path

-- `vendor` is there and is no folder: one part makes all of it, and the parts elsewhere follow.
pub record MakesVendor (project : List (List ℕ)) (t : FileTree) (wanted parts : List Part) : Type 0 where
  pub no_folder : is_leaf (entry_at t (vendor_path project)) ≡ true
  pub flags : List Bool
  pub are_standing : AreStanding project t wanted flags
  pub parts_are : parts ≡ vendor_part wanted ∷ left_outside wanted flags

-- The parts that do not stand, and then those that take away what no target needs.
pub record MakesParts (project : List (List ℕ)) (t : FileTree) (wanted parts : List Part) : Type 0 where
  pub folder : is_leaf (entry_at t (vendor_path project)) ≡ false
  pub flags : List Bool
  pub are_standing : AreStanding project t wanted flags
  pub parts_are : parts ≡ left_parts (is_in_way project t wanted) wanted flags ++ gone_parts project t wanted

-- these parts are the job for what is wanted
abbrev pub IsJobFor : List (List ℕ) → FileTree → List Part → List Part → Type 0
IsJobFor project t wanted parts = MakesVendor project t wanted parts ⊎ MakesParts project t wanted parts

-- ---- what is asked of jobs

-- a part is one of these
abbrev pub IsAmong : List Part → Part → Type 0
IsAmong [] part = ⊥
IsAmong (first ∷ parts) part = (first ≡ part) ⊎ IsAmong parts part

-- Nothing that is no folder stands at `vendor` or at a folder in it that targets are to stand in.
pub record HasFolders (project : List (List ℕ)) (t : FileTree) (wanted : List Part) : Type 0 where
  pub vendor : is_leaf (entry_at t (vendor_path project)) ≡ false
  pub names : (path : List (List ℕ)) → is_in_way project t wanted path ≡ false

-- An entry of `vendor` that is to go: no target is at, above or below it, and the folder that it stands in is `vendor`, or one
-- in it in which targets stand.
pub record IsTopmost (project : List (List ℕ)) (t : FileTree) (wanted : List Part) (path : List (List ℕ)) : Type 0 where
  pub there : is_some (entry_at t (project ++ path)) ≡ true
  pub apart : (part : Part) → IsAmong wanted part → AreApart path part.target
  pub folder : List (List ℕ)
  pub above : without_last path ≡ Some folder
  pub needed : (folder ≡ vendor_name) ⊎ ((is_within vendor_name folder ≡ true) × ((needs_of wanted).is_above folder ≡ true))
