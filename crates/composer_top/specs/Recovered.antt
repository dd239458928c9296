-- What is left where a run crashed and recovery was done.
use Rattle.std.specs.Prelude.{◌≡◌, ◌⊎◌, ℕ, List, true, None, Some}
use Rattle.std.specs.FinMap as map
use Rattle.tree_dev.specs.Trees.{FileTree, IsTree}
use Rattle.tree_dev.specs.Device.{Meaning}
use Rattle.tree_dev.specs.Disk.{LeftSince, moment, reading}
use Rattle.tree_dev.specs.Projects.{journal_path, work_path}
use Rattle.tree_dev.specs.Steady.{EachImage}
use Rattle.install_world.specs.InFlight.{Files, HasFiles, HasSurroundings, IsThere}
use Rattle.install_commands.specs.Recovering.{Recovers}

-- A run from one meaning of a device to another was cut off, so that a crash at some moment left a tree; a device that has this tree
-- alone, whatever a crash leaves, was then recovered, which was done, and tells the tree u.
pub record IsRecoveredFrom (project : List (List ℕ)) (before now begun ended : Meaning) (left u : FileTree) : Type 0 where
  pub crash : LeftSince now.disks (moment before.disks) left
  pub told : begun.told ≡ Some left
  pub alone : EachImage begun (λ image. image ≡ left)
  pub recovers : Recovers project begun ended true
  pub tells : ended.told ≡ Some u
  pub reads : u ≡ reading ended.disks.now
  pub tree : IsTree u

-- The project is the old one or the new one, whole, and the new one wherever a journal stood; all around it is as at the start, and
-- nothing is at `.install`.
pub record IsOldOrNew (project : List (List ℕ)) (start left u : FileTree) (old new : Files) : Type 0 where
  pub either : HasFiles project u old ⊎ HasFiles project u new
  pub finished : IsThere left (journal_path project) → HasFiles project u new
  pub outside : HasSurroundings project start u
  pub gone : map.get u (work_path project) ≡ None
