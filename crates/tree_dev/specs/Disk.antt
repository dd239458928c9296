-- What a crash may leave. A disk is a tree that is safe, its base, and the changes that came since, which are
-- pending: a crash keeps some first ones of them, in order, and any bytes in the files that these wrote. A
-- barrier makes all of them safe, as fsync does for a whole file system.
use Rattle.std.specs.Prelude.{◌≡◌, ℕ, ◌≤◌, ◌⊎◌, List, [], ◌∷◌, ◌++◌, length, drop}
use Rattle.tree_dev.specs.Trees.{FileTree, IsTree}
use Rattle.tree_dev.specs.Changes.{changed, IsTorn}
use Rattle.tree_dev.specs.declared.change.Change.{Change}

-- The base, and the pending changes with the latest first.
pub record Disk : Type 0 where
  pub base : FileTree
  pub pending : List Change

-- what changes make of a tree, the latest first
unfoldable pub made : FileTree → List Change → FileTree
made base [] = base
made base (latest ∷ earlier) = changed (made base earlier) latest

-- the tree as it reads
abbrev pub reading : Disk → FileTree
reading d = made d.base d.pending

-- a crash may leave this of a tree and a change that was made
pub record Leaves (before : FileTree) (change : Change) (left : FileTree) : Type 0 where
  pub torn : Change
  pub is_torn : IsTorn change torn
  pub after : left ≡ changed before torn

-- the same of all these changes, the latest first: a rename takes torn bytes along
unfoldable pub IsLeftByAll : FileTree → List Change → FileTree → Type 0
IsLeftByAll base [] left = left ≡ base
IsLeftByAll base (latest ∷ earlier) left = (before : FileTree) × IsLeftByAll base earlier before × Leaves before latest left

-- A crash may leave this tree: so many of the latest changes are lost, and it is left by the others.
pub record IsImage (d : Disk) (left : FileTree) : Type 0 where
  pub lost : ℕ
  pub applied : IsLeftByAll d.base (drop lost d.pending) left

-- The disk now, and at each earlier moment, the latest first. A moment is a change or a barrier: calls that
-- only read change no disk.
pub record Disks : Type 0 where
  pub now : Disk
  pub past : List Disk

-- the number of the moment
abbrev pub moment : Disks → ℕ
moment disks = length disks.past

unfoldable pub WasImage : List Disk → ℕ → FileTree → Type 0
WasImage [] since left = ⊥
WasImage (latest ∷ earlier) since left = ((since ≤ length earlier) × IsImage latest left) ⊎ WasImage earlier since left

-- a crash at some moment from this one on may have left this tree
abbrev pub LeftSince : Disks → ℕ → FileTree → Type 0
LeftSince disks since left = WasImage (disks.now ∷ disks.past) since left

-- after one more change, which is pending
abbrev pub with_change : Disks → Change → Disks
with_change disks change = record { now = record { base = disks.now.base; pending = change ∷ disks.now.pending }; past = disks.now ∷ disks.past }

-- with this tree safe, and nothing pending
abbrev pub with_base : Disks → FileTree → Disks
with_base disks base = record { now = record { base = base; pending = [] }; past = disks.now ∷ disks.past }

-- after a barrier: the tree as it reads is safe
abbrev pub settled : Disks → Disks
settled disks = with_base disks (reading disks.now)

-- More moments came.
pub record IsLater (before now : Disks) : Type 0 where
  pub since : List Disk
  pub after : now.now ∷ now.past ≡ since ++ before.now ∷ before.past

-- The tree as it reads is that of the disk, and every first part of the pending changes makes a tree.
pub record IsOnDisk (d : Disk) (t : FileTree) : Type 0 where
  pub reads : t ≡ reading d
  pub trees : (lost : ℕ) → IsTree (made d.base (drop lost d.pending))
