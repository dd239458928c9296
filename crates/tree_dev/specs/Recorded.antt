-- What the record of a tree in memory means: its disk now and at each earlier moment.
use Rattle.std.specs.Prelude.{◌≡◌, ℕ, ◌+◌, List, [], ◌∷◌, length, true}
use Rattle.tree_dev.specs.Trees.{IsTree}
use Rattle.tree_dev.specs.Changes.{has_place}
use Rattle.tree_dev.specs.Disk.{Disk, Disks, reading, settled, with_base, with_change}
use Rattle.tree_dev.specs.Memory.{crashed, new_disks, put_in}
use Rattle.tree_dev.specs.Stored.{entry_of}
use Rattle.tree_dev.specs.declared.log.Step.{Step}
use Rattle.tree_dev.specs.declared.log.Step.TheVariants as steps

abbrev pub after_step : Disks → Step → Disks
after_step disks (steps.Changed change) = with_change disks change
after_step disks steps.Settled = settled disks
after_step disks (steps.Put at entry) = with_base disks (put_in (reading disks.now) at (entry_of entry))
after_step disks (steps.Crashed applied torn) = with_base disks (crashed disks.now applied torn)

-- after these steps, the first one first
unfoldable pub recorded_from : Disks → List Step → Disks
recorded_from disks [] = disks
recorded_from disks (step ∷ more) = recorded_from (after_step disks step) more

abbrev pub recorded : List Step → Disks
recorded steps = recorded_from new_disks steps

-- A step can be taken again: a change has its place in the tree as it read.
abbrev pub CanRedo : Disk → Step → Type 0
CanRedo d (steps.Changed change) = IsTree (reading d) × (has_place (reading d) change ≡ true)
CanRedo d steps.Settled = Unit {0}
CanRedo d (steps.Put at entry) = Unit {0}
CanRedo d (steps.Crashed applied torn) = Unit {0}

-- the same of all these steps, the first one first
unfoldable pub CanRedoAll : Disks → List Step → Type 0
CanRedoAll disks [] = Unit {0}
CanRedoAll disks (step ∷ more) = CanRedo disks.now step × CanRedoAll (after_step disks step) more

-- The disk before the last step, and how many steps came up to the last one that left nothing pending then.
pub record WasBefore (disks : Disks) (safe : ℕ) : Type 0 where
  pub before : Disks
  pub past : disks.past ≡ before.now ∷ before.past
  pub counted : safe + length before.now.pending ≡ length before.past

-- So many steps came up to the last one that left nothing pending, and each step can be taken again.
pub record IsSound (safe : ℕ) (all : List Step) : Type 0 where
  pub counted : safe + length (recorded all).now.pending ≡ length all
  pub redo : CanRedoAll new_disks all
