-- A disk in memory that is made anew from the record of its steps.
use Rattle.std.specs.Prelude.{◌≡◌, List, [], ◌∷◌, true}
use Rattle.tree_dev.specs.Trees.{FileTree, IsTree}
use Rattle.tree_dev.specs.Changes.{has_place}
use Rattle.tree_dev.specs.Disk.{Disk, made, reading}
use Rattle.tree_dev.specs.Memory.{crashed, put_in}
use Rattle.tree_dev.specs.Stored.{entry_of}
use Rattle.tree_dev.specs.declared.change.Change.{Change}
use Rattle.tree_dev.specs.declared.log.Step.{Step}
use Rattle.tree_dev.specs.declared.log.Step.TheVariants as steps

-- each of these changes, the latest first, has its place in what the earlier ones make of a tree
unfoldable pub CanMakeAll : FileTree → List Change → Type 0
CanMakeAll base [] = Unit {0}
CanMakeAll base (latest ∷ earlier) = IsTree (made base earlier) × (has_place (made base earlier) latest ≡ true) × CanMakeAll base earlier

-- with one more change pending
abbrev pub one_more : Disk → Change → Disk
one_more d change = record { base = d.base; pending = change ∷ d.pending }

-- with this tree safe and nothing pending
abbrev pub safe_at : FileTree → Disk
safe_at base = record { base = base; pending = [] }

-- the disk after a step
abbrev pub disk_after : Disk → Step → Disk
disk_after d (steps.Changed change) = one_more d change
disk_after d steps.Settled = safe_at (reading d)
disk_after d (steps.Put at entry) = safe_at (put_in (reading d) at (entry_of entry))
disk_after d (steps.Crashed applied torn) = safe_at (crashed d applied torn)
