-- Entries as a tree in memory keeps them.
use Rattle.std.specs.Prelude.{ℕ, List, [], ◌∷◌}
use Rattle.std.specs.FinMap as map
use Rattle.tree_dev.specs.Trees.{FileTree}
use Rattle.tree_dev.specs.declared.entry.Entry.{Entry}
use Rattle.tree_dev.specs.declared.entry.Entry.TheVariants as entries
use Rattle.tree_dev.specs.declared.stored.Stored.{Stored}
use Rattle.tree_dev.specs.declared.stored.Stored.TheVariants as kept

abbrev pub entry_of : Stored → Entry
entry_of (kept.File bytes) = entries.File bytes
entry_of kept.Folder = entries.Folder
entry_of kept.Other = entries.Other

-- the tree of these entries; where a path stands twice, its first one counts
abbrev pub tree_of : List (List (List ℕ) × Stored) → FileTree
tree_of [] = map.empty
tree_of (e ∷ es) = map.insert (tree_of es) e.0 (entry_of e.1)
