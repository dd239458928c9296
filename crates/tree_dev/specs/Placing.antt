-- Folders that are made above an entry.
use Rattle.std.specs.Prelude.{◌≡◌, List, [], ◌∷◌}
use Rattle.tree_dev.specs.declared.moves.Placed.{Placed}
use Rattle.tree_dev.specs.declared.stored.Stored.TheVariants as kept

-- each of these entries is a folder
abbrev pub AreFolders : List Placed → Type 0
AreFolders [] = Unit {0}
AreFolders (placed ∷ more) = (placed.entry ≡ kept.Folder) × AreFolders more
