-- What the copy of a package holds (Composer's documentation, "Repositories", "path", with `symlink` false): all files and
-- folders below the package's folder but the top entries `vendor`, `.git` and `.install`.
use Rattle.std.specs.Prelude.{ℕ, List, [], ◌∷◌, ◌++◌, codes, Bool, true, ◌||◌, not, if◌then◌else◌, Option, None}
use Rattle.std.specs.FinMap as map
use Rattle.path_name.specs.Orders.{bytes_are_equal}
use Rattle.tree_dev.specs.Trees.{FileTree}
use Rattle.tree_dev.specs.declared.entry.Entry.{Entry}

-- names of top entries that are no part of a package
unfoldable pub is_left_out : List ℕ → Bool
is_left_out name = bytes_are_equal name (codes "vendor") || bytes_are_equal name (codes ".git") || bytes_are_equal name (codes ".install")

-- A path behind the package's folder lies at or below none of them.
abbrev pub is_mirrored : List (List ℕ) → Bool
is_mirrored [] = true
is_mirrored (top ∷ rest) = not (is_left_out top)

-- what the copy of the package whose folder is `source` has at a place below it
abbrev pub mirrored : FileTree → List (List ℕ) → List (List ℕ) → Option Entry
mirrored t source below = if is_mirrored below then map.get t (source ++ below) else None
