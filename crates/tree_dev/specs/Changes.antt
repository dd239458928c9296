-- The changes that calls of a device make, as data: what each makes of a tree, where it has a place, and
-- what a crash may make of it. The rules are those of the POSIX calls open, write, mkdir, rename, unlink
-- and rmdir, but for these: a write makes or replaces a file whole, and a rename puts a file alone over a file.
use Rattle.std.specs.Prelude.{◌≡◌, ℕ, List, [], ◌∷◌, ◌++◌, Bool, true, false, ◌&&◌, ◌||◌, not, if◌then◌else◌, Option, Some, None, is_some, is_none, filter_map}
use Rattle.std.specs.Option.{option_map}
use Rattle.std.specs.List.{list_all, list_any}
use Rattle.std.specs.Ordering.{eq_by_cmp}
use Rattle.std.specs.FinMap as map
use Rattle.path_name.specs.Orders.{path_cmp}
use Rattle.path_name.specs.Paths.{without_last}
use Rattle.tree_dev.specs.Trees.{FileTree, entry_at, is_folder, has_folder, behind, names_in}
use Rattle.tree_dev.specs.declared.entry.Entry.{Entry}
use Rattle.tree_dev.specs.declared.entry.Entry.TheVariants as entries
use Rattle.tree_dev.specs.declared.change.Change.{Change}
use Rattle.tree_dev.specs.declared.change.Change.TheVariants as changes
use Rattle.tree_dev.specs.declared.did.Did.{Did}
use Rattle.tree_dev.specs.declared.did.Did.TheVariants as dids
use Rattle.tree_dev.specs.declared.did.Made.{Made}
use Rattle.tree_dev.specs.declared.did.Made.TheVariants as mades

-- the tree with a file at a path, in place of a file or of nothing
unfoldable pub written : FileTree → List (List ℕ) → List ℕ → FileTree
written t at bytes = map.insert t at (entries.File bytes)

-- the tree with an empty folder at a path
unfoldable pub with_folder : FileTree → List (List ℕ) → FileTree
with_folder t at = map.insert t at entries.Folder

-- the tree without the entry at a path
unfoldable pub removed : FileTree → List (List ℕ) → FileTree
removed t at = map.remove t at

-- Where a rename takes the entry at a path: from at or below its first path to the same place at or below its
-- second. What stood there before is gone (None), and every other entry stays.
abbrev pub place_after : List (List ℕ) → Option (List (List ℕ)) → Option (List (List ℕ)) → List (List ℕ) → Option (List (List ℕ))
place_after to (Some rest) replaced path = Some (to ++ rest)
place_after to None (Some rest) path = None
place_after to None None path = Some path

abbrev pub moved : List (List ℕ) → List (List ℕ) → List (List ℕ) × Entry → Option (List (List ℕ) × Entry)
moved from to entry = option_map (λ path. (path, entry.1)) (place_after to (behind from entry.0) (behind to entry.0) entry.0)

-- the tree with what stood at and below one path at and below another
unfoldable pub renamed : FileTree → List (List ℕ) → List (List ℕ) → FileTree
renamed t from to = map.from_entries (filter_map (moved from to) (map.entries t))

-- what a change makes of a tree
abbrev pub changed : FileTree → Change → FileTree
changed t (changes.Written at bytes) = written t at bytes
changed t (changes.FolderMade at) = with_folder t at
changed t (changes.Renamed from to) = renamed t from to
changed t (changes.FileRemoved at) = removed t at
changed t (changes.FolderRemoved at) = removed t at

-- what a rename leaves at a path, from where the path stands behind the second path and behind the first
abbrev pub entry_after_rename : FileTree → List (List ℕ) → Option (List (List ℕ)) → Option (List (List ℕ)) → List (List ℕ) → Option Entry
entry_after_rename t from (Some rest) left path = map.get t (from ++ rest)
entry_after_rename t from None (Some rest) path = None
entry_after_rename t from None None path = map.get t path

-- What stands at a path after a change, where the root has no entry: the law of each change.
abbrev pub entry_after : FileTree → Change → List (List ℕ) → Option Entry
entry_after t (changes.Written at bytes) path = if eq_by_cmp path_cmp path at then Some (entries.File bytes) else map.get t path
entry_after t (changes.FolderMade at) path = if eq_by_cmp path_cmp path at then Some entries.Folder else map.get t path
entry_after t (changes.Renamed from to) path = entry_after_rename t from (behind to path) (behind from path) path
entry_after t (changes.FileRemoved at) path = if eq_by_cmp path_cmp path at then None else map.get t path
entry_after t (changes.FolderRemoved at) path = if eq_by_cmp path_cmp path at then None else map.get t path

abbrev pub is_file : Option Entry → Bool
is_file (Some (entries.File bytes)) = true
is_file (Some entries.Folder) = false
is_file (Some entries.Other) = false
is_file None = false

-- a file, or another entry that is no folder
abbrev pub is_leaf : Option Entry → Bool
is_leaf present = is_some present && not (is_folder present)

abbrev pub is_root : List (List ℕ) → Bool
is_root [] = true
is_root (segment ∷ rest) = false

abbrev pub has_no_names : List (List ℕ) → Bool
has_no_names [] = true
has_no_names (name ∷ names) = false

-- the path is there to be made: nothing is there, and a folder is above it
abbrev pub is_free : FileTree → List (List ℕ) → Bool
is_free t at = has_folder t (without_last at) && is_none (entry_at t at)

-- the path is there to be written: a file may be there too
abbrev pub is_free_for_file : FileTree → List (List ℕ) → Bool
is_free_for_file t at = has_folder t (without_last at) && (is_none (entry_at t at) || is_file (entry_at t at))

-- Where a change has a place in a tree. A rename has one where something is at its first path, the second is
-- not at or below the first, and is free, or both are files.
unfoldable pub has_place : FileTree → Change → Bool
has_place t (changes.Written at bytes) = is_free_for_file t at
has_place t (changes.FolderMade at) = is_free t at
has_place t (changes.Renamed from to) =
    is_some (entry_at t from) && is_none (behind from to) && (if is_file (entry_at t from) then is_free_for_file t to else is_free t to)
has_place t (changes.FileRemoved at) = is_leaf (entry_at t at)
has_place t (changes.FolderRemoved at) = is_folder (entry_at t at) && not (is_root at) && has_no_names (names_in t at)

-- the path at which a change leaves something or nothing
abbrev pub target : Change → List (List ℕ)
target (changes.Written at bytes) = at
target (changes.FolderMade at) = at
target (changes.Renamed from to) = to
target (changes.FileRemoved at) = at
target (changes.FolderRemoved at) = at

-- what a call that makes a change answers
unfoldable pub did : FileTree → Change → Did
did t change = if has_place t change then dids.Done else dids.Misplaced

-- what the call that makes a folder answers
unfoldable pub made_folder : FileTree → List (List ℕ) → Made
made_folder t at = if is_some (entry_at t at) then mades.Exists else if has_place t (changes.FolderMade at) then mades.New else mades.Misplaced

-- What a crash, or a call that fails half way, may make of a change: a file that was written holds any bytes,
-- and every other change is whole.
abbrev pub IsTorn : Change → Change → Type 0
IsTorn (changes.Written at bytes) torn = (any : List ℕ) × (torn ≡ changes.Written at any)
IsTorn (changes.FolderMade at) torn = torn ≡ changes.FolderMade at
IsTorn (changes.Renamed from to) torn = torn ≡ changes.Renamed from to
IsTorn (changes.FileRemoved at) torn = torn ≡ changes.FileRemoved at
IsTorn (changes.FolderRemoved at) torn = torn ≡ changes.FolderRemoved at

-- the paths that a change names
abbrev pub named_paths : Change → List (List (List ℕ))
named_paths (changes.Written at bytes) = at ∷ []
named_paths (changes.FolderMade at) = at ∷ []
named_paths (changes.Renamed from to) = from ∷ to ∷ []
named_paths (changes.FileRemoved at) = at ∷ []
named_paths (changes.FolderRemoved at) = at ∷ []

-- at or below a path that a change names
unfoldable pub is_touched : Change → List (List ℕ) → Bool
is_touched change path = list_any (λ named. is_some (behind named path)) (named_paths change)

-- neither names a path at or below one of the other
unfoldable pub AreApart : Change → Change → Type 0
AreApart first second =
    list_all (λ p. list_all (λ q. is_none (behind p q) && is_none (behind q p)) (named_paths second)) (named_paths first) ≡ true
