-- What stands at a path after a change.
use Rattle.std.proofs.Common.{◌≡◌, List, ℕ}
use Rattle.std.specs.FinMap.{get, get-insert, get-remove}
use Rattle.path_name.specs.Orders.{path_cmp_total}
use Rattle.tree_dev.specs.Trees.{FileTree}
use Rattle.tree_dev.specs.Changes.{changed, entry_after, written, with_folder, removed}
use Rattle.tree_dev.specs.declared.change.Change.{Change}
use Rattle.tree_dev.specs.declared.change.Change.TheVariants as changes
use Rattle.tree_dev.specs.declared.entry.Entry.TheVariants as entries
use Rattle.tree_dev.proofs.Renames.{get-renamed}

pub get-changed : (t : FileTree) (change : Change) (q : List (List ℕ)) → get (changed t change) q ≡ entry_after t change q
unfolding written with_folder removed
get-changed t (changes.Written at bytes) q = get-insert path_cmp_total t at (entries.File bytes) q
get-changed t (changes.FolderMade at) q = get-insert path_cmp_total t at entries.Folder q
get-changed t (changes.Renamed from to) q = get-renamed from to t q
get-changed t (changes.FileRemoved at) q = get-remove path_cmp_total t at q
get-changed t (changes.FolderRemoved at) q = get-remove path_cmp_total t at q
