use Rattle.std.proofs.Common.{◌≡◌, ◌+◌, ◌||◌, ◌&&◌, ℕ, List, length, is_none}
use Rattle.std.specs.FinMap as map
use Rattle.tree_dev.specs.Memory.{above}
use Rattle.tree_dev.specs.Moves.{is_among, paths_of}
use Rattle.tree_dev.specs.Placing.{AreFolders}
use Rattle.tree_dev.proofs.placing.missing_folders.Given as goal

abbrev pub invariant-loop-level : goal.invariant-loop-level
invariant-loop-level l = record {
  paths : (q : List (List ℕ)) → (is_among q (paths_of l.folders.items) || (is_among q (above l.folder) && is_none (map.get l.fn.files q))) ≡ (is_among q (above l.at) && is_none (map.get l.fn.files q));
  folders : AreFolders l.folders.items;
  len : length l.folder + l._level ≡ length l.at + 1;
}
