use Rattle.std.proofs.Common.{◌≡◌, ◌++◌, take}
use Rattle.class_lookup.specs.Groups.{in_folders}
use Rattle.class_lookup.proofs.tried.put_below.Given as goal

abbrev pub invariant-loop-folder : goal.invariant-loop-folder
invariant-loop-folder l = l.paths.items ≡ l.fn.paths.items ++ in_folders (take l.folder-index l.folders) l.below
