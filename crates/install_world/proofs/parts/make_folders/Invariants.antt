use Rattle.std.proofs.Common.{◌≡◌, ◌++◌, true, false, take}
use Rattle.tree_dev.specs.Trees.{entry_at, is_folder}
use Rattle.tree_dev.specs.Device.{OfTold}
use Rattle.tree_dev.specs.Disk.{reading}
use Rattle.install_world.specs.Finishing.{OnlyMade}
use Rattle.install_world.specs.Removals.{WritesNone}
use Rattle.install_world.proofs.parts.make_folders.Given as goal

-- the folders of the first names are made, and the path has come as far
abbrev pub invariant-loop-name : goal.invariant-loop-name
invariant-loop-name g l =
    let meaning = g.T.Tree.meaning in
    record {
      writes_none : WritesNone (meaning l.fn.tree) (meaning l.tree) false;
      makes : OnlyMade (l.fn.project ++ l.fn.path) (reading (meaning l.fn.tree).disks.now) (reading (meaning l.tree).disks.now);
      at : l.at ≡ l.fn.project ++ take l.name-index l.name-items;
      there : OfTold (meaning l.fn.tree) (λ t. is_folder (entry_at t l.fn.project) ≡ true → OfTold (meaning l.tree) (λ u. is_folder (entry_at u l.at) ≡ true));
    }
