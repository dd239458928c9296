use Rattle.std.proofs.Common.{◌≡◌, [], false}
use Rattle.std.specs.Prelude.{Some}
use Rattle.std.specs.BTreeSet.{btree_set_len}
use Rattle.std.specs.FinMap as map
use Rattle.tree_dev.specs.Device.{OfTold}
use Rattle.tree_dev.specs.declared.entry.Entry.TheVariants.{Folder}
use Rattle.install_world.specs.Emptied.{AreCovered, AreInSet}
use Rattle.install_world.specs.Removals.{Removes, WritesNone}
use Rattle.install_world.proofs.removal.remove_folders.Given as goal

abbrev pub invariant-folders : goal.invariant-folders
invariant-folders g l =
    let meaning = g.T.Tree.meaning in
    record {
      writes_none : WritesNone (meaning l.fn.tree) (meaning l.tree) false;
      removes : Removes l.fn.at (meaning l.fn.tree) (meaning l.tree);
      in_set : OfTold (meaning l.fn.tree) (λ t. AreCovered l.fn.at [] l.fn.folders.items t → map.get t l.fn.at ≡ Some Folder
          → OfTold (meaning l.tree) (λ u. AreInSet l.fn.at l.ordered u × (map.get u l.fn.at ≡ Some Folder)));
    }

abbrev pub decreases-folders : goal.decreases-folders
decreases-folders g l = btree_set_len l.ordered
