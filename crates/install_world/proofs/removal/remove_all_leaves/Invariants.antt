use Rattle.std.proofs.Common.{◌≡◌, ℕ, List, [], false, ◌-◌, ◌^◌, length}
use Rattle.std.specs.Prelude.{Some}
use Rattle.std.specs.FinMap as map
use Rattle.tree_dev.specs.Device.{OfTold}
use Rattle.tree_dev.specs.declared.entry.Entry.TheVariants.{Folder}
use Rattle.install_world.specs.Emptied.{AreCovered}
use Rattle.install_world.specs.Removals.{Removes, WritesNone}
use Rattle.install_world.proofs.removal.remove_all_leaves.Given as goal

abbrev pub invariant-folders : goal.invariant-folders
invariant-folders g l =
    let meaning = g.T.Tree.meaning in
    record {
      writes_none : WritesNone (meaning l.fn.tree) (meaning l.tree) false;
      removes : Removes l.fn.at (meaning l.fn.tree) (meaning l.tree);
      folders : OfTold (meaning l.fn.tree) (λ t. OfTold (meaning l.tree) (λ u. (path : List (List ℕ)) → map.get t path ≡ Some Folder → map.get u path ≡ Some Folder));
      covered : OfTold (meaning l.fn.tree) (λ t. AreCovered l.fn.at l.fn.ahead.items [] t → OfTold (meaning l.tree) (AreCovered l.fn.at l.ahead.items l.emptied.items));
    }

abbrev pub decreases-folders : goal.decreases-folders
decreases-folders g l = 2 ^ 63 - length l.emptied.items
