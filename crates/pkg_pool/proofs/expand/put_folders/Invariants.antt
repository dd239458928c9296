use Rattle.std.proofs.Common.{◌≡◌, ◌≤◌, false, drop}
use Rattle.tree_dev.specs.Device.{OnlyRead, OfTold}
use Rattle.pkg_pool.specs.Patterns.{folders_expanded}
use Rattle.pkg_pool.proofs.expand.put_folders.Given as goal

abbrev pub invariant-loop-folder : goal.invariant-loop-folder
invariant-loop-folder g l = record {
  only : OnlyRead (g.T.Tree.meaning l.fn.tree) (g.T.Tree.meaning l.tree) false;
  falls : l.left.left ≤ l.fn.left.left;
  told : OfTold (g.T.Tree.meaning l.fn.tree) (λ t. folders_expanded t l.origin (drop l.folder-index l.folders) (record { paths = l.found.items; left = l.left.left })
      ≡ folders_expanded t l.origin l.folders (record { paths = l.fn.found.items; left = l.fn.left.left }));
}
