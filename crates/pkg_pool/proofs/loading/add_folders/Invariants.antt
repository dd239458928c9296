use Rattle.std.proofs.Common.{◌≡◌, false, drop}
use Rattle.tree_dev.specs.Device.{OnlyRead, OfTold}
use Rattle.pkg_pool.specs.Pools.{IsSound, gathering_of, with_folders}
use Rattle.pkg_pool.proofs.loading.add_folders.Given as goal

abbrev pub invariant-loop-folder : goal.invariant-loop-folder
invariant-loop-folder g l = record {
  only : OnlyRead (g.T.Tree.meaning l.fn.tree) (g.T.Tree.meaning l.tree) false;
  sound : IsSound l.gathered;
  told : OfTold (g.T.Tree.meaning l.fn.tree) (λ t. with_folders t l.origin (drop l.folder-index l.folders) (gathering_of l.gathered) ≡ with_folders t l.origin l.folders (gathering_of l.fn.gathered));
}
