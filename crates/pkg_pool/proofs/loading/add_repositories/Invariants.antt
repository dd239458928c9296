use Rattle.std.proofs.Common.{◌≡◌, ◌≤◌, false, drop}
use Rattle.std.specs.List.{enumerate_from, AllByRecursion}
use Rattle.tree_dev.specs.Device.{OnlyRead, OfTold}
use Rattle.pkg_pool.specs.Outcomes.{each_in_turn}
use Rattle.pkg_pool.specs.Pools.{HasPaths, IsSound, gathering_of, with_numbered, with_repositories}
use Rattle.pkg_pool.proofs.loading.add_repositories.Given as goal

abbrev pub invariant-loop-at : goal.invariant-loop-at
invariant-loop-at g l = record {
  only : OnlyRead (g.T.Tree.meaning l.fn.tree) (g.T.Tree.meaning l.tree) false;
  falls : l.left.left ≤ l.fn.left.left;
  sound : IsSound l.gathered;
  paths : AllByRecursion HasPaths (drop l.at l.repositories);
  told : OfTold (g.T.Tree.meaning l.fn.tree) (λ t. each_in_turn (with_numbered t l.project) (enumerate_from l.at (drop l.at l.repositories)) (record { gathering = gathering_of l.gathered; left = l.left.left })
      ≡ with_repositories t l.project l.repositories (record { gathering = gathering_of l.fn.gathered; left = l.fn.left.left }));
}
