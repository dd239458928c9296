use Rattle.std.proofs.Common.{◌≡◌, false, map, take, drop}
use Rattle.std.specs.List.{AllByRecursion}
use Rattle.tree_dev.specs.Device.{OnlyRead, OfTold}
use Rattle.lock_file.specs.FormedLocks.{IsLocked}
use Rattle.lock_file.specs.Locks.{locked_name}
use Rattle.lock_file.proofs.Views.{shown}
use Rattle.install_sources.specs.Sources.{IsSource, placed_each, placed_name}
use Rattle.install_sources.proofs.PlacedEach.{gathered}
use Rattle.install_sources.proofs.sources.placed_each.Given as goal

abbrev pub invariant-loop-entry : goal.invariant-loop-entry
invariant-loop-entry g l = record {
  only : OnlyRead (g.T.Tree.meaning l.fn.tree) (g.T.Tree.meaning l.tree) false;
  formed : AllByRecursion IsLocked (map shown (drop l.entry-index l.entries));
  sources : AllByRecursion (IsSource l.project) l.members.items;
  names : map placed_name l.members.items ≡ map (λ entry. locked_name entry.now) (take l.entry-index l.entries);
  told : OfTold (g.T.Tree.meaning l.fn.tree) (λ t. placed_each t l.project (map shown l.entries) ≡ gathered t l.project l.members.items (drop l.entry-index l.entries));
}
