use Rattle.std.proofs.Common.{◌≡◌, map, take}
use Rattle.json_ordered.specs.Docs.{tree_of}
use Rattle.lock_file.proofs.written.array.Given as goal

abbrev pub invariant-loop-item : goal.invariant-loop-item
invariant-loop-item g l = map tree_of l.docs.items ≡ map g.X.Item.tree (take l.item-index l.items)
