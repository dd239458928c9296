use Rattle.std.proofs.Common.{Option}
use Rattle.tree_dev.specs.Steady.{EachImage, HasAt, IsWhole, Through}
use Rattle.tree_dev.specs.declared.entry.Entry.{Entry}
use Rattle.tree_dev.proofs.disk_loops.move_all.Given as goal

abbrev pub invariant-loop-at : goal.invariant-loop-at
invariant-loop-at g l =
    let meaning = g.T.Tree.meaning in
    record {
      whole : IsWhole (meaning l.tree).disks.now;
      through : (entry : Option Entry) → EachImage (meaning l.fn.tree) (HasAt l.fn.kept entry) → Through (meaning l.fn.tree) (meaning l.tree) (HasAt l.fn.kept entry);
    }
