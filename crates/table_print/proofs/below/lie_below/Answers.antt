use Rattle.table_print.proofs.Outside.{part_is_not}
use Rattle.table_print.proofs.below.lie_below.Goals as goal

pub returns-then-not-prefixes_lie_below : goal.returns-then-not-prefixes_lie_below
returns-then-not-prefixes_lie_below c = part_is_not c.prefixes_lie_below.result c.if-not-prefixes_lie_below.true (rw c.as_slice.ensures at c.prefixes_lie_below.ensures) (λ q. q.psr4)

pub returns-then-not-prefixes_lie_below-2 : goal.returns-then-not-prefixes_lie_below-2
returns-then-not-prefixes_lie_below-2 c = part_is_not c.prefixes_lie_below-2.result c.if-not-prefixes_lie_below-2.true (rw c.as_slice-2.ensures at c.prefixes_lie_below-2.ensures) (λ q. q.psr0)

pub returns-then-not-classes_lie_below : goal.returns-then-not-classes_lie_below
returns-then-not-classes_lie_below c = part_is_not c.classes_lie_below.result c.if-not-classes_lie_below.true (rw c.as_slice-3.ensures at c.classes_lie_below.ensures) (λ q. q.class_map)

pub returns : goal.returns
returns c =
    let loaded = rw c.as_slice-4.ensures at c.files_lie_below.ensures in (
      λ yes. record {
        psr4 = (rw c.as_slice.ensures at c.prefixes_lie_below.ensures).0 c.if-not-prefixes_lie_below.false;
        psr0 = (rw c.as_slice-2.ensures at c.prefixes_lie_below-2.ensures).0 c.if-not-prefixes_lie_below-2.false;
        class_map = (rw c.as_slice-3.ensures at c.classes_lie_below.ensures).0 c.if-not-classes_lie_below.false;
        files = loaded.0 yes;
      },
      λ all. loaded.1 all.files,
    )
