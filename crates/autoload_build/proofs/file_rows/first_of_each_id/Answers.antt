use Rattle.std.proofs.Common.{List, ap, sym, ◌∙◌}
use Rattle.std.specs.List.{list_any}
use Rattle.path_name.specs.Orders.{byte_cmp, byte_equality, byte_ties, bytes_are_equal}
use Rattle.table_scan.specs.declared.types.FileRow.{FileRow}
use Rattle.autoload_build.proofs.KnownKeys.{added_kept, added_known, old_kept, old_known}
use Rattle.autoload_build.proofs.file_rows.first_of_each_id.Goals as goal

pub loop-row-preserved-in_ok-push : goal.loop-row-preserved-in_ok-push
loop-row-preserved-in_ok-push c = record {
  kept = c.in_ok-push.ensures.items
      ∙ added_kept byte_cmp bytes_are_equal byte_equality byte_ties (λ (row : FileRow). row.id) c.loop-row.known c.insert.new.self c.loop-row.yielded c.loop-row.kept.items c.in-Some.row c.in_ok-copy.field-0 c.in_ok-insert.field-0
      c.in_ok-copy.ensures c.in_ok-insert.ensures.added c.in_ok-insert.ensures.updates.0 c.loop-row.invariant.kept c.loop-row.invariant.known c.if-branch.true;
  known = λ id.
      added_known byte_cmp bytes_are_equal byte_equality byte_ties (λ (row : FileRow). row.id) c.loop-row.known c.insert.new.self c.loop-row.yielded c.loop-row.kept.items c.in-Some.row c.in_ok-copy.field-0 c.in_ok-insert.field-0
      c.in_ok-copy.ensures c.in_ok-insert.ensures.added c.in_ok-insert.ensures.updates.0 c.loop-row.invariant.kept c.loop-row.invariant.known id
      ∙ ap (λ (rows : List FileRow). list_any (λ row. bytes_are_equal id row.id) rows) (sym c.in_ok-push.ensures.items);
}

pub loop-row-preserved : goal.loop-row-preserved
loop-row-preserved c = record {
  kept = old_kept byte_cmp bytes_are_equal byte_equality byte_ties (λ (row : FileRow). row.id) c.loop-row.known c.insert.new.self c.loop-row.yielded c.loop-row.kept.items c.in-Some.row c.in_ok-copy.field-0 c.in_ok-insert.field-0
      c.in_ok-copy.ensures c.in_ok-insert.ensures.added c.in_ok-insert.ensures.updates.0 c.loop-row.invariant.kept c.loop-row.invariant.known c.if-branch.false;
  known = old_known byte_cmp bytes_are_equal byte_equality byte_ties (λ (row : FileRow). row.id) c.loop-row.known c.insert.new.self c.loop-row.yielded c.loop-row.kept.items c.in-Some.row c.in_ok-copy.field-0 c.in_ok-insert.field-0
      c.in_ok-copy.ensures c.in_ok-insert.ensures.added c.in_ok-insert.ensures.updates.0 c.loop-row.invariant.kept c.loop-row.invariant.known c.if-branch.false;
}
