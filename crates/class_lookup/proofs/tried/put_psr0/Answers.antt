use Rattle.std.proofs.Common.{◌≡◌, true, false, append-nil, sym, ap, ◌∙◌}
use Rattle.class_paths.specs.RowPath.{begins}
use Rattle.class_lookup.proofs.TableRoutes.{row_step}
use Rattle.class_lookup.proofs.tried.put_psr0.Goals as goal
use Rattle.class_lookup.proofs.tried.put_psr0.Goals.{then-starts_with+in_ok-put_row, else-starts_with}

pub loop-row-preserved : goal.loop-row-preserved
loop-row-preserved c =
    let row = c.row-item.result in
    let name = c.args.name.now in
    let told : c.starts_with.result ≡ begins row.prefix name = rw c.as_slice.ensures at c.starts_with.ensures.value in
    elim c.if-starts_with.branch [
      | then-starts_with+in_ok-put_row w ↦
          row_step true c.args.rows.now c.loop-row.row-index row name c.loop-row.paths.items c.if-starts_with.paths.items _ c.loop-row-test.true c.row-item.is (sym told ∙ w.if-starts_with.true) (ap (λ paths. paths.items) w.paths-is ∙ w.in_ok-put_row.ensures) c.loop-row.invariant
      | else-starts_with w ↦
          row_step false c.args.rows.now c.loop-row.row-index row name c.loop-row.paths.items c.if-starts_with.paths.items _ c.loop-row-test.true c.row-item.is (sym told ∙ w.if-starts_with.false) (ap (λ paths. paths.items) w.paths-is ∙ sym (append-nil c.loop-row.paths.items)) c.loop-row.invariant
    ]
