use Rattle.std.proofs.Common.{Ok, ap, sym, ◌∙◌}
use Rattle.table_scan.specs.Keys.{allows}
use Rattle.table_scan.proofs.Meaning.{text_holds, text_fails}
use Rattle.table_scan.proofs.table.prefix_table.Goals as goal

pub returns-in-Ok : goal.returns-in-Ok
returns-in-Ok c = text_holds c.args.roots.now.project.now (allows c.args.keys) c.args.file c.args.text.now c.in-Some.text c.of-in-Ok.result c.in-Some.is
    ((rw c.as_slice.ensures at c.in-Ok.ensures) ∙ ap (λ r. Ok r) (sym c.of-in-Ok.ensures))

pub returns-in-Err : goal.returns-in-Err
returns-in-Err c = text_fails c.args.roots.now.project.now (allows c.args.keys) c.args.file c.args.text.now c.in-Some.text c.in-Err.stop c.fault.result c.in-Some.is
    (rw c.as_slice.ensures at c.in-Err.ensures) (rw c.as_slice-in-Err.ensures at c.fault.ensures)
