use Rattle.std.proofs.Common.{◌++◌, ◌∷◌, [], take, sym, ap, ◌∙◌}
use Rattle.std.proofs.lemmas.List.{take_more}
use Rattle.table_print.specs.TablePrinting.{prefix_row_text}
use Rattle.table_print.specs.Parts.{table_start, HasSegments}
use Rattle.table_print.proofs.Loops.{all_more, one_more_row}
use Rattle.table_print.proofs.printing.prefix_text.Goals as goal

pub add_prefix_row-requires : goal.add_prefix_row-requires
add_prefix_row-requires c = rw c.row-item.is (c.requires c.loop-row.row-index _ c.loop-row-test.true)

pub loop-row-preserved : goal.loop-row-preserved
loop-row-preserved c =
    let rows = c.args.rows.now in
    let i = c.loop-row.row-index in
    let row = c.row-item.result in
    let more = take_more rows i row c.loop-row-test.true ∙ ap (λ r. take i rows ++ r ∷ []) (sym c.row-item.is) in
    record {
      text = one_more_row (prefix_row_text c.args.roots.now.project.now) rows row i (table_start c.args.file) c.loop-row.out.items c.add_prefix_row.new.out.items more c.loop-row.invariant.text c.in_ok-add_prefix_row.ensures.text;
      segments = all_more HasSegments rows i row more c.loop-row.invariant.segments c.in_ok-add_prefix_row.ensures.segments;
    }
