use Rattle.std.proofs.Common.{◌++◌, ◌∷◌, [], take, sym, ap, ◌∙◌}
use Rattle.std.proofs.lemmas.List.{take_more}
use Rattle.table_scan.specs.declared.types.TableFile.TheVariants as files
use Rattle.table_print.specs.TablePrinting.{path_expression, row_text, file_row_text}
use Rattle.table_print.specs.Parts.{table_start, HasFileSegments}
use Rattle.table_print.proofs.Loops.{all_more, one_more_row}
use Rattle.table_print.proofs.printing.file_text.Goals as goal

pub add_path_row-requires : goal.add_path_row-requires
add_path_row-requires c = rw c.row-item.is (c.requires c.loop-row.row-index _ c.loop-row-test.true)

pub loop-row-preserved : goal.loop-row-preserved
loop-row-preserved c =
    let rows = c.args.rows.now in
    let project = c.args.roots.now.project.now in
    let i = c.loop-row.row-index in
    let row = c.row-item.result in
    let more = take_more rows i row c.loop-row-test.true ∙ ap (λ r. take i rows ++ r ∷ []) (sym c.row-item.is) in
    record {
      text = one_more_row (file_row_text project) rows row i (table_start files.Files) c.loop-row.out.items c.add_path_row.new.out.items more c.loop-row.invariant.text
          (c.in_ok-add_path_row.ensures.text ∙ ap (λ k. c.loop-row.out.items ++ row_text k (path_expression project row.path)) c.as_slice.ensures);
      segments = all_more HasFileSegments rows i row more c.loop-row.invariant.segments c.in_ok-add_path_row.ensures.segments;
    }
