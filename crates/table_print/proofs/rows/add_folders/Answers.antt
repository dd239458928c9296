use Rattle.std.proofs.Common.{◌++◌, ◌∷◌, [], take, sym, ap, ◌∙◌}
use Rattle.std.proofs.lemmas.List.{take_more}
use Rattle.path_name.specs.Paths.{IsPath}
use Rattle.table_print.specs.TablePrinting.{path_expression}
use Rattle.table_print.proofs.Loops.{all_more, one_more_folder}
use Rattle.table_print.proofs.rows.add_folders.Goals as goal

pub add_path-requires : goal.add_path-requires
add_path-requires c = record { below = rw c.index-folders-i.is (c.requires c.loop-i.i _ c.loop-i-test.true) }

pub loop-i-preserved : goal.loop-i-preserved
loop-i-preserved c =
    let folders = c.args.folders.now in
    let project = c.args.roots.now.project.now in
    let i = c.loop-i.i in
    let folder = c.index-folders-i.result in
    let more = take_more folders i folder c.loop-i-test.true ∙ ap (λ f. take i folders ++ f ∷ []) (sym c.index-folders-i.is) in
    record {
      text = one_more_folder project folders folder i c.args.out.now.items c.loop-i.out.items c.add_path.new.out.items c.loop-i-test.true more c.loop-i.invariant.text
          (c.in_ok-add_path.ensures.text ∙ ap (λ t. t ++ path_expression project folder) c.in_ok-add_separator.ensures);
      segments = all_more IsPath folders i folder more c.loop-i.invariant.segments c.add_path.ensures.segments;
    }
