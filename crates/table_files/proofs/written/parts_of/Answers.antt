use Rattle.std.proofs.Common.{◌++◌, List, Global, Vec, sym, ap, ◌∙◌}
use Rattle.std.proofs.lemmas.List.{map-id}
use Rattle.std.proofs.lemmas.Iterator.Adapters.{YieldsList-from_vec}
use Rattle.std.proofs.lemmas.Iterator.Consumers.{YieldsList-end, YieldsList-so_far, YieldsList-turn}
use Rattle.stage_job.specs.declared.job.Part.{Part}
use Rattle.table_files.specs.Written.{part_of, parts_in}
use Rattle.table_files.proofs.ToldExits.{told_exit}
use Rattle.table_files.proofs.CheckedFiles.{all_parts, checked_more, parts_more, stops_parts}
use Rattle.table_files.proofs.Yielded.{split_here}
use Rattle.table_files.proofs.written.parts_of.Goals as goal

pub returns-in_err-refuse_long-clause-told : goal.returns-in_err-refuse_long-clause-told
returns-in_err-refuse_long-clause-told c =
    let gives = YieldsList-from_vec {s = c.into_iter-file-iterator.result} c.args.written.items (cc) (cc) in
    let so_far = YieldsList-so_far gives c.loop-file.yielded _ c.loop-file.yielded_by in
    let turn = YieldsList-turn gives c.loop-file.yielded _ c.loop-file.yielded_by _ c.next.new.self c.in-Some.file c.in-Some.is c.next.ensures.steps in
    told_exit (λ (parts : Vec Part Global). parts.items) (parts_in c.args.project.now c.args.written.items) c.from_residual-in_err-refuse_long.result c.in_err-refuse_long.field-0.0 c.from_residual-in_err-refuse_long.ensures.1
    (stops_parts c.args.project.now c.args.written.items c.loop-file.yielded _ c.in-Some.file c.in_err-refuse_long.field-0.0 (split_here c.args.written.items c.loop-file.yielded c.in-Some.file so_far turn)
    c.loop-file.invariant.checked c.in_err-refuse_long.ensures.told)

pub loop-file-preserved : goal.loop-file-preserved
loop-file-preserved c = record {
  checked = checked_more c.args.project.now c.loop-file.yielded c.in-Some.file _ c.loop-file.invariant.checked c.in_ok-refuse_long.ensures.told;
  put = c.in_ok-put_part.ensures ∙ ap (λ (parts : List Part). parts ++ part_of c.in-Some.file) c.loop-file.invariant.put ∙ sym (parts_more c.loop-file.yielded c.in-Some.file);
}

pub returns-clause-told : goal.returns-clause-told
returns-clause-told c =
    let ends = YieldsList-end (YieldsList-from_vec {s = c.into_iter-file-iterator.result} c.args.written.items (cc) (cc)) c.loop-file.yielded _ c.loop-file.yielded_by _ c.next.new.self c.in-None.is c.next.ensures.steps in
    all_parts c.args.project.now c.args.written.items c.loop-file.yielded c.loop-file.parts.items (sym (map-id c.loop-file.yielded) ∙ ends.0) c.loop-file.invariant.checked c.loop-file.invariant.put
