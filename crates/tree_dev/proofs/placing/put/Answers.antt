use Rattle.std.proofs.Common.{◌≡◌, ap, ◌∙◌}
use Rattle.std.specs.FinMap as map
use Rattle.tree_dev.specs.Moves.{with_all, without_all, paths_of}
use Rattle.tree_dev.specs.Memory.{put_in}
use Rattle.tree_dev.specs.Stored.{entry_of}
use Rattle.tree_dev.proofs.Given.{on_any_err}
use Rattle.tree_dev.proofs.ManyEntries.{undone, undone_part}
use Rattle.tree_dev.proofs.FoldersAbove.{same_folders, absent_before}
use Rattle.tree_dev.proofs.placing.put.Goals as goal

pub returns-in_err-put_all-clause-err : goal.returns-in_err-put_all-clause-err
returns-in_err-put_all-clause-err c =
    let part = rw c.as_slice.ensures.value at c.in_err-put_all.ensures.err in
    let same : c.put_all.new.files ≡ c.args.files.now =
    part.1 ∙ undone_part part.0 c.in_ok-folders.folders.items c.args.files.now (absent_before c.args.files.now c.args.at.now c.in_ok-folders.folders.items c.in_ok-folders.ensures.paths) in
    on_any_err c.from_residual-in_err-put_all.result (c.put_all.new.files ≡ c.args.files.now) same

pub returns-in-Err-clause-err : goal.returns-in-Err-clause-err
returns-in-Err-clause-err c =
    c.remove_placed.ensures
    ∙ ap (λ es. without_all c.insert.new.self (paths_of es)) c.as_slice-in-Err.ensures.value
    ∙ ap (λ t. without_all t (paths_of c.in_ok-folders.folders.items)) (c.in-Err.ensures.err ∙ c.in_ok-put_all.ensures.ok ∙ ap (with_all c.args.files.now) c.as_slice.ensures.value)
    ∙ undone c.in_ok-folders.folders.items c.args.files.now (absent_before c.args.files.now c.args.at.now c.in_ok-folders.folders.items c.in_ok-folders.ensures.paths)

pub returns-clause-ok : goal.returns-clause-ok
unfolding put_in
returns-clause-ok c =
    c.in_default.ensures.ok
    ∙ ap (λ p. map.insert c.put_all.new.files p (entry_of c.args.entry)) c.in_ok-path.ensures
    ∙ ap (λ t. map.insert t c.args.at.now (entry_of c.args.entry))
    (c.in_ok-put_all.ensures.ok ∙ ap (with_all c.args.files.now) c.as_slice.ensures.value
    ∙ same_folders c.args.files.now c.args.at.now c.in_ok-folders.folders.items c.in_ok-folders.ensures.folders c.in_ok-folders.ensures.paths)
