use Rattle.std.proofs.Common.{◌∙◌, arith}
use Rattle.std.proofs.lemmas.Result.{err_from_is_err_and}
use Rattle.tree_dev.specs.Device.{only_read_on}
use Rattle.pkg_pool.specs.Patterns.{Found, then_expanded, folders_expanded}
use Rattle.pkg_pool.proofs.Turns.{turn, stop, ended}
use Rattle.pkg_pool.proofs.expand.put_folders.Goals as goal

pub returns-in_err-put_folder-clause-told : goal.returns-in_err-put_folder-clause-told
returns-in_err-put_folder-clause-told g c = λ t told.
    let o = c.args.origin.now in
    let start : Found = record { paths = c.args.found.now.items; left = c.args.left.now.left } in
    let so_far : Found = record { paths = c.loop-folder.found.items; left = c.loop-folder.left.left } in
    let p = err_from_is_err_and c.from_residual.result c.from_residual.ensures.1 in
    rw (p.1, p.2) (stop (then_expanded t o) c.args.folders.now c.loop-folder.folder-index c.folder-item.result c.loop-folder-test.true c.folder-item.is so_far
    c.in_err-put_folder.field-0.0 (folders_expanded t o c.args.folders.now start) (c.in_err-put_folder.ensures.told t (c.loop-folder.invariant.only.told ∙ told)) (c.loop-folder.invariant.told t told))

pub loop-folder-preserved : goal.loop-folder-preserved
loop-folder-preserved g c = record {
  only = only_read_on c.loop-folder.invariant.only c.in_ok-put_folder.ensures.only_read;
  falls = omega (arith, c.in_ok-put_folder.ensures.falls, c.loop-folder.invariant.falls);
  told = λ t told.
      let o = c.args.origin.now in
      let start : Found = record { paths = c.args.found.now.items; left = c.args.left.now.left } in
      let so_far : Found = record { paths = c.loop-folder.found.items; left = c.loop-folder.left.left } in
      turn (then_expanded t o) c.args.folders.now c.loop-folder.folder-index c.folder-item.result c.loop-folder-test.true c.folder-item.is so_far
      (record { paths = c.put_folder.new.found.items; left = c.put_folder.new.left.left }) (folders_expanded t o c.args.folders.now start)
      (c.in_ok-put_folder.ensures.told t (c.loop-folder.invariant.only.told ∙ told)) (c.loop-folder.invariant.told t told);
}

pub returns-clause-told : goal.returns-clause-told
returns-clause-told g c = λ t told.
    let o = c.args.origin.now in
    let start : Found = record { paths = c.args.found.now.items; left = c.args.left.now.left } in
    ended (then_expanded t o) c.args.folders.now c.loop-folder.folder-index c.loop-folder-test.false (record { paths = c.loop-folder.found.items; left = c.loop-folder.left.left })
    (folders_expanded t o c.args.folders.now start) (c.loop-folder.invariant.told t told)
