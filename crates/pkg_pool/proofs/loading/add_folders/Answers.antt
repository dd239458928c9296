use Rattle.std.proofs.Common.{◌∙◌}
use Rattle.std.proofs.lemmas.Result.{err_from_is_err_and}
use Rattle.tree_dev.specs.Device.{only_read_on}
use Rattle.pkg_pool.specs.Pools.{gathering_of, with_folder, with_folders}
use Rattle.pkg_pool.proofs.Turns.{turn, stop, ended}
use Rattle.pkg_pool.proofs.loading.add_folders.Goals as goal

pub returns-in_err-add_folder-clause-told : goal.returns-in_err-add_folder-clause-told
returns-in_err-add_folder-clause-told g c = λ t told.
    let o = c.args.origin.now in
    let p = err_from_is_err_and c.from_residual.result c.from_residual.ensures.1 in
    rw (p.1, p.2) (stop (with_folder t o) c.args.folders.now c.loop-folder.folder-index c.folder-item.result c.loop-folder-test.true c.folder-item.is (gathering_of c.loop-folder.gathered)
    c.in_err-add_folder.field-0.0 (with_folders t o c.args.folders.now (gathering_of c.args.gathered.now)) (c.in_err-add_folder.ensures.told t (c.loop-folder.invariant.only.told ∙ told))
    (c.loop-folder.invariant.told t told))

pub loop-folder-preserved : goal.loop-folder-preserved
loop-folder-preserved g c = record {
  only = only_read_on c.loop-folder.invariant.only c.in_ok-add_folder.ensures.only_read;
  sound = c.in_ok-add_folder.ensures.sound;
  told = λ t told.
      let o = c.args.origin.now in
      turn (with_folder t o) c.args.folders.now c.loop-folder.folder-index c.folder-item.result c.loop-folder-test.true c.folder-item.is (gathering_of c.loop-folder.gathered)
      (gathering_of c.add_folder.new.gathered) (with_folders t o c.args.folders.now (gathering_of c.args.gathered.now)) (c.in_ok-add_folder.ensures.told t (c.loop-folder.invariant.only.told ∙ told))
      (c.loop-folder.invariant.told t told);
}

pub returns-clause-told : goal.returns-clause-told
returns-clause-told g c = λ t told.
    let o = c.args.origin.now in
    ended (with_folder t o) c.args.folders.now c.loop-folder.folder-index c.loop-folder-test.false (gathering_of c.loop-folder.gathered) (with_folders t o c.args.folders.now (gathering_of c.args.gathered.now))
    (c.loop-folder.invariant.told t told)
