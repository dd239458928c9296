use Rattle.std.proofs.lemmas.Result.{err_from_is_err_and}
use Rattle.install_world.proofs.PartFinish.{writes_none_removed}
use Rattle.install_world.proofs.RoomMade.{folder_by_kind, leaf_by_kind, unfit_removal}
use Rattle.install_world.proofs.parts.remove_entry.Goals as goal

pub returns-in_err-remove_folder-in-Folder-clause-writes_none : goal.returns-in_err-remove_folder-in-Folder-clause-writes_none
returns-in_err-remove_folder-in-Folder-clause-writes_none g c =
    let p = err_from_is_err_and c.from_residual.result c.from_residual.ensures.1 in
    rw (p.1, p.2) (writes_none_removed (Unit {0}) (Unit {0}) _ _ c.in_err-remove_folder-in-Folder.field-0.0 c.in_err-remove_folder-in-Folder.ensures.writes_none)

pub returns-in_err-remove_folder-in-Folder-clause-fits : goal.returns-in_err-remove_folder-in-Folder-clause-fits
returns-in_err-remove_folder-in-Folder-clause-fits g c =
    let p = err_from_is_err_and c.from_residual.result c.from_residual.ensures.1 in
    rw (p.1, p.2) (λ t told there is.
    unfit_removal (Unit {0}) (Unit {0}) c.in_err-remove_folder-in-Folder.field-0.0
    (c.in_err-remove_folder-in-Folder.ensures.never_vanished t told
    (folder_by_kind t c.args.at.now c.args.kind (g.met.T.Tree.tells_trees c.args.tree.now t told) there is c.in-Folder.is)))

pub returns-in_default-clause-fits : goal.returns-in_default-clause-fits
returns-in_default-clause-fits g c = λ t told there is.
    c.remove_one.ensures.fits t told (leaf_by_kind t c.args.at.now c.args.kind (g.met.T.Tree.tells_trees c.args.tree.now t told) there is c.in_default.not-Folder)
