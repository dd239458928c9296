use Rattle.std.proofs.Common.{◌≡◌, refl, sym, subst}
use Rattle.std.specs.Prelude.{Some}
use Rattle.std.specs.FinMap as map
use Rattle.tree_dev.specs.declared.entry.Entry.TheVariants.{Folder}
use Rattle.std.proofs.lemmas.Result.{err_from_is_err_and}
use Rattle.install_world.specs.Removals.{Removes}
use Rattle.install_world.proofs.RemovalRules.{removes_start, writes_none_start}
use Rattle.tree_dev.proofs.SteadyRules.{steady_start}
use Rattle.vendor_journal.proofs.FaultRules.{lost_removal, writes_none_released}
use Rattle.vendor_journal.proofs.HoldRules.{steady_removed}
use Rattle.install_world.proofs.Segments.{install_segment}
use Rattle.vendor_journal.proofs.hold.release.Goals as goal

pub child-requires : goal.child-requires
child-requires g c = install_segment

pub returns-in_err-work-clause-writes_none : goal.returns-in_err-work-clause-writes_none
returns-in_err-work-clause-writes_none g c = let p = err_from_is_err_and c.from_residual.result c.from_residual.ensures.1 in rw (p.1, p.2) (writes_none_start _)

pub returns-in_err-work-clause-removes : goal.returns-in_err-work-clause-removes
returns-in_err-work-clause-removes g c = removes_start _ _

pub returns-in_err-work-clause-steady : goal.returns-in_err-work-clause-steady
returns-in_err-work-clause-steady g c = steady_start _ _

pub returns-in_err-remove_folder-clause-writes_none : goal.returns-in_err-remove_folder-clause-writes_none
returns-in_err-remove_folder-clause-writes_none g c =
    let p = err_from_is_err_and c.from_residual-in_err-remove_folder.result c.from_residual-in_err-remove_folder.ensures.1 in
    rw (p.1, p.2) (writes_none_released (Unit {0}) (Unit {0}) _ _ c.in_err-remove_folder.field-0.0 c.in_err-remove_folder.ensures.writes_none)

pub returns-in_err-remove_folder-clause-removes : goal.returns-in_err-remove_folder-clause-removes
returns-in_err-remove_folder-clause-removes g c =
    subst (λ at. Removes at (g.T.Tree.meaning c.args.tree.now) (g.T.Tree.meaning c.remove_folder.new.tree)) c.in_ok-work.ensures c.remove_folder.ensures.removes

pub returns-in_err-remove_folder-clause-steady : goal.returns-in_err-remove_folder-clause-steady
returns-in_err-remove_folder-clause-steady g c = steady_removed _ _ _
    (subst (λ at. Removes at (g.T.Tree.meaning c.args.tree.now) (g.T.Tree.meaning c.remove_folder.new.tree)) c.in_ok-work.ensures c.remove_folder.ensures.removes)

pub returns-clause-removes : goal.returns-clause-removes
returns-clause-removes g c =
    subst (λ at. Removes at (g.T.Tree.meaning c.args.tree.now) (g.T.Tree.meaning c.remove_folder.new.tree)) c.in_ok-work.ensures c.remove_folder.ensures.removes

pub returns-clause-steady : goal.returns-clause-steady
returns-clause-steady g c = steady_removed _ _ _
    (subst (λ at. Removes at (g.T.Tree.meaning c.args.tree.now) (g.T.Tree.meaning c.remove_folder.new.tree)) c.in_ok-work.ensures c.remove_folder.ensures.removes)

pub returns-in_err-work-clause-never_vanished : goal.returns-in_err-work-clause-never_vanished
returns-in_err-work-clause-never_vanished g c = let p = err_from_is_err_and c.from_residual.result c.from_residual.ensures.1 in rw (p.1, p.2) (λ t told stands. refl)

pub returns-in_err-remove_folder-clause-never_vanished : goal.returns-in_err-remove_folder-clause-never_vanished
returns-in_err-remove_folder-clause-never_vanished g c =
    let p = err_from_is_err_and c.from_residual-in_err-remove_folder.result c.from_residual-in_err-remove_folder.ensures.1 in
    rw (p.1, p.2) (λ t told stands.
    lost_removal (Unit {0}) (Unit {0}) c.in_err-remove_folder.field-0.0
    (c.in_err-remove_folder.ensures.never_vanished t told (subst (λ at. map.get t at ≡ Some Folder) (sym c.in_ok-work.ensures) stands)))
