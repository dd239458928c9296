use Rattle.std.proofs.Common.{refl}
use Rattle.std.proofs.lemmas.Result.{err_from_is_err_and}
use Rattle.install_world.proofs.RemovalRules.{removes_file, removes_start, within_equal, writes_none_change, writes_none_start}
use Rattle.std.proofs.Common.{◌++◌, ◌∙◌, ap}
use Rattle.tree_dev.specs.declared.change.Change.TheVariants.{FileRemoved}
use Rattle.install_world.proofs.LeavesGone.{leaf_done, leaf_kept}
use Rattle.install_world.proofs.PlacesFree.{told_changed, told_same}
use Rattle.install_world.proofs.removal.remove_leaf.Goals as goal

pub returns-in_err-entry-clause-writes_none : goal.returns-in_err-entry-clause-writes_none
returns-in_err-entry-clause-writes_none g c = let p = err_from_is_err_and c.from_residual.result c.from_residual.ensures.1 in rw (p.1, p.2) (writes_none_start _)

pub returns-in_err-entry-clause-removes : goal.returns-in_err-entry-clause-removes
returns-in_err-entry-clause-removes g c = removes_start _ _

pub returns-in_err-path-clause-writes_none : goal.returns-in_err-path-clause-writes_none
returns-in_err-path-clause-writes_none g c = let p = err_from_is_err_and c.from_residual-in_err-path.result c.from_residual-in_err-path.ensures.1 in rw (p.1, p.2) (writes_none_start _)

pub returns-in_err-path-clause-removes : goal.returns-in_err-path-clause-removes
returns-in_err-path-clause-removes g c = removes_start _ _

pub returns-in_err-remove_file-clause-writes_none : goal.returns-in_err-remove_file-clause-writes_none
returns-in_err-remove_file-clause-writes_none g c =
    let p = err_from_is_err_and c.from_residual-in_err-remove_file.result c.from_residual-in_err-remove_file.ensures.1 in
    rw (p.1, p.2) (writes_none_change _ _ _ _ _ c.remove_file.ensures.moments refl c.remove_file.ensures.counts (λ failed. c.in_err-remove_file.ensures.cause) (writes_none_start _))

pub returns-in_err-remove_file-clause-removes : goal.returns-in_err-remove_file-clause-removes
returns-in_err-remove_file-clause-removes g c =
    removes_file _ _ _ _ _ c.remove_file.ensures.moments (within_equal _ _ _ c.in_ok-path.ensures) (removes_start _ _)

pub returns-in-Done-clause-writes_none : goal.returns-in-Done-clause-writes_none
returns-in-Done-clause-writes_none g c = writes_none_change _ _ _ _ _ c.remove_file.ensures.moments refl c.remove_file.ensures.counts (λ failed. absurd cc) (writes_none_start _)

pub returns-in-Done-clause-removes : goal.returns-in-Done-clause-removes
returns-in-Done-clause-removes g c =
    removes_file _ _ _ _ _ c.remove_file.ensures.moments (within_equal _ _ _ c.in_ok-path.ensures) (removes_start _ _)

pub returns-in_err-push-in-Misplaced-clause-writes_none : goal.returns-in_err-push-in-Misplaced-clause-writes_none
returns-in_err-push-in-Misplaced-clause-writes_none g c =
    let p = err_from_is_err_and c.from_residual-in_err-push-in-Misplaced.result c.from_residual-in_err-push-in-Misplaced.ensures.1 in
    rw (p.1, p.2) (writes_none_change _ _ _ _ _ c.remove_file.ensures.moments refl c.remove_file.ensures.counts (λ failed. absurd cc) (writes_none_start _))

pub returns-in_err-push-in-Misplaced-clause-removes : goal.returns-in_err-push-in-Misplaced-clause-removes
returns-in_err-push-in-Misplaced-clause-removes g c =
    removes_file _ _ _ _ _ c.remove_file.ensures.moments (within_equal _ _ _ c.in_ok-path.ensures) (removes_start _ _)

pub returns-in_ok-push-in-Misplaced-clause-writes_none : goal.returns-in_ok-push-in-Misplaced-clause-writes_none
returns-in_ok-push-in-Misplaced-clause-writes_none g c = writes_none_change _ _ _ _ _ c.remove_file.ensures.moments refl c.remove_file.ensures.counts (λ failed. absurd cc) (writes_none_start _)

pub returns-in_ok-push-in-Misplaced-clause-removes : goal.returns-in_ok-push-in-Misplaced-clause-removes
returns-in_ok-push-in-Misplaced-clause-removes g c =
    removes_file _ _ _ _ _ c.remove_file.ensures.moments (within_equal _ _ _ c.in_ok-path.ensures) (removes_start _ _)

pub returns-in_err-entry-clause-never_vanished : goal.returns-in_err-entry-clause-never_vanished
returns-in_err-entry-clause-never_vanished g c = let p = err_from_is_err_and c.from_residual.result c.from_residual.ensures.1 in rw (p.1, p.2) refl

pub returns-in_err-path-clause-never_vanished : goal.returns-in_err-path-clause-never_vanished
returns-in_err-path-clause-never_vanished g c = let p = err_from_is_err_and c.from_residual-in_err-path.result c.from_residual-in_err-path.ensures.1 in rw (p.1, p.2) refl

pub returns-in_err-remove_file-clause-never_vanished : goal.returns-in_err-remove_file-clause-never_vanished
returns-in_err-remove_file-clause-never_vanished g c = let p = err_from_is_err_and c.from_residual-in_err-remove_file.result c.from_residual-in_err-remove_file.ensures.1 in rw (p.1, p.2) refl

pub returns-in_err-push-in-Misplaced-clause-never_vanished : goal.returns-in_err-push-in-Misplaced-clause-never_vanished
returns-in_err-push-in-Misplaced-clause-never_vanished g c = let p = err_from_is_err_and c.from_residual-in_err-push-in-Misplaced.result c.from_residual-in_err-push-in-Misplaced.ensures.1 in rw (p.1, p.2) refl

pub returns-in-Done-clause-leaf : goal.returns-in-Done-clause-leaf
returns-in-Done-clause-leaf g c = λ t told u now there.
    leaf_done c.args.at.now c.args.folder.now c.in_ok-path.path c.args.name.now (c.in_ok-path.ensures ∙ ap (λ entry. c.args.at.now ++ entry) c.in_ok-entry.ensures) c.args.ahead.now.items t u c.in_ok-remove_file.field-0
    (c.in_ok-remove_file.ensures.answer t told) c.in-Done.is
    (told_changed _ _ t u (FileRemoved c.in_ok-path.path) (c.in_ok-remove_file.ensures.done c.in-Done.is t told).told told now)

pub returns-in_ok-push-in-Misplaced-clause-leaf : goal.returns-in_ok-push-in-Misplaced-clause-leaf
returns-in_ok-push-in-Misplaced-clause-leaf g c = λ t told u now there.
    leaf_kept c.args.at.now c.args.folder.now c.in_ok-entry.entry c.in_ok-path.path c.args.name.now c.in_ok-entry.ensures (c.in_ok-path.ensures ∙ ap (λ entry. c.args.at.now ++ entry) c.in_ok-entry.ensures) c.args.ahead.now.items _ t u
    c.in_ok-remove_file.field-0 c.in_ok-push-in-Misplaced.ensures.items (c.in_ok-remove_file.ensures.answer t told) c.in-Misplaced.is
    (told_same _ _ t u (c.in_ok-remove_file.ensures.misplaced c.in-Misplaced.is).told told now) there
