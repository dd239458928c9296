use Rattle.std.proofs.Common.{refl}
use Rattle.std.proofs.lemmas.Result.{err_from_is_err_and}
use Rattle.install_world.proofs.RemovalRules.{folder_is_gone, removes_folder, removes_start, within_itself, writes_none_change, writes_none_start}
use Rattle.tree_dev.specs.declared.change.Change.TheVariants.{FolderRemoved}
use Rattle.install_world.proofs.FoldersInOrder.{folder_else, not_misplaced}
use Rattle.install_world.proofs.PlacesFree.{told_changed}
use Rattle.install_world.proofs.removal.remove_empty.Goals as goal

pub returns-in_err-remove_dir-clause-writes_none : goal.returns-in_err-remove_dir-clause-writes_none
returns-in_err-remove_dir-clause-writes_none g c =
    let p = err_from_is_err_and c.from_residual.result c.from_residual.ensures.1 in
    rw (p.1, p.2) (writes_none_change _ _ _ _ _ c.remove_dir.ensures.moments refl c.remove_dir.ensures.counts (λ failed. c.in_err-remove_dir.ensures.cause) (writes_none_start _))

pub returns-in_err-remove_dir-clause-removes : goal.returns-in_err-remove_dir-clause-removes
returns-in_err-remove_dir-clause-removes g c = removes_folder _ _ _ _ _ c.remove_dir.ensures.moments (within_itself c.args.path.now) (removes_start _ _)

pub returns-in-Done-clause-writes_none : goal.returns-in-Done-clause-writes_none
returns-in-Done-clause-writes_none g c = writes_none_change _ _ _ _ _ c.remove_dir.ensures.moments refl c.remove_dir.ensures.counts (λ failed. absurd cc) (writes_none_start _)

pub returns-in-Done-clause-removes : goal.returns-in-Done-clause-removes
returns-in-Done-clause-removes g c = removes_folder _ _ _ _ _ c.remove_dir.ensures.moments (within_itself c.args.path.now) (removes_start _ _)

pub returns-in-Done-clause-gone : goal.returns-in-Done-clause-gone
returns-in-Done-clause-gone g c = λ u told.
    folder_is_gone c.args.path.now (g.T.Tree.meaning c.args.tree.now) (g.T.Tree.meaning c.remove_dir.new.self) u c.remove_dir.ensures.moments told
    (λ t before. c.in_ok-remove_dir.ensures.done c.in-Done.is t before)

pub returns-in_err-copy-in-Misplaced-clause-writes_none : goal.returns-in_err-copy-in-Misplaced-clause-writes_none
returns-in_err-copy-in-Misplaced-clause-writes_none g c =
    let p = err_from_is_err_and c.from_residual-in_err-copy-in-Misplaced.result c.from_residual-in_err-copy-in-Misplaced.ensures.1 in
    rw (p.1, p.2) (writes_none_change _ _ _ _ _ c.remove_dir.ensures.moments refl c.remove_dir.ensures.counts (λ failed. absurd cc) (writes_none_start _))

pub returns-in_err-copy-in-Misplaced-clause-removes : goal.returns-in_err-copy-in-Misplaced-clause-removes
returns-in_err-copy-in-Misplaced-clause-removes g c = removes_folder _ _ _ _ _ c.remove_dir.ensures.moments (within_itself c.args.path.now) (removes_start _ _)

pub returns-in_ok-copy-in-Misplaced-clause-writes_none : goal.returns-in_ok-copy-in-Misplaced-clause-writes_none
returns-in_ok-copy-in-Misplaced-clause-writes_none g c = writes_none_change _ _ _ _ _ c.remove_dir.ensures.moments refl c.remove_dir.ensures.counts (λ failed. absurd cc) (writes_none_start _)

pub returns-in_ok-copy-in-Misplaced-clause-removes : goal.returns-in_ok-copy-in-Misplaced-clause-removes
returns-in_ok-copy-in-Misplaced-clause-removes g c = removes_folder _ _ _ _ _ c.remove_dir.ensures.moments (within_itself c.args.path.now) (removes_start _ _)

pub returns-in-Done-clause-others : goal.returns-in-Done-clause-others
returns-in-Done-clause-others g c = λ t told u now.
    folder_else t u c.args.path.now (told_changed _ _ t u (FolderRemoved c.args.path.now) (c.in_ok-remove_dir.ensures.done c.in-Done.is t told).told told now)

pub returns-in_ok-copy-in-Misplaced-clause-never_vanished : goal.returns-in_ok-copy-in-Misplaced-clause-never_vanished
returns-in_ok-copy-in-Misplaced-clause-never_vanished g c = λ t told bare.
    absurd (not_misplaced t c.args.path.now c.in_ok-remove_dir.field-0 bare (c.in_ok-remove_dir.ensures.answer t told) c.in-Misplaced.is)
