use Rattle.std.proofs.Common.{refl}
use Rattle.std.proofs.lemmas.Result.{err_from_is_err_and}
use Rattle.install_world.proofs.RemovalRules.{removes_file, removes_start, within_itself, writes_none_change, writes_none_start}
use Rattle.install_world.proofs.LeavesGone.{place_of_misplaced}
use Rattle.install_world.proofs.RoomMade.{file_is_gone}
use Rattle.install_world.proofs.parts.remove_one.Goals as goal

pub returns-in_err-remove_file-clause-writes_none : goal.returns-in_err-remove_file-clause-writes_none
returns-in_err-remove_file-clause-writes_none g c =
    let p = err_from_is_err_and c.from_residual.result c.from_residual.ensures.1 in
    rw (p.1, p.2) (writes_none_change _ _ _ _ _ c.remove_file.ensures.moments refl c.remove_file.ensures.counts (λ failed. c.in_err-remove_file.ensures.cause) (writes_none_start _))

pub returns-in_err-remove_file-clause-removes : goal.returns-in_err-remove_file-clause-removes
returns-in_err-remove_file-clause-removes g c = removes_file _ _ _ _ _ c.remove_file.ensures.moments (within_itself c.args.at.now) (removes_start _ _)

pub returns-in-Done-clause-writes_none : goal.returns-in-Done-clause-writes_none
returns-in-Done-clause-writes_none g c = writes_none_change _ _ _ _ _ c.remove_file.ensures.moments refl c.remove_file.ensures.counts (λ failed. absurd cc) (writes_none_start _)

pub returns-in-Done-clause-removes : goal.returns-in-Done-clause-removes
returns-in-Done-clause-removes g c = removes_file _ _ _ _ _ c.remove_file.ensures.moments (within_itself c.args.at.now) (removes_start _ _)

pub returns-in_err-copy-in-Misplaced-clause-writes_none : goal.returns-in_err-copy-in-Misplaced-clause-writes_none
returns-in_err-copy-in-Misplaced-clause-writes_none g c =
    let p = err_from_is_err_and c.from_residual-in_err-copy-in-Misplaced.result c.from_residual-in_err-copy-in-Misplaced.ensures.1 in
    rw (p.1, p.2) (writes_none_change _ _ _ _ _ c.remove_file.ensures.moments refl c.remove_file.ensures.counts (λ failed. absurd cc) (writes_none_start _))

pub returns-in_err-copy-in-Misplaced-clause-removes : goal.returns-in_err-copy-in-Misplaced-clause-removes
returns-in_err-copy-in-Misplaced-clause-removes g c = removes_file _ _ _ _ _ c.remove_file.ensures.moments (within_itself c.args.at.now) (removes_start _ _)

pub returns-in_ok-copy-in-Misplaced-clause-writes_none : goal.returns-in_ok-copy-in-Misplaced-clause-writes_none
returns-in_ok-copy-in-Misplaced-clause-writes_none g c = writes_none_change _ _ _ _ _ c.remove_file.ensures.moments refl c.remove_file.ensures.counts (λ failed. absurd cc) (writes_none_start _)

pub returns-in_ok-copy-in-Misplaced-clause-removes : goal.returns-in_ok-copy-in-Misplaced-clause-removes
returns-in_ok-copy-in-Misplaced-clause-removes g c = removes_file _ _ _ _ _ c.remove_file.ensures.moments (within_itself c.args.at.now) (removes_start _ _)

pub returns-in-Done-clause-gone : goal.returns-in-Done-clause-gone
returns-in-Done-clause-gone g c = λ u told.
    file_is_gone c.args.at.now (g.T.Tree.meaning c.args.tree.now) (g.T.Tree.meaning c.remove_file.new.self) u c.remove_file.ensures.moments told
    (λ t before. c.in_ok-remove_file.ensures.done c.in-Done.is t before)

pub returns-in_err-remove_file-clause-fits : goal.returns-in_err-remove_file-clause-fits
returns-in_err-remove_file-clause-fits g c = let p = err_from_is_err_and c.from_residual.result c.from_residual.ensures.1 in rw (p.1, p.2) (λ t told leaf. refl)

pub returns-in_err-copy-in-Misplaced-clause-fits : goal.returns-in_err-copy-in-Misplaced-clause-fits
returns-in_err-copy-in-Misplaced-clause-fits g c = let p = err_from_is_err_and c.from_residual-in_err-copy-in-Misplaced.result c.from_residual-in_err-copy-in-Misplaced.ensures.1 in rw (p.1, p.2) (λ t told leaf. refl)

pub returns-in_ok-copy-in-Misplaced-clause-fits : goal.returns-in_ok-copy-in-Misplaced-clause-fits
returns-in_ok-copy-in-Misplaced-clause-fits g c = λ t told leaf.
    let wrong = place_of_misplaced t c.args.at.now c.in_ok-remove_file.field-0 (c.in_ok-remove_file.ensures.answer t told) c.in-Misplaced.is in
    absurd cc
