use Rattle.std.proofs.Common.{sym, subst}
use Rattle.std.proofs.lemmas.Result.{err_from_is_err_and}
use Rattle.tree_dev.specs.Disk.{reading}
use Rattle.install_world.specs.InFlight.{IsPartDone}
use Rattle.std.proofs.Common.{refl}
use Rattle.install_world.proofs.PartFinish.{way_folders}
use Rattle.vendor_journal.proofs.commits.move_prepared.Goals as goal

pub returns-in_err-move_part-clause-writes_none : goal.returns-in_err-move_part-clause-writes_none
returns-in_err-move_part-clause-writes_none g c =
    let p = err_from_is_err_and c.from_residual.result c.from_residual.ensures.1 in rw (p.1, p.2) c.in_err-move_part.ensures.writes_none

pub returns-in_err-move_part-clause-through : goal.returns-in_err-move_part-clause-through
returns-in_err-move_part-clause-through g c = λ t told whole way number target is part each.
    c.move_part.ensures.through t told whole way number target is.places part (sym is.mark) each

pub returns-in-Done-clause-through : goal.returns-in-Done-clause-through
returns-in-Done-clause-through g c = λ t told whole way number target is part each.
    c.move_part.ensures.through t told whole way number target is.places part (sym is.mark) each

pub returns-in-Done-clause-done : goal.returns-in-Done-clause-done
returns-in-Done-clause-done g c = λ t told project number target is.
    subst (λ gone. IsPartDone gone project number target (reading (g.T.Tree.meaning c.move_part.new.tree).disks.now)) is.mark
    (c.in_ok-move_part.ensures.done c.in-Done.is t told project number target is.places)

pub returns-in-Misplaced-clause-through : goal.returns-in-Misplaced-clause-through
returns-in-Misplaced-clause-through g c = λ t told whole way number target is part each.
    c.move_part.ensures.through t told whole way number target is.places part (sym is.mark) each

pub returns-in_err-move_part-clause-never_vanished : goal.returns-in_err-move_part-clause-never_vanished
returns-in_err-move_part-clause-never_vanished g c =
    let p = err_from_is_err_and c.from_residual.result c.from_residual.ensures.1 in rw (p.1, p.2) (λ t told way number target is part on none. refl)

pub returns-in-Misplaced-clause-never_vanished : goal.returns-in-Misplaced-clause-never_vanished
returns-in-Misplaced-clause-never_vanished g c = λ t told way number target is part on none.
    let done = c.in_ok-move_part.ensures.fits t told way.project number target is.places (way_folders way way.project t refl on number target part) (sym is.mark) (record { free = λ there why. none }) in
    let misplaced = c.in-Misplaced.is in
    absurd cc
