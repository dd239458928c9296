use Rattle.std.proofs.lemmas.Result.{err_from_is_err_and}
use Rattle.std.proofs.Common.{refl}
use Rattle.install_world.proofs.ending.end_journal.Goals as goal

pub returns-in_err-remove_journal-clause-writes_none : goal.returns-in_err-remove_journal-clause-writes_none
returns-in_err-remove_journal-clause-writes_none g c =
    let p = err_from_is_err_and c.from_residual.result c.from_residual.ensures.1 in rw (p.1, p.2) c.in_err-remove_journal.ensures.writes_none

pub returns-in_err-copy-in-Misplaced-clause-writes_none : goal.returns-in_err-copy-in-Misplaced-clause-writes_none
returns-in_err-copy-in-Misplaced-clause-writes_none g c =
    let p = err_from_is_err_and c.from_residual-in_err-copy-in-Misplaced.result c.from_residual-in_err-copy-in-Misplaced.ensures.1 in
    rw (p.1, p.2) c.in_ok-remove_journal.ensures.writes_none

pub returns-in-Done-clause-settled : goal.returns-in-Done-clause-settled
returns-in-Done-clause-settled g c = λ t told way is done on. c.in_ok-remove_journal.ensures.settled c.in-Done.is t told way is done on

pub returns-in-Done-clause-others : goal.returns-in-Done-clause-others
returns-in-Done-clause-others g c = c.in_ok-remove_journal.ensures.others c.in-Done.is

pub returns-in_err-remove_journal-clause-fits : goal.returns-in_err-remove_journal-clause-fits
returns-in_err-remove_journal-clause-fits g c = let p = err_from_is_err_and c.from_residual.result c.from_residual.ensures.1 in rw (p.1, p.2) (λ t told way is stands. refl)

pub returns-in_err-copy-in-Misplaced-clause-fits : goal.returns-in_err-copy-in-Misplaced-clause-fits
returns-in_err-copy-in-Misplaced-clause-fits g c = let p = err_from_is_err_and c.from_residual-in_err-copy-in-Misplaced.result c.from_residual-in_err-copy-in-Misplaced.ensures.1 in rw (p.1, p.2) (λ t told way is stands. refl)

pub returns-in_ok-copy-in-Misplaced-clause-fits : goal.returns-in_ok-copy-in-Misplaced-clause-fits
returns-in_ok-copy-in-Misplaced-clause-fits g c = λ t told way is stands.
    let done = c.in_ok-remove_journal.ensures.fits t told way is stands in
    let misplaced = c.in-Misplaced.is in
    absurd cc

pub returns-in-Done-clause-left : goal.returns-in-Done-clause-left
returns-in-Done-clause-left g c = c.in_ok-remove_journal.ensures.left c.in-Done.is

pub returns-in_err-remove_journal-clause-never_vanished : goal.returns-in_err-remove_journal-clause-never_vanished
returns-in_err-remove_journal-clause-never_vanished g c = let p = err_from_is_err_and c.from_residual.result c.from_residual.ensures.1 in rw (p.1, p.2) (λ t told file. refl)

pub returns-in_err-copy-in-Misplaced-clause-never_vanished : goal.returns-in_err-copy-in-Misplaced-clause-never_vanished
returns-in_err-copy-in-Misplaced-clause-never_vanished g c = let p = err_from_is_err_and c.from_residual-in_err-copy-in-Misplaced.result c.from_residual-in_err-copy-in-Misplaced.ensures.1 in rw (p.1, p.2) (λ t told file. refl)

pub returns-in_ok-copy-in-Misplaced-clause-never_vanished : goal.returns-in_ok-copy-in-Misplaced-clause-never_vanished
returns-in_ok-copy-in-Misplaced-clause-never_vanished g c = λ t told file.
    let done = c.in_ok-remove_journal.ensures.placed t told file in
    let misplaced = c.in-Misplaced.is in
    absurd cc
