use Rattle.std.proofs.lemmas.Result.{err_from_is_err_and, on_ok_weaker}
use Rattle.tree_dev.proofs.Stretches.{through_on}
use Rattle.install_world.specs.InFlight.{IsInFlight}
use Rattle.install_world.proofs.PartDone.{told_still}
use Rattle.vendor_journal.proofs.CallRules.{calls_none, calls_on}
use Rattle.std.proofs.Common.{◌∙◌, refl}
use Rattle.vendor_journal.proofs.commits.commit.Goals as goal

pub returns-in_err-place_journal-clause-calls : goal.returns-in_err-place_journal-clause-calls
returns-in_err-place_journal-clause-calls g c =
    let p = err_from_is_err_and c.from_residual.result c.from_residual.ensures.1 in rw (p.1, p.2) c.in_err-place_journal.ensures.calls

pub returns-in-Done-clause-calls : goal.returns-in-Done-clause-calls
returns-in-Done-clause-calls g c = calls_on _ _ _ _ (calls_none _ _ _ c.finish.ensures.writes_none) c.in_ok-place_journal.ensures.calls

pub returns-in-Done-clause-through : goal.returns-in-Done-clause-through
returns-in-Done-clause-through g c = λ t told way puts ready each.
    let now = told_still (g.T.Tree.meaning c.args.tree.now) (g.T.Tree.meaning c.place_journal.new.tree) t c.in_ok-place_journal.ensures.calls.tells told in
    let placed = c.in_ok-place_journal.ensures.placed c.in-Done.is t told way puts ready in
    through_on (IsInFlight way.project way.surroundings way.old way.new) _ _ _
    (c.place_journal.ensures.through t told way puts ready each)
    (c.finish.ensures.through now.0 now.1 placed.0 way ready.made_ready placed.1)

pub returns-in-Done-clause-committed : goal.returns-in-Done-clause-committed
returns-in-Done-clause-committed g c = on_ok_weaker c.finish.result
    (λ finished t told way puts ready.
    let now = told_still (g.T.Tree.meaning c.args.tree.now) (g.T.Tree.meaning c.place_journal.new.tree) t c.in_ok-place_journal.ensures.calls.tells told in
    let placed = c.in_ok-place_journal.ensures.placed c.in-Done.is t told way puts ready in
    finished now.0 now.1 placed.0 way ready.made_ready placed.1)
    c.finish.ensures.finished

pub returns-in_err-place_journal-clause-never_vanished : goal.returns-in_err-place_journal-clause-never_vanished
returns-in_err-place_journal-clause-never_vanished g c =
    let p = err_from_is_err_and c.from_residual.result c.from_residual.ensures.1 in rw (p.1, p.2) (λ t told way puts ready each. refl)

pub returns-in-Done-clause-never_vanished : goal.returns-in-Done-clause-never_vanished
returns-in-Done-clause-never_vanished g c = λ t told way puts ready each.
    let now = told_still (g.T.Tree.meaning c.args.tree.now) (g.T.Tree.meaning c.place_journal.new.tree) t c.in_ok-place_journal.ensures.calls.tells told in
    let placed = c.in_ok-place_journal.ensures.placed c.in-Done.is t told way puts ready in
    c.finish.ensures.never_vanished now.0 now.1 placed.0 way ready.made_ready placed.1 (c.in_ok-place_journal.ensures.room c.in-Done.is t told way puts ready)

pub returns-in-Misplaced-clause-never_vanished : goal.returns-in-Misplaced-clause-never_vanished
returns-in-Misplaced-clause-never_vanished g c = λ t told way puts ready each.
    let done = c.in_ok-place_journal.ensures.fits t told way puts ready in
    let misplaced = c.in-Misplaced.is in
    absurd cc

pub returns-in-Done-clause-work : goal.returns-in-Done-clause-work
returns-in-Done-clause-work g c = on_ok_weaker c.finish.result
    (λ work t told way puts ready.
    let now = told_still (g.T.Tree.meaning c.args.tree.now) (g.T.Tree.meaning c.place_journal.new.tree) t c.in_ok-place_journal.ensures.calls.tells told in
    let placed = c.in_ok-place_journal.ensures.placed c.in-Done.is t told way puts ready in
    work now.0 now.1 placed.0 way ready.made_ready placed.1)
    c.finish.ensures.work

pub returns-in-Done-clause-writes : goal.returns-in-Done-clause-writes
returns-in-Done-clause-writes g c = c.finish.ensures.writes_none.writes ∙ c.place_journal.ensures.writes
