use Rattle.std.proofs.Common.{◌∙◌}
use Rattle.std.proofs.lemmas.Result.{IfOk-weaker, err_from_is_err_and}
use Rattle.tree_dev.proofs.Stretches.{through_then_through}
use Rattle.install_world.specs.InFlight.{IsInFlight}
use Rattle.install_world.proofs.PartDone.{told_still}
use Rattle.vendor_journal.proofs.CallRules.{calls_on}
use Rattle.vendor_journal.proofs.JournalPlaced.{steady_in_flight}
use Rattle.vendor_journal.proofs.commits.place_journal.Goals as goal

pub returns-in_err-write_draft-clause-calls : goal.returns-in_err-write_draft-clause-calls
returns-in_err-write_draft-clause-calls g c =
    let p = err_from_is_err_and c.from_residual.result c.from_residual.ensures.1 in rw p.1 c.in_err-write_draft.ensures.calls

pub returns-in_err-write_draft-clause-through : goal.returns-in_err-write_draft-clause-through
returns-in_err-write_draft-clause-through g c = λ t told way puts ready each.
    steady_in_flight way puts c.args.prepared.now t ready _ _ each (c.write_draft.ensures.steady way.project ready.made_ready.draft_is)

pub returns-in-Done-clause-calls : goal.returns-in-Done-clause-calls
returns-in-Done-clause-calls g c = calls_on _ _ _ _ c.name_draft.ensures.calls c.in_ok-write_draft.ensures.calls

pub returns-in-Done-clause-through : goal.returns-in-Done-clause-through
returns-in-Done-clause-through g c = λ t told way puts ready each.
    let found = c.in_ok-write_draft.ensures.written c.in-Done.is t told in
    through_then_through (IsInFlight way.project way.surroundings way.old way.new) _ _ _
    (c.name_draft.ensures.through way puts t ready found.0 found.1)
    (steady_in_flight way puts c.args.prepared.now t ready _ _ each (c.write_draft.ensures.steady way.project ready.made_ready.draft_is))

pub returns-in-Done-clause-placed : goal.returns-in-Done-clause-placed
returns-in-Done-clause-placed g c = IfOk-weaker c.name_draft.result _ _
    (λ did named is t told way puts ready.
    let now = told_still (g.T.Tree.meaning c.args.tree.now) (g.T.Tree.meaning c.write_draft.new.tree) t c.in_ok-write_draft.ensures.calls.tells told in
    named is now.0 now.1 way puts t ready (c.in_ok-write_draft.ensures.written c.in-Done.is t told).1)
    c.name_draft.ensures.named

pub returns-in-Misplaced-clause-through : goal.returns-in-Misplaced-clause-through
returns-in-Misplaced-clause-through g c = λ t told way puts ready each.
    steady_in_flight way puts c.args.prepared.now t ready _ _ each (c.write_draft.ensures.steady way.project ready.made_ready.draft_is)

pub returns-in-Done-clause-room : goal.returns-in-Done-clause-room
returns-in-Done-clause-room g c = IfOk-weaker c.name_draft.result _ _
    (λ did named is t told way puts ready.
    let now = told_still (g.T.Tree.meaning c.args.tree.now) (g.T.Tree.meaning c.write_draft.new.tree) t c.in_ok-write_draft.ensures.calls.tells told in
    named is now.0 now.1 way puts t ready (c.in_ok-write_draft.ensures.written c.in-Done.is t told).1)
    c.name_draft.ensures.room

pub returns-in-Done-clause-fits : goal.returns-in-Done-clause-fits
returns-in-Done-clause-fits g c = IfOk-weaker c.name_draft.result _ _
    (λ did named t told way puts ready.
    let now = told_still (g.T.Tree.meaning c.args.tree.now) (g.T.Tree.meaning c.write_draft.new.tree) t c.in_ok-write_draft.ensures.calls.tells told in
    named now.0 now.1 way puts t (g.met.T.Tree.tells_trees c.args.tree.now t told) ready (c.in_ok-write_draft.ensures.written c.in-Done.is t told).1)
    c.name_draft.ensures.fits

pub returns-in-Misplaced-clause-fits : goal.returns-in-Misplaced-clause-fits
returns-in-Misplaced-clause-fits g c = λ t told way puts ready.
    let done = c.in_ok-write_draft.ensures.fits t told way puts ready in
    let misplaced = c.in-Misplaced.is in
    absurd cc

pub returns-in-Done-clause-writes : goal.returns-in-Done-clause-writes
returns-in-Done-clause-writes g c = c.name_draft.ensures.writes ∙ c.write_draft.ensures.writes
