use Rattle.std.proofs.Common.{false, ◌∙◌, sym, ap, subst}
use Rattle.std.proofs.lemmas.Result.{err_from_is_err_and}
use Rattle.tree_dev.specs.Changes.{changed}
use Rattle.tree_dev.specs.Steady.{IsStaged}
use Rattle.tree_dev.specs.Trees.{FileTree}
use Rattle.tree_dev.specs.declared.change.Change.TheVariants.{Written}
use Rattle.tree_dev.proofs.SteadyRules.{steady_start, steady_then_barrier, steady_then_write}
use Rattle.install_world.proofs.PartDone.{reads_after, told_still}
use Rattle.vendor_journal.proofs.CallRules.{calls_barrier, calls_change, calls_start}
use Rattle.vendor_journal.proofs.JournalPlaced.{draft_staged, settled_alone, settled_whole}
use Rattle.install_world.proofs.PlacesFree.{placed_is_done}
use Rattle.vendor_journal.proofs.CommitPlaces.{draft_has_place}
use Rattle.vendor_journal.proofs.commits.write_draft.Goals as goal

pub returns-in_err-write-clause-calls : goal.returns-in_err-write-clause-calls
returns-in_err-write-clause-calls g c =
    let p = err_from_is_err_and c.from_residual.result c.from_residual.ensures.1 in
    rw p.1 (calls_change _ _ _ _ _ c.write.ensures.moments (λ failed. c.in_err-write.ensures.cause) (calls_start _))

pub returns-in_err-write-clause-steady : goal.returns-in_err-write-clause-steady
returns-in_err-write-clause-steady g c = λ project is.
    steady_then_write project _ _ _ _ _ c.write.ensures.moments (subst (IsStaged project) (sym is) (draft_staged project)) (steady_start project _)

pub returns-in_err-make_safe-in-Done-clause-calls : goal.returns-in_err-make_safe-in-Done-clause-calls
returns-in_err-make_safe-in-Done-clause-calls g c =
    let p = err_from_is_err_and c.from_residual-in_err-make_safe-in-Done.result c.from_residual-in_err-make_safe-in-Done.ensures.1 in
    rw p.1 (calls_barrier _ _ _ _ c.make_safe.ensures.moments (λ failed. c.in_err-make_safe-in-Done.ensures.cause)
    (calls_change _ _ _ _ _ c.write.ensures.moments (λ failed. absurd cc) (calls_start _)))

pub returns-in_err-make_safe-in-Done-clause-steady : goal.returns-in_err-make_safe-in-Done-clause-steady
returns-in_err-make_safe-in-Done-clause-steady g c = λ project is.
    steady_then_barrier project _ _ _ c.make_safe.ensures.moments
    (steady_then_write project _ _ _ _ _ c.write.ensures.moments (subst (IsStaged project) (sym is) (draft_staged project)) (steady_start project _))

pub returns-in_ok-make_safe-in-Done-clause-calls : goal.returns-in_ok-make_safe-in-Done-clause-calls
returns-in_ok-make_safe-in-Done-clause-calls g c =
    calls_barrier _ _ _ _ c.make_safe.ensures.moments (λ failed. absurd cc)
    (calls_change _ _ _ _ _ c.write.ensures.moments (λ failed. absurd cc) (calls_start _))

pub returns-in_ok-make_safe-in-Done-clause-steady : goal.returns-in_ok-make_safe-in-Done-clause-steady
returns-in_ok-make_safe-in-Done-clause-steady g c = λ project is.
    steady_then_barrier project _ _ _ c.make_safe.ensures.moments
    (steady_then_write project _ _ _ _ _ c.write.ensures.moments (subst (IsStaged project) (sym is) (draft_staged project)) (steady_start project _))

pub returns-in_ok-make_safe-in-Done-clause-written : goal.returns-in_ok-make_safe-in-Done-clause-written
returns-in_ok-make_safe-in-Done-clause-written g c = λ done t told.
    let first = g.T.Tree.meaning c.args.tree.now in
    let second = g.T.Tree.meaning c.write.new.self in
    let third = g.T.Tree.meaning c.make_safe.new.tree in
    let run = calls_change first first second (Written c.args.prepared.now.draft c.as_slice.result.now) false c.write.ensures.moments (λ failed. absurd cc) (calls_start first) in
    let now = told_still first second t run.tells told in
    let adds = c.in_ok-write.ensures.done c.in-Done.is t told in
    let settles = c.in_ok-make_safe-in-Done.ensures.done now.0 now.1 in (
      settled_whole second third settles,
      λ left image.
          settled_alone second third settles left image
          ∙ reads_after first second (Written c.args.prepared.now.draft c.as_slice.result.now) adds
          ∙ ap (λ (u : FileTree). changed u (Written c.args.prepared.now.draft c.as_slice.result.now)) (sym (g.met.T.Tree.tells_its_disk c.args.tree.now t told).reads)
          ∙ ap (λ bytes. changed t (Written c.args.prepared.now.draft bytes)) c.as_slice.ensures,
    )

pub returns-in-Misplaced-clause-calls : goal.returns-in-Misplaced-clause-calls
returns-in-Misplaced-clause-calls g c = calls_change _ _ _ _ _ c.write.ensures.moments (λ failed. absurd cc) (calls_start _)

pub returns-in-Misplaced-clause-steady : goal.returns-in-Misplaced-clause-steady
returns-in-Misplaced-clause-steady g c = λ project is.
    steady_then_write project _ _ _ _ _ c.write.ensures.moments (subst (IsStaged project) (sym is) (draft_staged project)) (steady_start project _)

pub returns-in-Misplaced-clause-fits : goal.returns-in-Misplaced-clause-fits
returns-in-Misplaced-clause-fits g c = λ t told way puts ready.
    let done = placed_is_done t (Written c.args.prepared.now.draft c.as_slice.result.now) c.in_ok-write.field-0 (c.in_ok-write.ensures.answer t told)
    (draft_has_place way puts c.args.prepared.now t (g.met.T.Tree.tells_trees c.args.tree.now t told) ready c.as_slice.result.now) in
    let misplaced = c.in-Misplaced.is in
    absurd cc
