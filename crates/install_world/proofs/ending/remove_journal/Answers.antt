use Rattle.std.proofs.Common.{refl, false}
use Rattle.std.proofs.lemmas.Result.{err_from_is_err_and}
use Rattle.tree_dev.proofs.Whole.{through_then_barrier}
use Rattle.tree_dev.specs.declared.change.Change.TheVariants.{FileRemoved}
use Rattle.install_world.specs.InFlight.{IsInFlight}
use Rattle.install_world.proofs.JournalEnds.{ends_in_flight, ends_new, still_in_flight}
use Rattle.install_world.proofs.PartDone.{told_still}
use Rattle.install_world.proofs.RemovalRules.{writes_none_barrier, writes_none_change, writes_none_start}
use Rattle.std.proofs.Common.{◌∙◌}
use Rattle.install_world.proofs.PlacesFree.{barrier_told, journal_has_place, placed_is_done}
use Rattle.std.proofs.Common.{ap, sym}
use Rattle.std.specs.FinMap as map
use Rattle.tree_dev.specs.Trees.{FileTree}
use Rattle.install_world.proofs.LeavesGone.{file_else}
use Rattle.install_world.proofs.PlacesFree.{told_changed}
use Rattle.install_world.proofs.FinishSteps.{images_without}
use Rattle.install_world.proofs.FoldersThere.{file_has_place}
use Rattle.install_world.proofs.FinishAgain.{file_goes}
use Rattle.install_world.proofs.PartCleared.{removed_barrier}
use Rattle.install_world.proofs.RemovalRules.{removed_on}
use Rattle.install_world.specs.Recovery.{IsEnding}
use Rattle.install_world.proofs.EndsAlike.{ends_on_the_way, still_ending}
use Rattle.install_world.proofs.ending.remove_journal.Goals as goal

pub returns-in_err-barrier-clause-writes_none : goal.returns-in_err-barrier-clause-writes_none
returns-in_err-barrier-clause-writes_none g c =
    let p = err_from_is_err_and c.from_residual.result c.from_residual.ensures.1 in
    rw p.1 (writes_none_barrier _ _ _ _ c.barrier.ensures.moments c.barrier.ensures.counts (λ failed. c.in_err-barrier.ensures.cause) (writes_none_start _))

pub returns-in_err-barrier-clause-through : goal.returns-in_err-barrier-clause-through
returns-in_err-barrier-clause-through g c = λ t told whole way is done each.
    still_in_flight way _ _ t (g.met.T.Tree.tells_its_disk c.args.tree.now t told) c.barrier.ensures.moments each

pub returns-in_err-remove_file-clause-writes_none : goal.returns-in_err-remove_file-clause-writes_none
returns-in_err-remove_file-clause-writes_none g c =
    let p = err_from_is_err_and c.from_residual-in_err-remove_file.result c.from_residual-in_err-remove_file.ensures.1 in
    rw p.1 (writes_none_change _ _ _ _ _ c.remove_file.ensures.moments refl c.remove_file.ensures.counts (λ failed. c.in_err-remove_file.ensures.cause)
    (writes_none_barrier _ _ _ _ c.barrier.ensures.moments c.barrier.ensures.counts (λ failed. absurd cc) (writes_none_start _)))

pub returns-in_err-remove_file-clause-through : goal.returns-in_err-remove_file-clause-through
returns-in_err-remove_file-clause-through g c = λ t told whole way is done each.
    ends_in_flight way _ _ t (g.met.T.Tree.tells_its_disk c.args.tree.now t told) c.barrier.ensures.moments _ c.args.journal.now c.remove_file.ensures.moments
    (g.met.T.Tree.tells_trees c.args.tree.now t told) whole is done each

pub returns-in_err-barrier-in-Done-clause-writes_none : goal.returns-in_err-barrier-in-Done-clause-writes_none
returns-in_err-barrier-in-Done-clause-writes_none g c =
    let p = err_from_is_err_and c.from_residual-in_err-barrier-in-Done.result c.from_residual-in_err-barrier-in-Done.ensures.1 in
    rw p.1 (writes_none_barrier _ _ _ _ c.barrier-in-Done.ensures.moments c.barrier-in-Done.ensures.counts (λ failed. c.in_err-barrier-in-Done.ensures.cause)
    (writes_none_change _ _ _ _ _ c.remove_file.ensures.moments refl c.remove_file.ensures.counts (λ failed. absurd cc)
    (writes_none_barrier _ _ _ _ c.barrier.ensures.moments c.barrier.ensures.counts (λ failed. absurd cc) (writes_none_start _))))

pub returns-in_err-barrier-in-Done-clause-through : goal.returns-in_err-barrier-in-Done-clause-through
returns-in_err-barrier-in-Done-clause-through g c = λ t told whole way is done each.
    through_then_barrier (IsInFlight way.project way.surroundings way.old way.new) _ _ _ c.barrier-in-Done.ensures.moments
    (ends_in_flight way _ _ t (g.met.T.Tree.tells_its_disk c.args.tree.now t told) c.barrier.ensures.moments _ c.args.journal.now c.remove_file.ensures.moments
    (g.met.T.Tree.tells_trees c.args.tree.now t told) whole is done each)

pub returns-in_ok-barrier-in-Done-clause-writes_none : goal.returns-in_ok-barrier-in-Done-clause-writes_none
returns-in_ok-barrier-in-Done-clause-writes_none g c =
    writes_none_barrier _ _ _ _ c.barrier-in-Done.ensures.moments c.barrier-in-Done.ensures.counts (λ failed. absurd cc)
    (writes_none_change _ _ _ _ _ c.remove_file.ensures.moments refl c.remove_file.ensures.counts (λ failed. absurd cc)
    (writes_none_barrier _ _ _ _ c.barrier.ensures.moments c.barrier.ensures.counts (λ failed. absurd cc) (writes_none_start _)))

pub returns-in_ok-barrier-in-Done-clause-through : goal.returns-in_ok-barrier-in-Done-clause-through
returns-in_ok-barrier-in-Done-clause-through g c = λ t told whole way is done each.
    through_then_barrier (IsInFlight way.project way.surroundings way.old way.new) _ _ _ c.barrier-in-Done.ensures.moments
    (ends_in_flight way _ _ t (g.met.T.Tree.tells_its_disk c.args.tree.now t told) c.barrier.ensures.moments _ c.args.journal.now c.remove_file.ensures.moments
    (g.met.T.Tree.tells_trees c.args.tree.now t told) whole is done each)

pub returns-in_ok-barrier-in-Done-clause-settled : goal.returns-in_ok-barrier-in-Done-clause-settled
returns-in_ok-barrier-in-Done-clause-settled g c = λ ended t told way is done on.
    let first = g.T.Tree.meaning c.args.tree.now in
    let second = g.T.Tree.meaning c.barrier.new.self in
    let third = g.T.Tree.meaning c.remove_file.new.self in
    let settled = writes_none_barrier first first second false c.barrier.ensures.moments c.barrier.ensures.counts (λ failed. absurd cc) (writes_none_start first) in
    let removed = writes_none_change first second third (FileRemoved c.args.journal.now) false c.remove_file.ensures.moments refl c.remove_file.ensures.counts (λ failed. absurd cc) settled in
    let now = told_still first second t settled.tells told in
    let then = told_still first third t removed.tells told in
    ends_new way first second t (g.met.T.Tree.tells_its_disk c.args.tree.now t told) c.barrier.ensures.moments third _ c.args.journal.now
    (c.in_ok-remove_file.ensures.done c.in-Done.is now.0 now.1) (c.in_ok-barrier-in-Done.ensures.done then.0 then.1)
    (g.met.T.Tree.tells_trees c.args.tree.now t told) is done on

pub returns-in-Misplaced-clause-writes_none : goal.returns-in-Misplaced-clause-writes_none
returns-in-Misplaced-clause-writes_none g c =
    writes_none_change _ _ _ _ _ c.remove_file.ensures.moments refl c.remove_file.ensures.counts (λ failed. absurd cc)
    (writes_none_barrier _ _ _ _ c.barrier.ensures.moments c.barrier.ensures.counts (λ failed. absurd cc) (writes_none_start _))

pub returns-in-Misplaced-clause-through : goal.returns-in-Misplaced-clause-through
returns-in-Misplaced-clause-through g c = λ t told whole way is done each.
    ends_in_flight way _ _ t (g.met.T.Tree.tells_its_disk c.args.tree.now t told) c.barrier.ensures.moments _ c.args.journal.now c.remove_file.ensures.moments
    (g.met.T.Tree.tells_trees c.args.tree.now t told) whole is done each

pub returns-in-Misplaced-clause-fits : goal.returns-in-Misplaced-clause-fits
returns-in-Misplaced-clause-fits g c = λ t told way is stands.
    let done = placed_is_done t (FileRemoved c.args.journal.now) c.in_ok-remove_file.field-0
    (c.in_ok-remove_file.ensures.answer t (barrier_told _ _ c.barrier.ensures.moments ∙ told)) (journal_has_place way t c.args.journal.now is stands) in
    let misplaced = c.in-Misplaced.is in
    absurd cc

pub returns-in_ok-barrier-in-Done-clause-others : goal.returns-in_ok-barrier-in-Done-clause-others
returns-in_ok-barrier-in-Done-clause-others g c = λ done t told u now path differs.
    let removed = told_changed _ _ t u (FileRemoved c.args.journal.now)
    (c.in_ok-remove_file.ensures.done c.in-Done.is t (barrier_told _ _ c.barrier.ensures.moments ∙ told)).told
    (barrier_told _ _ c.barrier.ensures.moments ∙ told) (sym (barrier_told _ _ c.barrier-in-Done.ensures.moments) ∙ now) in
    ap (λ (w : FileTree). map.get w path) (sym removed) ∙ file_else t c.args.journal.now path differs

pub returns-in_ok-barrier-in-Done-clause-left : goal.returns-in_ok-barrier-in-Done-clause-left
returns-in_ok-barrier-in-Done-clause-left g c = λ done t told.
    let first = g.T.Tree.meaning c.args.tree.now in
    let second = g.T.Tree.meaning c.barrier.new.self in
    let third = g.T.Tree.meaning c.remove_file.new.self in
    let settled = writes_none_barrier first first second false c.barrier.ensures.moments c.barrier.ensures.counts (λ failed. absurd cc) (writes_none_start first) in
    let removed = writes_none_change first second third (FileRemoved c.args.journal.now) false c.remove_file.ensures.moments refl c.remove_file.ensures.counts (λ failed. absurd cc) settled in
    let now = told_still first second t settled.tells told in
    let then = told_still first third t removed.tells told in
    images_without first second third _ t c.args.journal.now (g.met.T.Tree.tells_its_disk c.args.tree.now t told) c.barrier.ensures.moments
    (c.in_ok-remove_file.ensures.done c.in-Done.is now.0 now.1) (c.in_ok-barrier-in-Done.ensures.done then.0 then.1)

pub returns-in-Misplaced-clause-placed : goal.returns-in-Misplaced-clause-placed
returns-in-Misplaced-clause-placed g c = λ t told file.
    let done = placed_is_done t (FileRemoved c.args.journal.now) c.in_ok-remove_file.field-0
    (c.in_ok-remove_file.ensures.answer t (barrier_told _ _ c.barrier.ensures.moments ∙ told)) (file_has_place t c.args.journal.now file) in
    let misplaced = c.in-Misplaced.is in
    absurd cc

pub returns-in_err-barrier-clause-removes : goal.returns-in_err-barrier-clause-removes
returns-in_err-barrier-clause-removes g c = removed_barrier c.args.journal.now _ _ c.barrier.ensures.moments

pub returns-in_err-remove_file-clause-removes : goal.returns-in_err-remove_file-clause-removes
returns-in_err-remove_file-clause-removes g c = removed_on c.args.journal.now _ _ _ (removed_barrier c.args.journal.now _ _ c.barrier.ensures.moments) (file_goes _ _ c.args.journal.now c.remove_file.ensures.moments)

pub returns-in-Misplaced-clause-removes : goal.returns-in-Misplaced-clause-removes
returns-in-Misplaced-clause-removes g c = removed_on c.args.journal.now _ _ _ (removed_barrier c.args.journal.now _ _ c.barrier.ensures.moments) (file_goes _ _ c.args.journal.now c.remove_file.ensures.moments)

pub returns-in_err-barrier-in-Done-clause-removes : goal.returns-in_err-barrier-in-Done-clause-removes
returns-in_err-barrier-in-Done-clause-removes g c =
    removed_on c.args.journal.now _ _ _ (removed_on c.args.journal.now _ _ _ (removed_barrier c.args.journal.now _ _ c.barrier.ensures.moments) (file_goes _ _ c.args.journal.now c.remove_file.ensures.moments))
    (removed_barrier c.args.journal.now _ _ c.barrier-in-Done.ensures.moments)

pub returns-in_ok-barrier-in-Done-clause-removes : goal.returns-in_ok-barrier-in-Done-clause-removes
returns-in_ok-barrier-in-Done-clause-removes g c =
    removed_on c.args.journal.now _ _ _ (removed_on c.args.journal.now _ _ _ (removed_barrier c.args.journal.now _ _ c.barrier.ensures.moments) (file_goes _ _ c.args.journal.now c.remove_file.ensures.moments))
    (removed_barrier c.args.journal.now _ _ c.barrier-in-Done.ensures.moments)

pub returns-in_err-barrier-clause-ends : goal.returns-in_err-barrier-clause-ends
returns-in_err-barrier-clause-ends g c = λ t told whole way is done each.
    still_ending way _ _ t (g.met.T.Tree.tells_its_disk c.args.tree.now t told) c.barrier.ensures.moments each

pub returns-in_err-remove_file-clause-ends : goal.returns-in_err-remove_file-clause-ends
returns-in_err-remove_file-clause-ends g c = λ t told whole way is done each.
    ends_on_the_way way _ _ t (g.met.T.Tree.tells_its_disk c.args.tree.now t told) c.barrier.ensures.moments _ c.args.journal.now c.remove_file.ensures.moments
    (g.met.T.Tree.tells_trees c.args.tree.now t told) whole is done each

pub returns-in_err-barrier-in-Done-clause-ends : goal.returns-in_err-barrier-in-Done-clause-ends
returns-in_err-barrier-in-Done-clause-ends g c = λ t told whole way is done each.
    through_then_barrier (IsEnding way) _ _ _ c.barrier-in-Done.ensures.moments
    (ends_on_the_way way _ _ t (g.met.T.Tree.tells_its_disk c.args.tree.now t told) c.barrier.ensures.moments _ c.args.journal.now c.remove_file.ensures.moments
    (g.met.T.Tree.tells_trees c.args.tree.now t told) whole is done each)

pub returns-in_ok-barrier-in-Done-clause-ends : goal.returns-in_ok-barrier-in-Done-clause-ends
returns-in_ok-barrier-in-Done-clause-ends g c = λ t told whole way is done each.
    through_then_barrier (IsEnding way) _ _ _ c.barrier-in-Done.ensures.moments
    (ends_on_the_way way _ _ t (g.met.T.Tree.tells_its_disk c.args.tree.now t told) c.barrier.ensures.moments _ c.args.journal.now c.remove_file.ensures.moments
    (g.met.T.Tree.tells_trees c.args.tree.now t told) whole is done each)

pub returns-in-Misplaced-clause-ends : goal.returns-in-Misplaced-clause-ends
returns-in-Misplaced-clause-ends g c = λ t told whole way is done each.
    ends_on_the_way way _ _ t (g.met.T.Tree.tells_its_disk c.args.tree.now t told) c.barrier.ensures.moments _ c.args.journal.now c.remove_file.ensures.moments
    (g.met.T.Tree.tells_trees c.args.tree.now t told) whole is done each
