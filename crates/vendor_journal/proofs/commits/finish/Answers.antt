use Rattle.std.proofs.Common.{refl, sym, subst, ◌∙◌}
use Rattle.std.proofs.lemmas.Result.{err_from_is_err_and}
use Rattle.tree_dev.specs.Projects.{work_path}
use Rattle.tree_dev.proofs.Stretches.{through_ends}
use Rattle.install_world.specs.InFlight.{AreAllDone}
use Rattle.install_world.specs.Moving.{IsOnWay}
use Rattle.install_world.proofs.JournalEnds.{nothing_more, way_then}
use Rattle.install_world.proofs.PartDone.{told_still}
use Rattle.install_world.proofs.FoldersThere.{old_work}
use Rattle.install_world.proofs.PartFinish.{way_old_folder, way_reads}
use Rattle.install_world.proofs.RemovalRules.{writes_none_on}
use Rattle.install_world.proofs.RoomMade.{work_not_journal}
use Rattle.vendor_journal.specs.Prepared.{ArePrepared}
use Rattle.vendor_journal.proofs.commits.finish.Goals as goal

pub returns-in_err-move_parts-clause-writes_none : goal.returns-in_err-move_parts-clause-writes_none
returns-in_err-move_parts-clause-writes_none g c =
    let p = err_from_is_err_and c.from_residual.result c.from_residual.ensures.1 in rw (p.1, p.2) c.in_err-move_parts.ensures.writes_none

pub returns-in_err-move_parts-clause-through : goal.returns-in_err-move_parts-clause-through
returns-in_err-move_parts-clause-through g c = λ t told whole way is each.
    way_then way _ _ _ (c.move_parts.ensures.through t told whole way (subst (ArePrepared way.project way.journal.targets) (sym c.as_slice.ensures.value) is.parts_are) each)
    (λ now. nothing_more way _ now)

pub returns-in_err-remove_journal-clause-writes_none : goal.returns-in_err-remove_journal-clause-writes_none
returns-in_err-remove_journal-clause-writes_none g c =
    let p = err_from_is_err_and c.from_residual-in_err-remove_journal.result c.from_residual-in_err-remove_journal.ensures.1 in
    rw (p.1, p.2) (writes_none_on _ _ _ _ c.in_err-remove_journal.ensures.writes_none c.in_ok-move_parts.ensures.writes_none)

pub returns-in_err-remove_journal-clause-through : goal.returns-in_err-remove_journal-clause-through
returns-in_err-remove_journal-clause-through g c = λ t told whole way is each.
    let first = g.T.Tree.meaning c.args.tree.now in
    let second = g.T.Tree.meaning c.move_parts.new.tree in
    let parts = subst (ArePrepared way.project way.journal.targets) (sym c.as_slice.ensures.value) is.parts_are in
    let now = told_still first second t c.move_parts.ensures.writes_none.tells told in
    let disk = g.met.T.Tree.tells_its_disk c.move_parts.new.tree now.0 now.1 in
    let done = subst (AreAllDone way.project way.journal.targets) (sym disk.reads) (c.in_ok-move_parts.ensures.done t told whole way parts each) in
    way_then way first second _ (c.move_parts.ensures.through t told whole way parts each)
    (λ each_now. c.remove_journal.ensures.through now.0 now.1 (c.move_parts.ensures.writes_none.whole whole) way is.at_is done each_now)

pub returns-in-Done-clause-writes_none : goal.returns-in-Done-clause-writes_none
returns-in-Done-clause-writes_none g c = writes_none_on _ _ _ _ c.in_ok-remove_journal.ensures.writes_none c.in_ok-move_parts.ensures.writes_none

pub returns-in-Done-clause-through : goal.returns-in-Done-clause-through
returns-in-Done-clause-through g c = λ t told whole way is each.
    let first = g.T.Tree.meaning c.args.tree.now in
    let second = g.T.Tree.meaning c.move_parts.new.tree in
    let parts = subst (ArePrepared way.project way.journal.targets) (sym c.as_slice.ensures.value) is.parts_are in
    let now = told_still first second t c.move_parts.ensures.writes_none.tells told in
    let disk = g.met.T.Tree.tells_its_disk c.move_parts.new.tree now.0 now.1 in
    let done = subst (AreAllDone way.project way.journal.targets) (sym disk.reads) (c.in_ok-move_parts.ensures.done t told whole way parts each) in
    way_then way first second _ (c.move_parts.ensures.through t told whole way parts each)
    (λ each_now. c.remove_journal.ensures.through now.0 now.1 (c.move_parts.ensures.writes_none.whole whole) way is.at_is done each_now)

pub returns-in-Done-clause-finished : goal.returns-in-Done-clause-finished
returns-in-Done-clause-finished g c = λ t told whole way is each.
    let first = g.T.Tree.meaning c.args.tree.now in
    let second = g.T.Tree.meaning c.move_parts.new.tree in
    let parts = subst (ArePrepared way.project way.journal.targets) (sym c.as_slice.ensures.value) is.parts_are in
    let now = told_still first second t c.move_parts.ensures.writes_none.tells told in
    let disk = g.met.T.Tree.tells_its_disk c.move_parts.new.tree now.0 now.1 in
    let done = subst (AreAllDone way.project way.journal.targets) (sym disk.reads) (c.in_ok-move_parts.ensures.done t told whole way parts each) in
    c.in_ok-remove_journal.ensures.settled c.in-Done.is now.0 now.1 way is.at_is done
    (way_reads way second now.0 disk (through_ends (IsOnWay way) first second (c.move_parts.ensures.through t told whole way parts each)))

pub returns-in-Misplaced-clause-writes_none : goal.returns-in-Misplaced-clause-writes_none
returns-in-Misplaced-clause-writes_none g c = writes_none_on _ _ _ _ c.in_ok-remove_journal.ensures.writes_none c.in_ok-move_parts.ensures.writes_none

pub returns-in-Misplaced-clause-through : goal.returns-in-Misplaced-clause-through
returns-in-Misplaced-clause-through g c = λ t told whole way is each.
    let first = g.T.Tree.meaning c.args.tree.now in
    let second = g.T.Tree.meaning c.move_parts.new.tree in
    let parts = subst (ArePrepared way.project way.journal.targets) (sym c.as_slice.ensures.value) is.parts_are in
    let now = told_still first second t c.move_parts.ensures.writes_none.tells told in
    let disk = g.met.T.Tree.tells_its_disk c.move_parts.new.tree now.0 now.1 in
    let done = subst (AreAllDone way.project way.journal.targets) (sym disk.reads) (c.in_ok-move_parts.ensures.done t told whole way parts each) in
    way_then way first second _ (c.move_parts.ensures.through t told whole way parts each)
    (λ each_now. c.remove_journal.ensures.through now.0 now.1 (c.move_parts.ensures.writes_none.whole whole) way is.at_is done each_now)

pub returns-in_err-move_parts-clause-never_vanished : goal.returns-in_err-move_parts-clause-never_vanished
returns-in_err-move_parts-clause-never_vanished g c =
    let p = err_from_is_err_and c.from_residual.result c.from_residual.ensures.1 in
    rw (p.1, p.2) (λ t told whole way is each room.
    c.in_err-move_parts.ensures.never_vanished t told whole way (subst (ArePrepared way.project way.journal.targets) (sym c.as_slice.ensures.value) is.parts_are) each room)

pub returns-in_err-remove_journal-clause-never_vanished : goal.returns-in_err-remove_journal-clause-never_vanished
returns-in_err-remove_journal-clause-never_vanished g c =
    let p = err_from_is_err_and c.from_residual-in_err-remove_journal.result c.from_residual-in_err-remove_journal.ensures.1 in
    rw (p.1, p.2) (λ t told whole way is each room. refl)

pub returns-in-Misplaced-clause-never_vanished : goal.returns-in-Misplaced-clause-never_vanished
returns-in-Misplaced-clause-never_vanished g c = λ t told whole way is each room.
    let first = g.T.Tree.meaning c.args.tree.now in
    let second = g.T.Tree.meaning c.move_parts.new.tree in
    let parts = subst (ArePrepared way.project way.journal.targets) (sym c.as_slice.ensures.value) is.parts_are in
    let now = told_still first second t c.move_parts.ensures.writes_none.tells told in
    let disk = g.met.T.Tree.tells_its_disk c.move_parts.new.tree now.0 now.1 in
    let on = way_reads way second now.0 disk (through_ends (IsOnWay way) first second (c.move_parts.ensures.through t told whole way parts each)) in
    let done = c.in_ok-remove_journal.ensures.fits now.0 now.1 way is.at_is on.stands in
    let misplaced = c.in-Misplaced.is in
    absurd cc

pub returns-in-Done-clause-work : goal.returns-in-Done-clause-work
returns-in-Done-clause-work g c = λ t told whole way is each u after.
    let first = g.T.Tree.meaning c.args.tree.now in
    let second = g.T.Tree.meaning c.move_parts.new.tree in
    let parts = subst (ArePrepared way.project way.journal.targets) (sym c.as_slice.ensures.value) is.parts_are in
    let now = told_still first second t c.move_parts.ensures.writes_none.tells told in
    let disk = g.met.T.Tree.tells_its_disk c.move_parts.new.tree now.0 now.1 in
    let on = way_reads way second now.0 disk (through_ends (IsOnWay way) first second (c.move_parts.ensures.through t told whole way parts each)) in
    c.in_ok-remove_journal.ensures.others c.in-Done.is now.0 now.1 u after (work_path way.project) (λ e. work_not_journal way.project (e ∙ is.at_is))
    ∙ old_work way.project now.0 (g.met.T.Tree.tells_trees c.move_parts.new.tree now.0 now.1) (way_old_folder way now.0 on)
