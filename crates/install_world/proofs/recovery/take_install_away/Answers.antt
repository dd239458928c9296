use Rattle.std.proofs.Common.{sym, subst}
use Rattle.std.proofs.lemmas.Result.{err_from_is_err_and}
use Rattle.tree_dev.proofs.Stretches.{through_from}
use Rattle.tree_dev.proofs.Whole.{through_then_barrier}
use Rattle.install_world.specs.InFlight.{IsFinishedProject, IsInFlight}
use Rattle.install_world.specs.Removals.{OnlyRemoved}
use Rattle.install_world.proofs.JournalEnds.{in_flight_left}
use Rattle.install_world.proofs.PartCleared.{images_cleared, through_cleared}
use Rattle.install_world.proofs.RecoveryRules.{image_reads, no_bad_removal, writes_none_removing}
use Rattle.install_world.proofs.RemovalRules.{writes_none_barrier, writes_none_on, writes_none_start}
use Rattle.install_world.specs.declared.recovery_fault.Recovered.{Recovered}
use Rattle.std.proofs.Common.{refl, ◌∙◌}
use Rattle.install_world.proofs.PlacesFree.{barrier_told}
use Rattle.install_world.proofs.RecoveryFits.{refused_removal}
use Rattle.install_world.proofs.RecoveryCauses.{no_limit_removal, no_other_removal}
use Rattle.install_world.proofs.FoldersThere.{removal_is_there}
use Rattle.tree_dev.specs.Trees.{FileTree}
use Rattle.tree_dev.specs.Disk.{reading}
use Rattle.install_world.proofs.FinishAgain.{keeps_removed, keeps_settled}
use Rattle.install_world.proofs.PartCleared.{barrier_keeps_reading}
use Rattle.install_world.proofs.recovery.take_install_away.Goals as goal

pub returns-in_err-barrier-clause-writes_none : goal.returns-in_err-barrier-clause-writes_none
returns-in_err-barrier-clause-writes_none g c =
    let p = err_from_is_err_and c.from_residual.result c.from_residual.ensures.1 in
    rw (p.1, p.2) (writes_none_barrier _ _ _ _ c.barrier.ensures.moments c.barrier.ensures.counts (λ failed. c.in_err-barrier.ensures.cause) (writes_none_start _))

pub returns-in_err-barrier-clause-through : goal.returns-in_err-barrier-clause-through
returns-in_err-barrier-clause-through g c = λ t told project surroundings old new is none each.
    through_then_barrier (IsInFlight project surroundings old new) _ _ _ c.barrier.ensures.moments (through_from (IsInFlight project surroundings old new) _ each)

pub returns-in_err-remove_folder-clause-writes_none : goal.returns-in_err-remove_folder-clause-writes_none
returns-in_err-remove_folder-clause-writes_none g c =
    let p = err_from_is_err_and c.from_residual-in_err-remove_folder.result c.from_residual-in_err-remove_folder.ensures.1 in
    rw (p.1, p.2) (writes_none_removing (Unit {0}) Recovered _ _ c.in_err-remove_folder.field-0.0 (writes_none_on _ _ _ _ c.in_err-remove_folder.ensures.writes_none
    (writes_none_barrier _ _ _ _ c.barrier.ensures.moments c.barrier.ensures.counts (λ failed. absurd cc) (writes_none_start _))))

pub returns-in_err-remove_folder-clause-through : goal.returns-in_err-remove_folder-clause-through
returns-in_err-remove_folder-clause-through g c = λ t told project surroundings old new is none each.
    let disk = g.met.T.Tree.tells_its_disk c.args.tree.now t told in
    through_cleared (IsInFlight project surroundings old new) c.args.work.now t
    (λ left removed. in_flight_left project surroundings old new t left (subst (λ at. OnlyRemoved at t left) is removed) none (image_reads (IsInFlight project surroundings old new) (g.T.Tree.meaning c.args.tree.now) t disk each))
    _ _ _ _ (c.in_ok-barrier.ensures.done t told) (sym disk.reads) c.remove_folder.ensures.removes
    (through_then_barrier (IsInFlight project surroundings old new) _ _ _ c.barrier.ensures.moments (through_from (IsInFlight project surroundings old new) _ each))

pub returns-clause-writes_none : goal.returns-clause-writes_none
returns-clause-writes_none g c =
    writes_none_on _ _ _ _ c.in_ok-remove_folder.ensures.writes_none (writes_none_barrier _ _ _ _ c.barrier.ensures.moments c.barrier.ensures.counts (λ failed. absurd cc) (writes_none_start _))

pub returns-clause-through : goal.returns-clause-through
returns-clause-through g c = λ t told project surroundings old new is none each.
    let disk = g.met.T.Tree.tells_its_disk c.args.tree.now t told in
    through_cleared (IsInFlight project surroundings old new) c.args.work.now t
    (λ left removed. in_flight_left project surroundings old new t left (subst (λ at. OnlyRemoved at t left) is removed) none (image_reads (IsInFlight project surroundings old new) (g.T.Tree.meaning c.args.tree.now) t disk each))
    _ _ _ _ (c.in_ok-barrier.ensures.done t told) (sym disk.reads) c.remove_folder.ensures.removes
    (through_then_barrier (IsInFlight project surroundings old new) _ _ _ c.barrier.ensures.moments (through_from (IsInFlight project surroundings old new) _ each))

pub returns-in_err-remove_folder-clause-not_bad : goal.returns-in_err-remove_folder-clause-not_bad
returns-in_err-remove_folder-clause-not_bad g c = λ place is.
    let p = err_from_is_err_and c.from_residual-in_err-remove_folder.result c.from_residual-in_err-remove_folder.ensures.1 in
    let given = p.1 in
    let from = p.2 in
    no_bad_removal c.in_err-remove_folder.field-0.0 place cc

pub returns-clause-left : goal.returns-clause-left
returns-clause-left g c = λ t told.
    images_cleared c.args.work.now t (g.T.Tree.meaning c.args.tree.now) (g.T.Tree.meaning c.barrier.new.self) (g.T.Tree.meaning c.remove_folder.new.tree)
    (c.in_ok-barrier.ensures.done t told) (sym (g.met.T.Tree.tells_its_disk c.args.tree.now t told).reads) c.remove_folder.ensures.removes

pub returns-in_err-barrier-clause-fits : goal.returns-in_err-barrier-clause-fits
returns-in_err-barrier-clause-fits g c = let p = err_from_is_err_and c.from_residual.result c.from_residual.ensures.1 in rw (p.1, p.2) (λ t told stands. refl)

pub returns-in_err-remove_folder-clause-fits : goal.returns-in_err-remove_folder-clause-fits
returns-in_err-remove_folder-clause-fits g c =
    let p = err_from_is_err_and c.from_residual-in_err-remove_folder.result c.from_residual-in_err-remove_folder.ensures.1 in
    rw (p.1, p.2) (λ t told stands.
    refused_removal (Unit {0}) Recovered c.in_err-remove_folder.field-0.0
    (c.in_err-remove_folder.ensures.never_vanished t (barrier_told _ _ c.barrier.ensures.moments ∙ told) stands))

pub returns-in_err-remove_folder-clause-not_other : goal.returns-in_err-remove_folder-clause-not_other
returns-in_err-remove_folder-clause-not_other g c = λ path is.
    let p = err_from_is_err_and c.from_residual-in_err-remove_folder.result c.from_residual-in_err-remove_folder.ensures.1 in
    let given = p.1 in
    let from = p.2 in
    no_other_removal c.in_err-remove_folder.field-0.0 path cc

pub returns-in_err-remove_folder-clause-not_limit : goal.returns-in_err-remove_folder-clause-not_limit
returns-in_err-remove_folder-clause-not_limit g c = λ limit is.
    let p = err_from_is_err_and c.from_residual-in_err-remove_folder.result c.from_residual-in_err-remove_folder.ensures.1 in
    let given = p.1 in
    let from = p.2 in
    no_limit_removal c.in_err-remove_folder.field-0.0 limit cc

pub returns-in_err-barrier-clause-never_vanished : goal.returns-in_err-barrier-clause-never_vanished
returns-in_err-barrier-clause-never_vanished g c = let p = err_from_is_err_and c.from_residual.result c.from_residual.ensures.1 in rw (p.1, p.2) (λ t told stands. refl)

pub returns-in_err-remove_folder-clause-never_vanished : goal.returns-in_err-remove_folder-clause-never_vanished
returns-in_err-remove_folder-clause-never_vanished g c = let p = err_from_is_err_and c.from_residual-in_err-remove_folder.result c.from_residual-in_err-remove_folder.ensures.1 in rw (p.1, p.2) (λ t told stands.
    removal_is_there (Unit {0}) Recovered c.in_err-remove_folder.field-0.0
    (c.in_err-remove_folder.ensures.never_vanished t (barrier_told _ _ c.barrier.ensures.moments ∙ told) stands))

pub returns-in_err-barrier-clause-again : goal.returns-in_err-barrier-clause-again
returns-in_err-barrier-clause-again g c = λ t told project is none.
    keeps_settled project _ _ t (g.met.T.Tree.tells_its_disk c.args.tree.now t told) c.barrier.ensures.moments

pub returns-in_err-remove_folder-clause-again : goal.returns-in_err-remove_folder-clause-again
returns-in_err-remove_folder-clause-again g c = λ t told project is none.
    keeps_removed project c.args.work.now t _ is none
    (subst (λ (w : FileTree). OnlyRemoved c.args.work.now w (reading (g.T.Tree.meaning c.remove_folder.new.tree).disks.now))
    (barrier_keeps_reading (g.T.Tree.meaning c.args.tree.now) (g.T.Tree.meaning c.barrier.new.self) c.barrier.ensures.moments ∙ sym (g.met.T.Tree.tells_its_disk c.args.tree.now t told).reads)
    c.remove_folder.ensures.removes.reads)

pub returns-clause-again : goal.returns-clause-again
returns-clause-again g c = λ t told project is none.
    keeps_removed project c.args.work.now t _ is none
    (subst (λ (w : FileTree). OnlyRemoved c.args.work.now w (reading (g.T.Tree.meaning c.remove_folder.new.tree).disks.now))
    (barrier_keeps_reading (g.T.Tree.meaning c.args.tree.now) (g.T.Tree.meaning c.barrier.new.self) c.barrier.ensures.moments ∙ sym (g.met.T.Tree.tells_its_disk c.args.tree.now t told).reads)
    c.remove_folder.ensures.removes.reads)

pub returns-in_err-barrier-clause-ends : goal.returns-in_err-barrier-clause-ends
returns-in_err-barrier-clause-ends g c = λ t told project files is none each.
    through_then_barrier (λ (left : FileTree). IsFinishedProject project left files) _ _ _ c.barrier.ensures.moments (through_from (λ (left : FileTree). IsFinishedProject project left files) _ each)

pub returns-in_err-remove_folder-clause-ends : goal.returns-in_err-remove_folder-clause-ends
returns-in_err-remove_folder-clause-ends g c = λ t told project files is none each.
    let disk = g.met.T.Tree.tells_its_disk c.args.tree.now t told in
    through_cleared (λ (left : FileTree). IsFinishedProject project left files) c.args.work.now t
    (λ left removed. keeps_removed project c.args.work.now t left is none removed files (image_reads (λ (left : FileTree). IsFinishedProject project left files) (g.T.Tree.meaning c.args.tree.now) t disk each))
    _ _ _ _ (c.in_ok-barrier.ensures.done t told) (sym disk.reads) c.remove_folder.ensures.removes
    (through_then_barrier (λ (left : FileTree). IsFinishedProject project left files) _ _ _ c.barrier.ensures.moments (through_from (λ (left : FileTree). IsFinishedProject project left files) _ each))

pub returns-clause-ends : goal.returns-clause-ends
returns-clause-ends g c = λ t told project files is none each.
    let disk = g.met.T.Tree.tells_its_disk c.args.tree.now t told in
    through_cleared (λ (left : FileTree). IsFinishedProject project left files) c.args.work.now t
    (λ left removed. keeps_removed project c.args.work.now t left is none removed files (image_reads (λ (left : FileTree). IsFinishedProject project left files) (g.T.Tree.meaning c.args.tree.now) t disk each))
    _ _ _ _ (c.in_ok-barrier.ensures.done t told) (sym disk.reads) c.remove_folder.ensures.removes
    (through_then_barrier (λ (left : FileTree). IsFinishedProject project left files) _ _ _ c.barrier.ensures.moments (through_from (λ (left : FileTree). IsFinishedProject project left files) _ each))
