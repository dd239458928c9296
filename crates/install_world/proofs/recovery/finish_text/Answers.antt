use Rattle.std.proofs.Common.{◌≡◌, refl, ap, Err, ◌∙◌, sym, subst, Some}
use Rattle.std.specs.FinMap as map
use Rattle.std.proofs.lemmas.Result.{err_from_is_err_and}
use Rattle.tree_dev.specs.Device.{only_read_refl}
use Rattle.tree_dev.specs.Disk.{Disks}
use Rattle.tree_dev.specs.Steady.{IsWhole}
use Rattle.tree_dev.specs.declared.entry.Entry.TheVariants.{File}
use Rattle.tree_dev.proofs.Stretches.{through_from, through_on}
use Rattle.tree_dev.proofs.Whole.{settled_is_whole, through_then_barrier}
use Rattle.install_world.specs.InFlight.{IsInFlight}
use Rattle.install_world.specs.Moving.{IsOnWay}
use Rattle.install_world.proofs.JournalEnds.{new_through, then_work_goes}
use Rattle.install_world.proofs.RecoveryRules.{bad_journal_of, image_reads, no_bad_part, no_bad_removal, settled_images, way_begins, way_of, writes_none_parting, writes_none_removing, writes_none_text}
use Rattle.install_world.specs.Recovery.{fault_of_journal, fault_of_part}
use Rattle.install_world.specs.declared.recovery_fault.RecoverFault.TheVariants.{BadJournal, OtherEntry}
use Rattle.install_world.specs.InFlight.{finished_by}
use Rattle.install_world.proofs.FinishSteps.{finished_project, recovered_goes, stands_by}
use Rattle.install_world.proofs.PlacesFree.{barrier_told}
use Rattle.install_world.proofs.RecoveryCauses.{no_limit_journal, no_limit_part, no_limit_removal, no_other_journal, no_other_removal, other_part}
use Rattle.install_world.proofs.RemovalRules.{writes_none_barrier, writes_none_on, writes_none_start}
use Rattle.install_world.specs.declared.recovery_fault.Recovered.{Recovered}
use Rattle.std.proofs.Common.{refl}
use Rattle.tree_dev.specs.declared.entry.Entry.TheVariants.{Folder}
use Rattle.install_world.proofs.PartDone.{told_still}
use Rattle.install_world.proofs.RecoveryFits.{journal_not_bad, refused_journal, refused_part, refused_removal}
use Rattle.install_world.proofs.FoldersThere.{journal_is_there, part_is_there, removal_is_there}
use Rattle.install_world.proofs.FinishAgain.{keeps_ended, keeps_same, keeps_settled}
use Rattle.tree_dev.specs.Disk.{reading}
use Rattle.install_world.specs.Finishing.{StopsAt}
use Rattle.install_world.specs.declared.journal.Journal.{Journal}
use Rattle.install_world.proofs.OneJournal.{one_journal}
use Rattle.std.proofs.Common.{inr}
use Rattle.tree_dev.specs.Trees.{FileTree}
use Rattle.install_world.specs.InFlight.{IsFinishedProject}
use Rattle.install_world.specs.Recovery.{IsNewProject}
use Rattle.install_world.proofs.EndsAlike.{ending_is_finished, ends_finished, ends_fit}
use Rattle.install_world.proofs.JournalEnds.{through_weaker}
use Rattle.install_world.specs.JournalText.{IsJournalText}
use Rattle.install_world.proofs.AtOnce.{read_text_only, refused_text}
use Rattle.install_world.proofs.Places.{one_place}
use Rattle.install_world.specs.InFlight.{IsPart}
use Rattle.install_world.proofs.recovery.finish_text.Goals as goal

pub returns-in_err-journal-clause-writes_none : goal.returns-in_err-journal-clause-writes_none
returns-in_err-journal-clause-writes_none g c =
    let p = err_from_is_err_and c.from_residual.result c.from_residual.ensures.1 in
    rw (p.1, p.2) (writes_none_text Recovered _ _ c.in_err-journal.field-0.0 (writes_none_start _))

pub returns-in_err-journal-clause-through : goal.returns-in_err-journal-clause-through
returns-in_err-journal-clause-through g c = λ t told surroundings old new is_work is_at there small each. through_from (IsInFlight c.args.project.now surroundings old new) _ each

pub returns-in_err-journal-clause-bad : goal.returns-in_err-journal-clause-bad
returns-in_err-journal-clause-bad g c = λ place is.
    let p = err_from_is_err_and c.from_residual.result c.from_residual.ensures.1 in
    let given = p.1 in
    let from = p.2 in
    let same : fault_of_journal c.in_err-journal.field-0.0 ≡ BadJournal place = cc in
    (c.in_err-journal.ensures.bad place (ap Err (bad_journal_of c.in_err-journal.field-0.0 place same)), only_read_refl _)

pub returns-in_err-barrier-clause-writes_none : goal.returns-in_err-barrier-clause-writes_none
returns-in_err-barrier-clause-writes_none g c =
    let p = err_from_is_err_and c.from_residual-in_err-barrier.result c.from_residual-in_err-barrier.ensures.1 in
    rw (p.1, p.2) (writes_none_barrier _ _ _ _ c.barrier.ensures.moments c.barrier.ensures.counts (λ failed. c.in_err-barrier.ensures.cause) (writes_none_start _))

pub returns-in_err-barrier-clause-through : goal.returns-in_err-barrier-clause-through
returns-in_err-barrier-clause-through g c = λ t told surroundings old new is_work is_at there small each.
    through_then_barrier (IsInFlight c.args.project.now surroundings old new) _ _ _ c.barrier.ensures.moments (through_from (IsInFlight c.args.project.now surroundings old new) _ each)

pub returns-in_err-finish_journal-clause-writes_none : goal.returns-in_err-finish_journal-clause-writes_none
returns-in_err-finish_journal-clause-writes_none g c =
    let p = err_from_is_err_and c.from_residual-in_err-finish_journal.result c.from_residual-in_err-finish_journal.ensures.1 in
    rw (p.1, p.2) (writes_none_parting (Unit {0}) Recovered _ _ c.in_err-finish_journal.field-0.0 (writes_none_on _ _ _ _ c.in_err-finish_journal.ensures.writes_none
    (writes_none_barrier _ _ _ _ c.barrier.ensures.moments c.barrier.ensures.counts (λ failed. absurd cc) (writes_none_start _))))

pub returns-in_err-finish_journal-clause-through : goal.returns-in_err-finish_journal-clause-through
returns-in_err-finish_journal-clause-through g c = λ t told surroundings old new is_work is_at there small each.
    let first = g.T.Tree.meaning c.args.tree.now in
    let second = g.T.Tree.meaning c.barrier.new.self in
    let disk = g.met.T.Tree.tells_its_disk c.args.tree.now t told in
    let way = way_of c.args.project.now surroundings old new c.in_ok-journal.journal in
    let on = way_begins c.args.project.now surroundings old new c.in_ok-journal.journal c.args.text.now t
    (image_reads (IsInFlight c.args.project.now surroundings old new) first t disk each)
    (subst (λ path. map.get t path ≡ Some (File c.args.text.now)) is_at there) small c.in_ok-journal.ensures.says in
    let settles = c.in_ok-barrier.ensures.done t told in
    let each_second = settled_images (IsOnWay way) first second t disk settles on in
    let whole = subst (λ (disks : Disks). IsWhole disks.now) (sym settles.disks) (settled_is_whole first.disks) in
    let start = through_then_barrier (IsInFlight c.args.project.now surroundings old new) first first second c.barrier.ensures.moments
    (through_from (IsInFlight c.args.project.now surroundings old new) first each) in
    let told_second = settles.told ∙ told in
    through_on (IsInFlight c.args.project.now surroundings old new) first second _ start
    (c.finish_journal.ensures.through t told_second whole way refl refl is_at each_second)

pub returns-in_err-remove_folder-clause-writes_none : goal.returns-in_err-remove_folder-clause-writes_none
returns-in_err-remove_folder-clause-writes_none g c =
    let p = err_from_is_err_and c.from_residual-in_err-remove_folder.result c.from_residual-in_err-remove_folder.ensures.1 in
    rw (p.1, p.2) (writes_none_removing (Unit {0}) Recovered _ _ c.in_err-remove_folder.field-0.0 (writes_none_on _ _ _ _ c.in_err-remove_folder.ensures.writes_none
    (writes_none_on _ _ _ _ c.in_ok-finish_journal.ensures.writes_none
    (writes_none_barrier _ _ _ _ c.barrier.ensures.moments c.barrier.ensures.counts (λ failed. absurd cc) (writes_none_start _)))))

pub returns-clause-writes_none : goal.returns-clause-writes_none
returns-clause-writes_none g c =
    writes_none_on _ _ _ _ c.in_ok-remove_folder.ensures.writes_none (writes_none_on _ _ _ _ c.in_ok-finish_journal.ensures.writes_none
    (writes_none_barrier _ _ _ _ c.barrier.ensures.moments c.barrier.ensures.counts (λ failed. absurd cc) (writes_none_start _)))

pub returns-in_err-remove_folder-clause-through : goal.returns-in_err-remove_folder-clause-through
returns-in_err-remove_folder-clause-through g c = λ t told surroundings old new is_work is_at there small each.
    let first = g.T.Tree.meaning c.args.tree.now in
    let second = g.T.Tree.meaning c.barrier.new.self in
    let disk = g.met.T.Tree.tells_its_disk c.args.tree.now t told in
    let way = way_of c.args.project.now surroundings old new c.in_ok-journal.journal in
    let on = way_begins c.args.project.now surroundings old new c.in_ok-journal.journal c.args.text.now t
    (image_reads (IsInFlight c.args.project.now surroundings old new) first t disk each)
    (subst (λ path. map.get t path ≡ Some (File c.args.text.now)) is_at there) small c.in_ok-journal.ensures.says in
    let settles = c.in_ok-barrier.ensures.done t told in
    let each_second = settled_images (IsOnWay way) first second t disk settles on in
    let whole = subst (λ (disks : Disks). IsWhole disks.now) (sym settles.disks) (settled_is_whole first.disks) in
    let start = through_then_barrier (IsInFlight c.args.project.now surroundings old new) first first second c.barrier.ensures.moments
    (through_from (IsInFlight c.args.project.now surroundings old new) first each) in
    let told_second = settles.told ∙ told in
    let third = g.T.Tree.meaning c.finish_journal.new.tree in
    let middle = c.finish_journal.ensures.through t told_second whole way refl refl is_at each_second in
    let done = c.in_ok-finish_journal.ensures.settled t told_second whole way refl refl is_at each_second in
    through_on (IsInFlight c.args.project.now surroundings old new) first third _ (through_on (IsInFlight c.args.project.now surroundings old new) first second third start middle)
    (new_through way third _ (then_work_goes way c.args.work.now third _ is_work c.remove_folder.ensures.removes done))

pub returns-clause-through : goal.returns-clause-through
returns-clause-through g c = λ t told surroundings old new is_work is_at there small each.
    let first = g.T.Tree.meaning c.args.tree.now in
    let second = g.T.Tree.meaning c.barrier.new.self in
    let disk = g.met.T.Tree.tells_its_disk c.args.tree.now t told in
    let way = way_of c.args.project.now surroundings old new c.in_ok-journal.journal in
    let on = way_begins c.args.project.now surroundings old new c.in_ok-journal.journal c.args.text.now t
    (image_reads (IsInFlight c.args.project.now surroundings old new) first t disk each)
    (subst (λ path. map.get t path ≡ Some (File c.args.text.now)) is_at there) small c.in_ok-journal.ensures.says in
    let settles = c.in_ok-barrier.ensures.done t told in
    let each_second = settled_images (IsOnWay way) first second t disk settles on in
    let whole = subst (λ (disks : Disks). IsWhole disks.now) (sym settles.disks) (settled_is_whole first.disks) in
    let start = through_then_barrier (IsInFlight c.args.project.now surroundings old new) first first second c.barrier.ensures.moments
    (through_from (IsInFlight c.args.project.now surroundings old new) first each) in
    let told_second = settles.told ∙ told in
    let third = g.T.Tree.meaning c.finish_journal.new.tree in
    let middle = c.finish_journal.ensures.through t told_second whole way refl refl is_at each_second in
    let done = c.in_ok-finish_journal.ensures.settled t told_second whole way refl refl is_at each_second in
    through_on (IsInFlight c.args.project.now surroundings old new) first third _ (through_on (IsInFlight c.args.project.now surroundings old new) first second third start middle)
    (new_through way third _ (then_work_goes way c.args.work.now third _ is_work c.remove_folder.ensures.removes done))

pub returns-clause-finished : goal.returns-clause-finished
returns-clause-finished g c = λ t told files is_work is_at there small finished.
    let project = c.args.project.now in
    let journal = c.in_ok-journal.journal in
    let third = g.T.Tree.meaning c.finish_journal.new.tree in
    let fourth = g.T.Tree.meaning c.remove_folder.new.tree in
    let stands = stands_by project journal t c.args.text.now (subst (λ path. map.get t path ≡ Some (File c.args.text.now)) is_at there) small c.in_ok-journal.ensures.says in
    let done = c.in_ok-finish_journal.ensures.finished t (barrier_told _ _ c.barrier.ensures.moments ∙ told) is_at stands in
    λ left image.
    finished_project project journal files t left stands.has finished
    (recovered_goes project c.args.work.now (finished_by project journal.targets t) third fourth is_work c.remove_folder.ensures.removes done left image)

pub returns-in_err-finish_journal-clause-bad : goal.returns-in_err-finish_journal-clause-bad
returns-in_err-finish_journal-clause-bad g c = λ place is.
    let p = err_from_is_err_and c.from_residual-in_err-finish_journal.result c.from_residual-in_err-finish_journal.ensures.1 in
    let given = p.1 in
    let from = p.2 in
    absurd (no_bad_part c.in_err-finish_journal.field-0.0 place cc)

pub returns-in_err-remove_folder-clause-bad : goal.returns-in_err-remove_folder-clause-bad
returns-in_err-remove_folder-clause-bad g c = λ place is.
    let p = err_from_is_err_and c.from_residual-in_err-remove_folder.result c.from_residual-in_err-remove_folder.ensures.1 in
    let given = p.1 in
    let from = p.2 in
    absurd (no_bad_removal c.in_err-remove_folder.field-0.0 place cc)

pub returns-in_err-journal-clause-fits : goal.returns-in_err-journal-clause-fits
returns-in_err-journal-clause-fits g c =
    let p = err_from_is_err_and c.from_residual.result c.from_residual.ensures.1 in
    rw (p.1, p.2) (λ t told surroundings old new is_work is_at there small each.
    refused_journal Recovered c.in_err-journal.field-0.0 (λ place is.
    journal_not_bad c.args.project.now surroundings old new t c.args.text.now place
    (image_reads (IsInFlight c.args.project.now surroundings old new) (g.T.Tree.meaning c.args.tree.now) t (g.met.T.Tree.tells_its_disk c.args.tree.now t told) each)
    (subst (λ path. map.get t path ≡ Some (File c.args.text.now)) is_at there)
    (c.in_err-journal.ensures.bad place (ap Err is))))

pub returns-in_err-barrier-clause-fits : goal.returns-in_err-barrier-clause-fits
returns-in_err-barrier-clause-fits g c = let p = err_from_is_err_and c.from_residual-in_err-barrier.result c.from_residual-in_err-barrier.ensures.1 in rw (p.1, p.2) (λ t told surroundings old new is_work is_at there small each. refl)

pub returns-in_err-finish_journal-clause-fits : goal.returns-in_err-finish_journal-clause-fits
returns-in_err-finish_journal-clause-fits g c =
    let p = err_from_is_err_and c.from_residual-in_err-finish_journal.result c.from_residual-in_err-finish_journal.ensures.1 in
    rw (p.1, p.2) (λ t told surroundings old new is_work is_at there small each.
    let first = g.T.Tree.meaning c.args.tree.now in
    let second = g.T.Tree.meaning c.barrier.new.self in
    let disk = g.met.T.Tree.tells_its_disk c.args.tree.now t told in
    let way = way_of c.args.project.now surroundings old new c.in_ok-journal.journal in
    let on = way_begins c.args.project.now surroundings old new c.in_ok-journal.journal c.args.text.now t
    (image_reads (IsInFlight c.args.project.now surroundings old new) first t disk each)
    (subst (λ path. map.get t path ≡ Some (File c.args.text.now)) is_at there) small c.in_ok-journal.ensures.says in
    let settles = c.in_ok-barrier.ensures.done t told in
    let each_second = settled_images (IsOnWay way) first second t disk settles on in
    let whole = subst (λ (disks : Disks). IsWhole disks.now) (sym settles.disks) (settled_is_whole first.disks) in
    let told_second = settles.told ∙ told in
    refused_part (Unit {0}) Recovered c.in_err-finish_journal.field-0.0
    (c.in_err-finish_journal.ensures.fits t told_second whole way refl refl is_at each_second))

pub returns-in_err-remove_folder-clause-fits : goal.returns-in_err-remove_folder-clause-fits
returns-in_err-remove_folder-clause-fits g c =
    let p = err_from_is_err_and c.from_residual-in_err-remove_folder.result c.from_residual-in_err-remove_folder.ensures.1 in
    rw (p.1, p.2) (λ t told surroundings old new is_work is_at there small each.
    let stands = stands_by c.args.project.now c.in_ok-journal.journal t c.args.text.now (subst (λ path. map.get t path ≡ Some (File c.args.text.now)) is_at there) small c.in_ok-journal.ensures.says in
    let told_second = barrier_told _ _ c.barrier.ensures.moments ∙ told in
    let then = told_still (g.T.Tree.meaning c.barrier.new.self) (g.T.Tree.meaning c.finish_journal.new.tree) t c.in_ok-finish_journal.ensures.writes_none.tells told_second in
    refused_removal (Unit {0}) Recovered c.in_err-remove_folder.field-0.0
    (c.in_err-remove_folder.ensures.never_vanished then.0 then.1
    (subst (λ path. map.get then.0 path ≡ Some Folder) (sym is_work) (c.in_ok-finish_journal.ensures.work t told_second is_at stands then.0 then.1))))

pub returns-in_err-journal-clause-other : goal.returns-in_err-journal-clause-other
returns-in_err-journal-clause-other g c = λ path is.
    let p = err_from_is_err_and c.from_residual.result c.from_residual.ensures.1 in
    let given = p.1 in
    let from = p.2 in
    absurd (no_other_journal c.in_err-journal.field-0.0 path cc)

pub returns-in_err-journal-clause-not_limit : goal.returns-in_err-journal-clause-not_limit
returns-in_err-journal-clause-not_limit g c = λ limit is.
    let p = err_from_is_err_and c.from_residual.result c.from_residual.ensures.1 in
    let given = p.1 in
    let from = p.2 in
    no_limit_journal c.in_err-journal.field-0.0 limit cc

pub returns-in_err-finish_journal-clause-other : goal.returns-in_err-finish_journal-clause-other
returns-in_err-finish_journal-clause-other g c = λ path is.
    let p = err_from_is_err_and c.from_residual-in_err-finish_journal.result c.from_residual-in_err-finish_journal.ensures.1 in
    let given = p.1 in
    let from = p.2 in
    let same : fault_of_part c.in_err-finish_journal.field-0.0 ≡ OtherEntry path = cc in
    c.in_err-finish_journal.ensures.cause path (ap Err (other_part c.in_err-finish_journal.field-0.0 path same))

pub returns-in_err-finish_journal-clause-not_limit : goal.returns-in_err-finish_journal-clause-not_limit
returns-in_err-finish_journal-clause-not_limit g c = λ limit is.
    let p = err_from_is_err_and c.from_residual-in_err-finish_journal.result c.from_residual-in_err-finish_journal.ensures.1 in
    let given = p.1 in
    let from = p.2 in
    no_limit_part c.in_err-finish_journal.field-0.0 limit cc

pub returns-in_err-remove_folder-clause-other : goal.returns-in_err-remove_folder-clause-other
returns-in_err-remove_folder-clause-other g c = λ path is.
    let p = err_from_is_err_and c.from_residual-in_err-remove_folder.result c.from_residual-in_err-remove_folder.ensures.1 in
    let given = p.1 in
    let from = p.2 in
    absurd (no_other_removal c.in_err-remove_folder.field-0.0 path cc)

pub returns-in_err-remove_folder-clause-not_limit : goal.returns-in_err-remove_folder-clause-not_limit
returns-in_err-remove_folder-clause-not_limit g c = λ limit is.
    let p = err_from_is_err_and c.from_residual-in_err-remove_folder.result c.from_residual-in_err-remove_folder.ensures.1 in
    let given = p.1 in
    let from = p.2 in
    no_limit_removal c.in_err-remove_folder.field-0.0 limit cc

pub returns-in_err-journal-clause-never_vanished : goal.returns-in_err-journal-clause-never_vanished
returns-in_err-journal-clause-never_vanished g c = let p = err_from_is_err_and c.from_residual.result c.from_residual.ensures.1 in rw (p.1, p.2) (λ t told is_work is_at there small. journal_is_there Recovered c.in_err-journal.field-0.0)

pub returns-in_err-barrier-clause-never_vanished : goal.returns-in_err-barrier-clause-never_vanished
returns-in_err-barrier-clause-never_vanished g c = let p = err_from_is_err_and c.from_residual-in_err-barrier.result c.from_residual-in_err-barrier.ensures.1 in rw (p.1, p.2) (λ t told is_work is_at there small. refl)

pub returns-in_err-finish_journal-clause-never_vanished : goal.returns-in_err-finish_journal-clause-never_vanished
returns-in_err-finish_journal-clause-never_vanished g c = let p = err_from_is_err_and c.from_residual-in_err-finish_journal.result c.from_residual-in_err-finish_journal.ensures.1 in rw (p.1, p.2) (λ t told is_work is_at there small.
    let stands = stands_by c.args.project.now c.in_ok-journal.journal t c.args.text.now (subst (λ path. map.get t path ≡ Some (File c.args.text.now)) is_at there) small c.in_ok-journal.ensures.says in
    part_is_there (Unit {0}) Recovered c.in_err-finish_journal.field-0.0
    (c.in_err-finish_journal.ensures.never_vanished t (barrier_told _ _ c.barrier.ensures.moments ∙ told) is_at stands))

pub returns-in_err-remove_folder-clause-never_vanished : goal.returns-in_err-remove_folder-clause-never_vanished
returns-in_err-remove_folder-clause-never_vanished g c = let p = err_from_is_err_and c.from_residual-in_err-remove_folder.result c.from_residual-in_err-remove_folder.ensures.1 in rw (p.1, p.2) (λ t told is_work is_at there small.
    let stands = stands_by c.args.project.now c.in_ok-journal.journal t c.args.text.now (subst (λ path. map.get t path ≡ Some (File c.args.text.now)) is_at there) small c.in_ok-journal.ensures.says in
    let told_second = barrier_told _ _ c.barrier.ensures.moments ∙ told in
    let then = told_still (g.T.Tree.meaning c.barrier.new.self) (g.T.Tree.meaning c.finish_journal.new.tree) t c.in_ok-finish_journal.ensures.writes_none.tells told_second in
    removal_is_there (Unit {0}) Recovered c.in_err-remove_folder.field-0.0
    (c.in_err-remove_folder.ensures.never_vanished then.0 then.1
    (subst (λ path. map.get then.0 path ≡ Some Folder) (sym is_work) (c.in_ok-finish_journal.ensures.work t told_second is_at stands then.0 then.1))))

pub returns-in_err-journal-clause-again : goal.returns-in_err-journal-clause-again
returns-in_err-journal-clause-again g c = λ t told is_work is_at there small.
    keeps_same c.args.project.now t _ (sym (g.met.T.Tree.tells_its_disk c.args.tree.now t told).reads)

pub returns-in_err-barrier-clause-again : goal.returns-in_err-barrier-clause-again
returns-in_err-barrier-clause-again g c = λ t told is_work is_at there small.
    keeps_settled c.args.project.now _ _ t (g.met.T.Tree.tells_its_disk c.args.tree.now t told) c.barrier.ensures.moments

pub returns-in_err-finish_journal-clause-again : goal.returns-in_err-finish_journal-clause-again
returns-in_err-finish_journal-clause-again g c = λ t told is_work is_at there small.
    let stands = stands_by c.args.project.now c.in_ok-journal.journal t c.args.text.now (subst (λ path. map.get t path ≡ Some (File c.args.text.now)) is_at there) small c.in_ok-journal.ensures.says in
    c.finish_journal.ensures.again t (barrier_told _ _ c.barrier.ensures.moments ∙ told) is_at stands

pub returns-in_err-remove_folder-clause-again : goal.returns-in_err-remove_folder-clause-again
returns-in_err-remove_folder-clause-again g c = λ t told is_work is_at there small.
    let project = c.args.project.now in
    let journal = c.in_ok-journal.journal in
    let stands = stands_by c.args.project.now c.in_ok-journal.journal t c.args.text.now (subst (λ path. map.get t path ≡ Some (File c.args.text.now)) is_at there) small c.in_ok-journal.ensures.says in
    let done = c.in_ok-finish_journal.ensures.finished t (barrier_told _ _ c.barrier.ensures.moments ∙ told) is_at stands in
    keeps_ended project journal t (g.T.Tree.meaning c.remove_folder.new.tree) stands.has
    (recovered_goes project c.args.work.now (finished_by project journal.targets t) (g.T.Tree.meaning c.finish_journal.new.tree) (g.T.Tree.meaning c.remove_folder.new.tree) is_work
    c.remove_folder.ensures.removes done)

pub returns-clause-again : goal.returns-clause-again
returns-clause-again g c = λ t told is_work is_at there small.
    let project = c.args.project.now in
    let journal = c.in_ok-journal.journal in
    let stands = stands_by c.args.project.now c.in_ok-journal.journal t c.args.text.now (subst (λ path. map.get t path ≡ Some (File c.args.text.now)) is_at there) small c.in_ok-journal.ensures.says in
    let done = c.in_ok-finish_journal.ensures.finished t (barrier_told _ _ c.barrier.ensures.moments ∙ told) is_at stands in
    keeps_ended project journal t (g.T.Tree.meaning c.remove_folder.new.tree) stands.has
    (recovered_goes project c.args.work.now (finished_by project journal.targets t) (g.T.Tree.meaning c.finish_journal.new.tree) (g.T.Tree.meaning c.remove_folder.new.tree) is_work
    c.remove_folder.ensures.removes done)

pub returns-clause-says : goal.returns-clause-says
returns-clause-says g c = (c.in_ok-journal.journal, c.in_ok-journal.ensures.says)

pub returns-in_err-journal-clause-stops : goal.returns-in_err-journal-clause-stops
returns-in_err-journal-clause-stops g c = λ path is.
    let p = err_from_is_err_and c.from_residual.result c.from_residual.ensures.1 in
    let given = p.1 in
    let from = p.2 in
    absurd (no_other_journal c.in_err-journal.field-0.0 path cc)

pub returns-in_err-finish_journal-clause-stops : goal.returns-in_err-finish_journal-clause-stops
returns-in_err-finish_journal-clause-stops g c = λ path is t told journal is_at there small says.
    let p = err_from_is_err_and c.from_residual-in_err-finish_journal.result c.from_residual-in_err-finish_journal.ensures.1 in
    let given = p.1 in
    let from = p.2 in
    let same : fault_of_part c.in_err-finish_journal.field-0.0 ≡ OtherEntry path = cc in
    let stands = stands_by c.args.project.now c.in_ok-journal.journal t c.args.text.now (subst (λ path. map.get t path ≡ Some (File c.args.text.now)) is_at there) small c.in_ok-journal.ensures.says in
    let one = one_journal c.args.text.now c.in_ok-journal.journal journal small c.in_ok-journal.ensures.says says in
    let found = c.in_err-finish_journal.ensures.stops path (ap Err (other_part c.in_err-finish_journal.field-0.0 path same)) t (barrier_told _ _ c.barrier.ensures.moments ∙ told) stands in
    (found.0, subst (λ (j : Journal). StopsAt c.args.project.now j found.0 t (reading (g.T.Tree.meaning c.finish_journal.new.tree).disks.now)) one found.1)

pub returns-in_err-remove_folder-clause-stops : goal.returns-in_err-remove_folder-clause-stops
returns-in_err-remove_folder-clause-stops g c = λ path is.
    let p = err_from_is_err_and c.from_residual-in_err-remove_folder.result c.from_residual-in_err-remove_folder.ensures.1 in
    let given = p.1 in
    let from = p.2 in
    absurd (no_other_removal c.in_err-remove_folder.field-0.0 path cc)

pub returns-in_err-journal-clause-ends : goal.returns-in_err-journal-clause-ends
returns-in_err-journal-clause-ends g c = λ t told surroundings old new files is_work is_at there small each same. through_from (λ (left : FileTree). IsFinishedProject c.args.project.now left files) _ same

pub returns-in_err-barrier-clause-ends : goal.returns-in_err-barrier-clause-ends
returns-in_err-barrier-clause-ends g c = λ t told surroundings old new files is_work is_at there small each same.
    through_then_barrier (λ (left : FileTree). IsFinishedProject c.args.project.now left files) _ _ _ c.barrier.ensures.moments (through_from (λ (left : FileTree). IsFinishedProject c.args.project.now left files) _ same)

pub returns-in_err-finish_journal-clause-ends : goal.returns-in_err-finish_journal-clause-ends
returns-in_err-finish_journal-clause-ends g c = λ t told surroundings old new files is_work is_at there small each same.
    let first = g.T.Tree.meaning c.args.tree.now in
    let second = g.T.Tree.meaning c.barrier.new.self in
    let disk = g.met.T.Tree.tells_its_disk c.args.tree.now t told in
    let way = way_of c.args.project.now surroundings old new c.in_ok-journal.journal in
    let here = subst (λ path. map.get t path ≡ Some (File c.args.text.now)) is_at there in
    let flight = image_reads (IsInFlight c.args.project.now surroundings old new) first t disk each in
    let on = way_begins c.args.project.now surroundings old new c.in_ok-journal.journal c.args.text.now t flight here small c.in_ok-journal.ensures.says in
    let settles = c.in_ok-barrier.ensures.done t told in
    let each_second = settled_images (IsOnWay way) first second t disk settles on in
    let whole = subst (λ (disks : Disks). IsWhole disks.now) (sym settles.disks) (settled_is_whole first.disks) in
    let told_second = settles.told ∙ told in
    let fits = ends_fit c.args.project.now surroundings old new files t c.in_ok-journal.journal c.args.text.now flight here small c.in_ok-journal.ensures.says (image_reads (λ (left : FileTree). IsFinishedProject c.args.project.now left files) first t disk same) in
    let start = through_then_barrier (λ (left : FileTree). IsFinishedProject c.args.project.now left files) first first second c.barrier.ensures.moments (through_from (λ (left : FileTree). IsFinishedProject c.args.project.now left files) first same) in
    let third = g.T.Tree.meaning c.finish_journal.new.tree in
    let middle = through_on (λ (left : FileTree). IsFinishedProject c.args.project.now left files) first second third start
    (ends_finished way files fits second third (c.finish_journal.ensures.ends t told_second whole way refl refl is_at each_second)) in
    middle

pub returns-in_err-remove_folder-clause-ends : goal.returns-in_err-remove_folder-clause-ends
returns-in_err-remove_folder-clause-ends g c = λ t told surroundings old new files is_work is_at there small each same.
    let first = g.T.Tree.meaning c.args.tree.now in
    let second = g.T.Tree.meaning c.barrier.new.self in
    let disk = g.met.T.Tree.tells_its_disk c.args.tree.now t told in
    let way = way_of c.args.project.now surroundings old new c.in_ok-journal.journal in
    let here = subst (λ path. map.get t path ≡ Some (File c.args.text.now)) is_at there in
    let flight = image_reads (IsInFlight c.args.project.now surroundings old new) first t disk each in
    let on = way_begins c.args.project.now surroundings old new c.in_ok-journal.journal c.args.text.now t flight here small c.in_ok-journal.ensures.says in
    let settles = c.in_ok-barrier.ensures.done t told in
    let each_second = settled_images (IsOnWay way) first second t disk settles on in
    let whole = subst (λ (disks : Disks). IsWhole disks.now) (sym settles.disks) (settled_is_whole first.disks) in
    let told_second = settles.told ∙ told in
    let fits = ends_fit c.args.project.now surroundings old new files t c.in_ok-journal.journal c.args.text.now flight here small c.in_ok-journal.ensures.says (image_reads (λ (left : FileTree). IsFinishedProject c.args.project.now left files) first t disk same) in
    let start = through_then_barrier (λ (left : FileTree). IsFinishedProject c.args.project.now left files) first first second c.barrier.ensures.moments (through_from (λ (left : FileTree). IsFinishedProject c.args.project.now left files) first same) in
    let third = g.T.Tree.meaning c.finish_journal.new.tree in
    let middle = through_on (λ (left : FileTree). IsFinishedProject c.args.project.now left files) first second third start
    (ends_finished way files fits second third (c.finish_journal.ensures.ends t told_second whole way refl refl is_at each_second)) in
    let done = c.in_ok-finish_journal.ensures.settled t told_second whole way refl refl is_at each_second in
    let fourth = g.T.Tree.meaning c.remove_folder.new.tree in
    through_on (λ (left : FileTree). IsFinishedProject c.args.project.now left files) first third fourth middle
    (through_weaker (IsNewProject way) (λ (left : FileTree). IsFinishedProject c.args.project.now left files) third fourth (λ left new. ending_is_finished way files fits left (inr new))
    (then_work_goes way c.args.work.now third fourth is_work c.remove_folder.ensures.removes done))

pub returns-clause-ends : goal.returns-clause-ends
returns-clause-ends g c = λ t told surroundings old new files is_work is_at there small each same.
    let first = g.T.Tree.meaning c.args.tree.now in
    let second = g.T.Tree.meaning c.barrier.new.self in
    let disk = g.met.T.Tree.tells_its_disk c.args.tree.now t told in
    let way = way_of c.args.project.now surroundings old new c.in_ok-journal.journal in
    let here = subst (λ path. map.get t path ≡ Some (File c.args.text.now)) is_at there in
    let flight = image_reads (IsInFlight c.args.project.now surroundings old new) first t disk each in
    let on = way_begins c.args.project.now surroundings old new c.in_ok-journal.journal c.args.text.now t flight here small c.in_ok-journal.ensures.says in
    let settles = c.in_ok-barrier.ensures.done t told in
    let each_second = settled_images (IsOnWay way) first second t disk settles on in
    let whole = subst (λ (disks : Disks). IsWhole disks.now) (sym settles.disks) (settled_is_whole first.disks) in
    let told_second = settles.told ∙ told in
    let fits = ends_fit c.args.project.now surroundings old new files t c.in_ok-journal.journal c.args.text.now flight here small c.in_ok-journal.ensures.says (image_reads (λ (left : FileTree). IsFinishedProject c.args.project.now left files) first t disk same) in
    let start = through_then_barrier (λ (left : FileTree). IsFinishedProject c.args.project.now left files) first first second c.barrier.ensures.moments (through_from (λ (left : FileTree). IsFinishedProject c.args.project.now left files) first same) in
    let third = g.T.Tree.meaning c.finish_journal.new.tree in
    let middle = through_on (λ (left : FileTree). IsFinishedProject c.args.project.now left files) first second third start
    (ends_finished way files fits second third (c.finish_journal.ensures.ends t told_second whole way refl refl is_at each_second)) in
    let done = c.in_ok-finish_journal.ensures.settled t told_second whole way refl refl is_at each_second in
    let fourth = g.T.Tree.meaning c.remove_folder.new.tree in
    through_on (λ (left : FileTree). IsFinishedProject c.args.project.now left files) first third fourth middle
    (through_weaker (IsNewProject way) (λ (left : FileTree). IsFinishedProject c.args.project.now left files) third fourth (λ left new. ending_is_finished way files fits left (inr new))
    (then_work_goes way c.args.work.now third fourth is_work c.remove_folder.ensures.removes done))

pub returns-in_err-journal-clause-at_once : goal.returns-in_err-journal-clause-at_once
returns-in_err-journal-clause-at_once g c =
    let p = err_from_is_err_and c.from_residual.result c.from_residual.ensures.1 in
    rw (p.1, p.2) (λ place bad. record {
      answer = refused_text Recovered place c.in_err-journal.field-0.0
          (λ at is. one_place IsJournalText c.args.text.now at place (c.in_err-journal.ensures.bad at (ap Err is)) bad);
      only_read = read_text_only Recovered _ _ c.in_err-journal.field-0.0 (only_read_refl _);
    })

pub returns-in_err-barrier-clause-at_once : goal.returns-in_err-barrier-clause-at_once
returns-in_err-barrier-clause-at_once g c = λ place bad. absurd (bad.no_text (c.in_ok-journal.journal, c.in_ok-journal.ensures.says))

pub returns-in_err-finish_journal-clause-at_once : goal.returns-in_err-finish_journal-clause-at_once
returns-in_err-finish_journal-clause-at_once g c = λ place bad. absurd (bad.no_text (c.in_ok-journal.journal, c.in_ok-journal.ensures.says))

pub returns-in_err-remove_folder-clause-at_once : goal.returns-in_err-remove_folder-clause-at_once
returns-in_err-remove_folder-clause-at_once g c = λ place bad. absurd (bad.no_text (c.in_ok-journal.journal, c.in_ok-journal.ensures.says))

pub returns-clause-at_once : goal.returns-clause-at_once
returns-clause-at_once g c = λ place bad. absurd (bad.no_text (c.in_ok-journal.journal, c.in_ok-journal.ensures.says))

pub returns-in_err-journal-clause-blocked : goal.returns-in_err-journal-clause-blocked
returns-in_err-journal-clause-blocked g c = λ path is.
    let p = err_from_is_err_and c.from_residual.result c.from_residual.ensures.1 in
    let given = p.1 in
    let from = p.2 in
    absurd (no_other_journal c.in_err-journal.field-0.0 path cc)

pub returns-in_err-remove_folder-clause-blocked : goal.returns-in_err-remove_folder-clause-blocked
returns-in_err-remove_folder-clause-blocked g c = λ path is.
    let p = err_from_is_err_and c.from_residual-in_err-remove_folder.result c.from_residual-in_err-remove_folder.ensures.1 in
    let given = p.1 in
    let from = p.2 in
    absurd (no_other_removal c.in_err-remove_folder.field-0.0 path cc)

pub returns-in_err-finish_journal-clause-blocked : goal.returns-in_err-finish_journal-clause-blocked
returns-in_err-finish_journal-clause-blocked g c = λ path is.
    let p = err_from_is_err_and c.from_residual-in_err-finish_journal.result c.from_residual-in_err-finish_journal.ensures.1 in
    let given = p.1 in
    let from = p.2 in
    let same : fault_of_part c.in_err-finish_journal.field-0.0 ≡ OtherEntry path = cc in
    λ t told is_at there small.
    let stands = stands_by c.args.project.now c.in_ok-journal.journal t c.args.text.now (subst (λ path. map.get t path ≡ Some (File c.args.text.now)) is_at there) small c.in_ok-journal.ensures.says in
    inr (
      c.in_ok-journal.journal,
      stands.has,
      c.in_err-finish_journal.ensures.blocked path (ap Err (other_part c.in_err-finish_journal.field-0.0 path same)) t (barrier_told _ _ c.barrier.ensures.moments ∙ told) stands,
    )

pub returns-clause-free : goal.returns-clause-free
returns-clause-free g c = λ t told journal is_at there small says number target part path blocked.
    let stands = stands_by c.args.project.now c.in_ok-journal.journal t c.args.text.now (subst (λ path. map.get t path ≡ Some (File c.args.text.now)) is_at there) small c.in_ok-journal.ensures.says in
    let one = one_journal c.args.text.now c.in_ok-journal.journal journal small c.in_ok-journal.ensures.says says in
    c.in_ok-finish_journal.ensures.free t (barrier_told _ _ c.barrier.ensures.moments ∙ told) stands number target
    (subst (λ (j : Journal). IsPart j.targets number target) (sym one) part) path blocked
