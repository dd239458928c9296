use Rattle.std.proofs.Common.{◌≡◌, false, None, Some, is_some, ap, ◌∙◌, sym, subst}
use Rattle.std.specs.FinMap as map
use Rattle.tree_dev.specs.declared.entry.Entry.TheVariants.{Folder}
use Rattle.std.proofs.lemmas.Result.{IfOk-weaker, err_from_is_err_and, on_ok_weaker}
use Rattle.tree_dev.specs.Changes.{is_root}
use Rattle.tree_dev.specs.Device.{only_read_on}
use Rattle.tree_dev.specs.Disk.{reading}
use Rattle.tree_dev.proofs.Images.{reading_is_image}
use Rattle.tree_dev.proofs.Stretches.{through_from, through_on}
use Rattle.tree_dev.proofs.Whole.{through_then_read}
use Rattle.install_world.specs.InFlight.{HasFiles, IsFinishedProject, IsInFlight}
use Rattle.install_world.proofs.PartDone.{absent_is_none, reads_same}
use Rattle.install_world.proofs.RecoveryRules.{ended_in, folder_is_some, images_read, no_work_no_journal, nothing_to_do, own_files, work_under}
use Rattle.install_world.proofs.RemovalRules.{writes_none_on, writes_none_read, writes_none_start}
use Rattle.install_world.proofs.Segments.{install_segment}
use Rattle.std.proofs.Common.{refl, inl, inr}
use Rattle.std.specs.Prelude.{◌⊎◌}
use Rattle.install_world.proofs.RecoveryFits.{work_by_kind}
use Rattle.install_world.proofs.FinishSteps.{leaf_shown}
use Rattle.install_world.proofs.FinishAgain.{keeps_read, keeps_same}
use Rattle.install_world.proofs.RecoveryCauses.{without_work}
use Rattle.tree_dev.specs.Trees.{FileTree}
use Rattle.tree_dev.specs.Projects.{file_at}
use Rattle.install_world.proofs.FinishSteps.{reads_then}
use Rattle.install_world.proofs.FinishStops.{stops_at_once}
use Rattle.tree_dev.specs.Device.{only_read_refl}
use Rattle.tree_dev.specs.Changes.{is_leaf}
use Rattle.install_world.specs.declared.recovery_fault.RecoverFault.TheVariants as faults
use Rattle.install_world.proofs.AtOnce.{nothing_is_due, refused_after, work_is_due}
use Rattle.std.proofs.Common.{true}
use Rattle.install_world.proofs.WayMoves.{entry_is}
use Rattle.install_world.proofs.recovery.finish_install.Goals as goal

pub child-requires : goal.child-requires
child-requires g c = install_segment

pub returns-in_err-work-clause-writes_none : goal.returns-in_err-work-clause-writes_none
returns-in_err-work-clause-writes_none g c = let p = err_from_is_err_and c.from_residual.result c.from_residual.ensures.1 in rw (p.1, p.2) (writes_none_start _)

pub returns-in_err-work-clause-through : goal.returns-in_err-work-clause-through
returns-in_err-work-clause-through g c = λ t told surroundings old new each. through_from (IsInFlight c.args.project.now surroundings old new) _ each

pub returns-in_err-stat-clause-writes_none : goal.returns-in_err-stat-clause-writes_none
returns-in_err-stat-clause-writes_none g c =
    let p = err_from_is_err_and c.from_residual-in_err-stat.result c.from_residual-in_err-stat.ensures.1 in
    rw (p.1, p.2) (writes_none_read _ _ _ _ c.in_err-stat.ensures.only_read (writes_none_start _))

pub returns-in_err-stat-clause-through : goal.returns-in_err-stat-clause-through
returns-in_err-stat-clause-through g c = λ t told surroundings old new each.
    through_then_read (IsInFlight c.args.project.now surroundings old new) _ _ _ _ c.stat.ensures.only_read (through_from (IsInFlight c.args.project.now surroundings old new) _ each)

pub returns-in-Absent-clause-writes_none : goal.returns-in-Absent-clause-writes_none
returns-in-Absent-clause-writes_none g c = writes_none_read _ _ _ _ c.in_ok-stat.ensures.only_read (writes_none_start _)

pub returns-in-Absent-clause-through : goal.returns-in-Absent-clause-through
returns-in-Absent-clause-through g c = λ t told surroundings old new each.
    through_then_read (IsInFlight c.args.project.now surroundings old new) _ _ _ _ c.stat.ensures.only_read (through_from (IsInFlight c.args.project.now surroundings old new) _ each)

pub returns-in-Absent-clause-found : goal.returns-in-Absent-clause-found
returns-in-Absent-clause-found g c = λ t told.
    let none = subst (λ at. map.get t at ≡ None) c.in_ok-work.ensures (absent_is_none t c.in_ok-work.work c.in_ok-stat.field-0 (c.in_ok-stat.ensures.kind t told) c.in-Absent.is) in
    nothing_to_do c.args.project.now t none

pub returns-in-Absent-clause-finished : goal.returns-in-Absent-clause-finished
returns-in-Absent-clause-finished g c = λ t told files finished.
    let none = subst (λ at. map.get t at ≡ None) c.in_ok-work.ensures (absent_is_none t c.in_ok-work.work c.in_ok-stat.field-0 (c.in_ok-stat.ensures.kind t told) c.in-Absent.is) in
    let same = reads_same _ _ _ c.stat.ensures.only_read ∙ sym (g.met.T.Tree.tells_its_disk c.args.tree.now t told).reads in
    subst (λ now. HasFiles c.args.project.now now files) (sym same)
    (own_files c.args.project.now t files (no_work_no_journal c.args.project.now t (g.met.T.Tree.tells_trees c.args.tree.now t told) none) finished)

pub returns-in-Absent-clause-gone : goal.returns-in-Absent-clause-gone
returns-in-Absent-clause-gone g c = λ t told.
    subst (λ at. map.get t at ≡ None) c.in_ok-work.ensures
    (absent_is_none t c.in_ok-work.work c.in_ok-stat.field-0 (c.in_ok-stat.ensures.kind t (sym c.stat.ensures.only_read.told ∙ told)) c.in-Absent.is)

pub returns-in-Folder-clause-writes_none : goal.returns-in-Folder-clause-writes_none
returns-in-Folder-clause-writes_none g c =
    writes_none_on _ _ _ _ c.finish_claimed.ensures.writes_none (writes_none_read _ _ _ _ c.in_ok-stat.ensures.only_read (writes_none_start _))

pub returns-in-Folder-clause-through : goal.returns-in-Folder-clause-through
returns-in-Folder-clause-through g c = λ t told surroundings old new each.
    through_on (IsInFlight c.args.project.now surroundings old new) _ _ _
    (through_then_read (IsInFlight c.args.project.now surroundings old new) _ _ _ _ c.stat.ensures.only_read (through_from (IsInFlight c.args.project.now surroundings old new) _ each))
    (c.finish_claimed.ensures.through t (c.stat.ensures.only_read.told ∙ told) surroundings old new c.in_ok-work.ensures
    (images_read (IsInFlight c.args.project.now surroundings old new) _ _ _ c.stat.ensures.only_read each))

pub returns-in-Folder-clause-found : goal.returns-in-Folder-clause-found
returns-in-Folder-clause-found g c = IfOk-weaker c.finish_claimed.result _ _
    (λ found ended t told.
    let under = subst (λ at. is_root at ≡ false) (sym c.in_ok-work.ensures) (work_under c.args.project.now) in
    let there = subst (λ at. map.get t at ≡ Some Folder) c.in_ok-work.ensures
    (folder_is_some t c.in_ok-work.work c.in_ok-stat.field-0 (c.in_ok-stat.ensures.kind t told) c.in-Folder.is under) in
    ended_in c.args.project.now t found there (ended t (c.stat.ensures.only_read.told ∙ told) c.in_ok-work.ensures))
    c.finish_claimed.ensures.found

pub returns-in-Absent-clause-settled : goal.returns-in-Absent-clause-settled
returns-in-Absent-clause-settled g c = λ t told there.
    let none = subst (λ at. map.get t at ≡ None) c.in_ok-work.ensures (absent_is_none t c.in_ok-work.work c.in_ok-stat.field-0 (c.in_ok-stat.ensures.kind t told) c.in-Absent.is) in
    let no = ap is_some none in
    absurd cc

pub returns-in-Folder-clause-finished : goal.returns-in-Folder-clause-finished
returns-in-Folder-clause-finished g c = on_ok_weaker c.finish_claimed.result
    (λ done t told files finished.
    (done t (c.stat.ensures.only_read.told ∙ told) files c.in_ok-work.ensures finished
    (reading (g.T.Tree.meaning c.finish_claimed.new.tree).disks.now) (reading_is_image (g.T.Tree.meaning c.finish_claimed.new.tree).disks.now)).has_files)
    c.finish_claimed.ensures.finished

pub returns-in-Folder-clause-settled : goal.returns-in-Folder-clause-settled
returns-in-Folder-clause-settled g c = on_ok_weaker c.finish_claimed.result
    (λ done t told there files finished. done t (c.stat.ensures.only_read.told ∙ told) files c.in_ok-work.ensures finished)
    c.finish_claimed.ensures.finished

pub returns-in-Folder-clause-gone : goal.returns-in-Folder-clause-gone
returns-in-Folder-clause-gone g c = on_ok_weaker c.finish_claimed.result
    (λ gone t told. subst (λ at. map.get t at ≡ None) c.in_ok-work.ensures (gone t told))
    c.finish_claimed.ensures.gone

pub returns-in_default-clause-writes_none : goal.returns-in_default-clause-writes_none
returns-in_default-clause-writes_none g c = writes_none_read _ _ _ _ c.in_ok-stat.ensures.only_read (writes_none_start _)

pub returns-in_default-clause-through : goal.returns-in_default-clause-through
returns-in_default-clause-through g c = λ t told surroundings old new each.
    through_then_read (IsInFlight c.args.project.now surroundings old new) _ _ _ _ c.stat.ensures.only_read (through_from (IsInFlight c.args.project.now surroundings old new) _ each)

pub returns-in-Folder-clause-bad : goal.returns-in-Folder-clause-bad
returns-in-Folder-clause-bad g c = λ place is.
    let found = c.finish_claimed.ensures.bad place is in
    (only_read_on c.in_ok-stat.ensures.only_read found.0, λ t told. found.1 t (c.stat.ensures.only_read.told ∙ told) c.in_ok-work.ensures)

pub returns-in_err-work-clause-fits : goal.returns-in_err-work-clause-fits
returns-in_err-work-clause-fits g c = let p = err_from_is_err_and c.from_residual.result c.from_residual.ensures.1 in rw (p.1, p.2) (λ t told surroundings old new each can. refl)

pub returns-in_err-stat-clause-fits : goal.returns-in_err-stat-clause-fits
returns-in_err-stat-clause-fits g c = let p = err_from_is_err_and c.from_residual-in_err-stat.result c.from_residual-in_err-stat.ensures.1 in rw (p.1, p.2) (λ t told surroundings old new each can. refl)

pub returns-in-Folder-clause-fits : goal.returns-in-Folder-clause-fits
returns-in-Folder-clause-fits g c = λ t told surroundings old new each can.
    let under = subst (λ at. is_root at ≡ false) (sym c.in_ok-work.ensures) (work_under c.args.project.now) in
    c.finish_claimed.ensures.fits t (c.stat.ensures.only_read.told ∙ told) surroundings old new c.in_ok-work.ensures
    (folder_is_some t c.in_ok-work.work c.in_ok-stat.field-0 (c.in_ok-stat.ensures.kind t told) c.in-Folder.is under)
    (images_read (IsInFlight c.args.project.now surroundings old new) _ _ _ c.stat.ensures.only_read each) can

pub returns-in_default-clause-fits : goal.returns-in_default-clause-fits
returns-in_default-clause-fits g c = λ t told surroundings old new each can.
    let under = subst (λ at. is_root at ≡ false) (sym c.in_ok-work.ensures) (work_under c.args.project.now) in
    elim (work_by_kind t c.in_ok-work.work c.in_ok-stat.field-0 under (c.in_ok-stat.ensures.kind t told)
    (subst (λ at. (map.get t at ≡ None) ⊎ (map.get t at ≡ Some Folder)) (sym c.in_ok-work.ensures) can.work)) [
      | inl absent ↦ absurd (c.in_default.not-Absent absent)
      | inr folder ↦ absurd (c.in_default.not-Folder folder)
    ]

pub returns-in-Folder-clause-other : goal.returns-in-Folder-clause-other
returns-in-Folder-clause-other g c = λ path is t told. c.finish_claimed.ensures.other path is t told c.in_ok-work.ensures

pub returns-in-Folder-clause-limit : goal.returns-in-Folder-clause-limit
returns-in-Folder-clause-limit g c = λ limit is.
    let found = c.finish_claimed.ensures.limit limit is c.in_ok-work.ensures in
    (found.0, (only_read_on c.in_ok-stat.ensures.only_read found.1.0, λ t told. found.1.1 t (c.stat.ensures.only_read.told ∙ told)))

pub returns-in_default-clause-other : goal.returns-in_default-clause-other
returns-in_default-clause-other g c = λ path is t told. record {
  kind = inl (
      let leaf = leaf_shown t c.in_ok-work.work c.in_ok-stat.field-0 (c.in_ok-stat.ensures.kind t (sym c.stat.ensures.only_read.told ∙ told))
      c.in_default.not-Folder c.in_default.not-Absent in
      cc);
}

pub returns-in_err-work-clause-never_vanished : goal.returns-in_err-work-clause-never_vanished
returns-in_err-work-clause-never_vanished g c = let p = err_from_is_err_and c.from_residual.result c.from_residual.ensures.1 in rw (p.1, p.2) (λ t told. refl)

pub returns-in_err-stat-clause-never_vanished : goal.returns-in_err-stat-clause-never_vanished
returns-in_err-stat-clause-never_vanished g c = let p = err_from_is_err_and c.from_residual-in_err-stat.result c.from_residual-in_err-stat.ensures.1 in rw (p.1, p.2) (λ t told. refl)

pub returns-in-Folder-clause-never_vanished : goal.returns-in-Folder-clause-never_vanished
returns-in-Folder-clause-never_vanished g c = λ t told.
    let under = subst (λ at. is_root at ≡ false) (sym c.in_ok-work.ensures) (work_under c.args.project.now) in
    c.finish_claimed.ensures.never_vanished t (c.stat.ensures.only_read.told ∙ told) c.in_ok-work.ensures
    (folder_is_some t c.in_ok-work.work c.in_ok-stat.field-0 (c.in_ok-stat.ensures.kind t told) c.in-Folder.is under)

pub returns-in_err-work-clause-again : goal.returns-in_err-work-clause-again
returns-in_err-work-clause-again g c = λ t told. keeps_same c.args.project.now t _ (sym (g.met.T.Tree.tells_its_disk c.args.tree.now t told).reads)

pub returns-in_err-stat-clause-again : goal.returns-in_err-stat-clause-again
returns-in_err-stat-clause-again g c = λ t told. keeps_read c.args.project.now _ _ t _ (g.met.T.Tree.tells_its_disk c.args.tree.now t told) c.stat.ensures.only_read

pub returns-in-Absent-clause-again : goal.returns-in-Absent-clause-again
returns-in-Absent-clause-again g c = λ t told. keeps_read c.args.project.now _ _ t _ (g.met.T.Tree.tells_its_disk c.args.tree.now t told) c.stat.ensures.only_read

pub returns-in_default-clause-again : goal.returns-in_default-clause-again
returns-in_default-clause-again g c = λ t told. keeps_read c.args.project.now _ _ t _ (g.met.T.Tree.tells_its_disk c.args.tree.now t told) c.stat.ensures.only_read

pub returns-in-Folder-clause-again : goal.returns-in-Folder-clause-again
returns-in-Folder-clause-again g c = λ t told. c.finish_claimed.ensures.again t (c.stat.ensures.only_read.told ∙ told) c.in_ok-work.ensures

pub returns-in-Absent-clause-only : goal.returns-in-Absent-clause-only
returns-in-Absent-clause-only g c = λ t told.
    let none = subst (λ at. map.get t at ≡ None) c.in_ok-work.ensures (absent_is_none t c.in_ok-work.work c.in_ok-stat.field-0 (c.in_ok-stat.ensures.kind t told) c.in-Absent.is) in
    without_work c.args.project.now t none (no_work_no_journal c.args.project.now t (g.met.T.Tree.tells_trees c.args.tree.now t told) none).absent

pub returns-in-Folder-clause-only : goal.returns-in-Folder-clause-only
returns-in-Folder-clause-only g c = on_ok_weaker c.finish_claimed.result
    (λ only t told.
    let under = subst (λ at. is_root at ≡ false) (sym c.in_ok-work.ensures) (work_under c.args.project.now) in
    only t (c.stat.ensures.only_read.told ∙ told) c.in_ok-work.ensures
    (folder_is_some t c.in_ok-work.work c.in_ok-stat.field-0 (c.in_ok-stat.ensures.kind t told) c.in-Folder.is under))
    c.finish_claimed.ensures.only

pub returns-in-Folder-clause-stops : goal.returns-in-Folder-clause-stops
returns-in-Folder-clause-stops g c = λ path is t told journal has. c.finish_claimed.ensures.stops path is t (c.stat.ensures.only_read.told ∙ told) journal c.in_ok-work.ensures has

pub returns-in_default-clause-stops : goal.returns-in_default-clause-stops
returns-in_default-clause-stops g c = λ path is t told journal has. (
  0,
  stops_at_once c.args.project.now journal t _ (λ at. ap (λ (w : FileTree). file_at w at)
      (reads_then _ _ t _ (g.met.T.Tree.tells_its_disk c.args.tree.now t told) c.stat.ensures.only_read)),
)

pub returns-in_err-work-clause-ends : goal.returns-in_err-work-clause-ends
returns-in_err-work-clause-ends g c = λ t told surroundings old new files each same. through_from (λ (left : FileTree). IsFinishedProject c.args.project.now left files) _ same

pub returns-in_err-stat-clause-ends : goal.returns-in_err-stat-clause-ends
returns-in_err-stat-clause-ends g c = λ t told surroundings old new files each same.
    through_then_read (λ (left : FileTree). IsFinishedProject c.args.project.now left files) _ _ _ _ c.stat.ensures.only_read (through_from (λ (left : FileTree). IsFinishedProject c.args.project.now left files) _ same)

pub returns-in-Absent-clause-ends : goal.returns-in-Absent-clause-ends
returns-in-Absent-clause-ends g c = λ t told surroundings old new files each same.
    through_then_read (λ (left : FileTree). IsFinishedProject c.args.project.now left files) _ _ _ _ c.stat.ensures.only_read (through_from (λ (left : FileTree). IsFinishedProject c.args.project.now left files) _ same)

pub returns-in_default-clause-ends : goal.returns-in_default-clause-ends
returns-in_default-clause-ends g c = λ t told surroundings old new files each same.
    through_then_read (λ (left : FileTree). IsFinishedProject c.args.project.now left files) _ _ _ _ c.stat.ensures.only_read (through_from (λ (left : FileTree). IsFinishedProject c.args.project.now left files) _ same)

pub returns-in-Folder-clause-ends : goal.returns-in-Folder-clause-ends
returns-in-Folder-clause-ends g c = λ t told surroundings old new files each same.
    through_on (λ (left : FileTree). IsFinishedProject c.args.project.now left files) _ _ _ (through_then_read (λ (left : FileTree). IsFinishedProject c.args.project.now left files) _ _ _ _ c.stat.ensures.only_read (through_from (λ (left : FileTree). IsFinishedProject c.args.project.now left files) _ same))
    (c.finish_claimed.ensures.ends t (c.stat.ensures.only_read.told ∙ told) surroundings old new files c.in_ok-work.ensures
    (images_read (IsInFlight c.args.project.now surroundings old new) _ _ _ c.stat.ensures.only_read each) (images_read (λ (left : FileTree). IsFinishedProject c.args.project.now left files) _ _ _ c.stat.ensures.only_read same))

pub returns-in_err-work-clause-at_once : goal.returns-in_err-work-clause-at_once
returns-in_err-work-clause-at_once g c =
    let p = err_from_is_err_and c.from_residual.result c.from_residual.ensures.1 in
    rw (p.1, p.2) (λ t told fault due. record { answer = tt; only_read = only_read_refl _ })

pub returns-in_err-stat-clause-at_once : goal.returns-in_err-stat-clause-at_once
returns-in_err-stat-clause-at_once g c =
    let p = err_from_is_err_and c.from_residual-in_err-stat.result c.from_residual-in_err-stat.ensures.1 in
    rw (p.1, p.2) (λ t told fault due. record { answer = tt; only_read = c.in_err-stat.ensures.only_read })

pub returns-in-Absent-clause-at_once : goal.returns-in-Absent-clause-at_once
returns-in-Absent-clause-at_once g c = λ t told fault due.
    let none = subst (λ at. map.get t at ≡ None) c.in_ok-work.ensures (absent_is_none t c.in_ok-work.work c.in_ok-stat.field-0 (c.in_ok-stat.ensures.kind t told) c.in-Absent.is) in
    absurd (nothing_is_due c.args.project.now t fault (g.met.T.Tree.tells_trees c.args.tree.now t told) none due)

pub returns-in-Folder-clause-at_once : goal.returns-in-Folder-clause-at_once
returns-in-Folder-clause-at_once g c = λ t told fault due.
    let under = subst (λ at. is_root at ≡ false) (sym c.in_ok-work.ensures) (work_under c.args.project.now) in
    refused_after fault fault refl _ _ _ _ c.in_ok-stat.ensures.only_read
    (c.finish_claimed.ensures.at_once t (c.stat.ensures.only_read.told ∙ told) c.in_ok-work.ensures
    (folder_is_some t c.in_ok-work.work c.in_ok-stat.field-0 (c.in_ok-stat.ensures.kind t told) c.in-Folder.is under) fault due)

pub returns-in_default-clause-at_once : goal.returns-in_default-clause-at_once
returns-in_default-clause-at_once g c = λ t told fault due. record {
  answer =
      let under = subst (λ at. is_root at ≡ false) (sym c.in_ok-work.ensures) (work_under c.args.project.now) in
      let leaf = leaf_shown t c.in_ok-work.work c.in_ok-stat.field-0 (c.in_ok-stat.ensures.kind t told) c.in_default.not-Folder c.in_default.not-Absent in
      ap faults.OtherEntry c.in_ok-work.ensures
      ∙ work_is_due c.args.project.now t fault (g.met.T.Tree.tells_trees c.args.tree.now t told)
      (subst (λ at. is_leaf (map.get t at) ≡ true) c.in_ok-work.ensures (sym (ap is_leaf (entry_is t c.in_ok-work.work under)) ∙ leaf)) due;
  only_read = c.in_ok-stat.ensures.only_read;
}

pub returns-in-Folder-clause-blocked : goal.returns-in-Folder-clause-blocked
returns-in-Folder-clause-blocked g c = λ path is t told. c.finish_claimed.ensures.blocked path is t (c.stat.ensures.only_read.told ∙ told) c.in_ok-work.ensures

pub returns-in_default-clause-blocked : goal.returns-in_default-clause-blocked
returns-in_default-clause-blocked g c = λ path is t told.
    let under = subst (λ at. is_root at ≡ false) (sym c.in_ok-work.ensures) (work_under c.args.project.now) in
    let leaf = leaf_shown t c.in_ok-work.work c.in_ok-stat.field-0 (c.in_ok-stat.ensures.kind t told) c.in_default.not-Folder c.in_default.not-Absent in
    let at = c.in_ok-work.ensures in
    inl (inl (cc, subst (λ at. is_leaf (map.get t at) ≡ true) c.in_ok-work.ensures (sym (ap is_leaf (entry_is t c.in_ok-work.work under)) ∙ leaf)))

pub returns-in-Absent-clause-free : goal.returns-in-Absent-clause-free
returns-in-Absent-clause-free g c = λ t told journal has number target part path blocked.
    let none = subst (λ at. map.get t at ≡ None) c.in_ok-work.ensures (absent_is_none t c.in_ok-work.work c.in_ok-stat.field-0 (c.in_ok-stat.ensures.kind t told) c.in-Absent.is) in
    let absent = (no_work_no_journal c.args.project.now t (g.met.T.Tree.tells_trees c.args.tree.now t told) none).absent in
    let there = has.there in cc

pub returns-in-Folder-clause-free : goal.returns-in-Folder-clause-free
returns-in-Folder-clause-free g c = on_ok_weaker c.finish_claimed.result
    (λ free t told. free t (c.stat.ensures.only_read.told ∙ told) c.in_ok-work.ensures)
    c.finish_claimed.ensures.free
