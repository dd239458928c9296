use Rattle.std.proofs.Common.{◌≡◌, ◌<◌, ◌^◌, length, ap, ◌∙◌, sym, subst, None, Some}
use Rattle.std.specs.FinMap as map
use Rattle.tree_dev.specs.declared.entry.Entry.TheVariants.{File, Folder}
use Rattle.std.proofs.lemmas.Result.{IfOk-weaker, err_from_is_err_and, on_ok_weaker}
use Rattle.tree_dev.specs.Device.{only_read_on}
use Rattle.tree_dev.proofs.Stretches.{through_from, through_on}
use Rattle.tree_dev.proofs.Whole.{through_then_read}
use Rattle.install_world.specs.InFlight.{IsFinishedProject, IsInFlight, NoJournal}
use Rattle.install_world.specs.Recovery.{ended_by}
use Rattle.install_world.specs.Removals.{OnlyRemoved}
use Rattle.install_world.proofs.JournalEnds.{no_journal_left, parts_left}
use Rattle.install_world.proofs.RecoveryRules.{image_reads, at_is, images_read, own_files}
use Rattle.install_world.proofs.RemovalRules.{writes_none_on, writes_none_read, writes_none_start}
use Rattle.install_world.proofs.Segments.{journal_segment}
use Rattle.std.proofs.Common.{refl, ℕ, List}
use Rattle.std.specs.Prelude.{Option}
use Rattle.tree_dev.specs.Changes.{is_root}
use Rattle.std.proofs.Common.{inl, inr}
use Rattle.tree_dev.specs.declared.limits.LimitKind.TheVariants.{FileBytes}
use Rattle.install_world.specs.Recovery.{IsLong, IsReadable}
use Rattle.install_world.proofs.RecoveryCauses.{other_entry}
use Rattle.install_world.specs.declared.recovery_fault.Recovered.{Recovered}
use Rattle.install_world.proofs.RecoveryFits.{journal_readable, journal_under, refused_again}
use Rattle.install_world.proofs.FoldersThere.{still_there}
use Rattle.install_world.proofs.FinishAgain.{keeps_read, keeps_same}
use Rattle.install_world.specs.JournalText.{Says}
use Rattle.install_world.proofs.RecoveryCauses.{with_text, without_text}
use Rattle.tree_dev.specs.Trees.{FileTree}
use Rattle.tree_dev.specs.Projects.{file_at, journal_path}
use Rattle.install_world.proofs.FinishSteps.{reads_then}
use Rattle.install_world.proofs.FinishStops.{stops_at_once}
use Rattle.tree_dev.specs.Device.{only_read_refl}
use Rattle.install_world.specs.AtOnce.{IsUnreadable}
use Rattle.install_world.specs.JournalText.{IsBadJournal}
use Rattle.install_world.specs.declared.recovery_fault.RecoverFault.TheVariants as faults
use Rattle.install_world.proofs.AtOnce.{free_refused, journal_is_due, nothing_is_due_without, refused_after, refused_on, text_is_bad}
use Rattle.install_world.specs.AtOnce.{IsNoFile}
use Rattle.install_world.proofs.AtOnce.{other_stops, same_text}
use Rattle.install_world.proofs.recovery.finish_claimed.Goals as goal

pub child-requires : goal.child-requires
child-requires g c = journal_segment

pub returns-in_err-at-clause-writes_none : goal.returns-in_err-at-clause-writes_none
returns-in_err-at-clause-writes_none g c = let p = err_from_is_err_and c.from_residual.result c.from_residual.ensures.1 in rw (p.1, p.2) (writes_none_start _)

pub returns-in_err-at-clause-through : goal.returns-in_err-at-clause-through
returns-in_err-at-clause-through g c = λ t told surroundings old new is_work each. through_from (IsInFlight c.args.project.now surroundings old new) _ each

pub returns-in_err-read_text-clause-writes_none : goal.returns-in_err-read_text-clause-writes_none
returns-in_err-read_text-clause-writes_none g c =
    let p = err_from_is_err_and c.from_residual-in_err-read_text.result c.from_residual-in_err-read_text.ensures.1 in
    rw (p.1, p.2) (writes_none_read _ _ _ _ c.in_err-read_text.ensures.only_read (writes_none_start _))

pub returns-in_err-read_text-clause-through : goal.returns-in_err-read_text-clause-through
returns-in_err-read_text-clause-through g c = λ t told surroundings old new is_work each.
    through_then_read (IsInFlight c.args.project.now surroundings old new) _ _ _ _ c.read_text.ensures.only_read (through_from (IsInFlight c.args.project.now surroundings old new) _ each)

pub returns-in_err-read_text-clause-bad : goal.returns-in_err-read_text-clause-bad
returns-in_err-read_text-clause-bad g c = λ place is.
    let p = err_from_is_err_and c.from_residual-in_err-read_text.result c.from_residual-in_err-read_text.ensures.1 in
    let given = p.1 in
    let from = p.2 in
    absurd (c.in_err-read_text.ensures.not_bad place cc)

pub returns-in-None-clause-writes_none : goal.returns-in-None-clause-writes_none
returns-in-None-clause-writes_none g c =
    writes_none_on _ _ _ _ c.take_install_away.ensures.writes_none (writes_none_read _ _ _ _ c.in_ok-read_text.ensures.only_read (writes_none_start _))

pub returns-in-None-clause-through : goal.returns-in-None-clause-through
returns-in-None-clause-through g c = λ t told surroundings old new is_work each.
    let is_at = at_is c.args.project.now c.args.work.now c.in_ok-at.at is_work c.in_ok-at.ensures in
    let none : map.get t c.in_ok-at.at ≡ None = rw c.in-None.is at (c.in_ok-read_text.ensures.text t told) in
    let nothing : NoJournal c.args.project.now t = record { absent = subst (λ path. map.get t path ≡ None) is_at none } in
    through_on (IsInFlight c.args.project.now surroundings old new) _ _ _
    (through_then_read (IsInFlight c.args.project.now surroundings old new) _ _ _ _ c.read_text.ensures.only_read (through_from (IsInFlight c.args.project.now surroundings old new) _ each))
    (c.take_install_away.ensures.through t (c.read_text.ensures.only_read.told ∙ told) c.args.project.now surroundings old new is_work nothing
    (images_read (IsInFlight c.args.project.now surroundings old new) _ _ _ c.read_text.ensures.only_read each))

pub returns-in-None-clause-found : goal.returns-in-None-clause-found
returns-in-None-clause-found g c = IfOk-weaker c.take_install_away.result _ _
    (λ found is t told is_work.
    let is_at = at_is c.args.project.now c.args.work.now c.in_ok-at.at is_work c.in_ok-at.ensures in
    let none : map.get t c.in_ok-at.at ≡ None = rw c.in-None.is at (c.in_ok-read_text.ensures.text t told) in
    is ∙ sym (ap ended_by (subst (λ path. map.get t path ≡ None) is_at none)))
    c.take_install_away.ensures.found

pub returns-in-None-clause-finished : goal.returns-in-None-clause-finished
returns-in-None-clause-finished g c = on_ok_weaker c.take_install_away.result
    (λ only t told files is_work finished.
    let is_at = at_is c.args.project.now c.args.work.now c.in_ok-at.at is_work c.in_ok-at.ensures in
    let none : map.get t c.in_ok-at.at ≡ None = rw c.in-None.is at (c.in_ok-read_text.ensures.text t told) in
    let nothing : NoJournal c.args.project.now t = record { absent = subst (λ path. map.get t path ≡ None) is_at none } in
    λ left image.
    let removed = subst (λ at. OnlyRemoved at t left) is_work (only t (c.read_text.ensures.only_read.told ∙ told) left image) in
    record {
      no_journal = no_journal_left c.args.project.now t left removed nothing;
      has_files = parts_left c.args.project.now files t left removed (own_files c.args.project.now t files nothing finished);
    })
    c.take_install_away.ensures.left

pub returns-in-None-clause-bad : goal.returns-in-None-clause-bad
returns-in-None-clause-bad g c = λ place is. absurd (c.take_install_away.ensures.not_bad place is)

pub returns-clause-writes_none : goal.returns-clause-writes_none
returns-clause-writes_none g c =
    writes_none_on _ _ _ _ c.finish_text.ensures.writes_none (writes_none_read _ _ _ _ c.in_ok-read_text.ensures.only_read (writes_none_start _))

pub returns-clause-through : goal.returns-clause-through
returns-clause-through g c = λ t told surroundings old new is_work each.
    let is_at = at_is c.args.project.now c.args.work.now c.in_ok-at.at is_work c.in_ok-at.ensures in
    let file : (map.get t c.in_ok-at.at ≡ Some (File c.in-Some.text)) × (length c.in-Some.text < 2 ^ 64) = rw c.in-Some.is at (c.in_ok-read_text.ensures.text t told) in
    through_on (IsInFlight c.args.project.now surroundings old new) _ _ _
    (through_then_read (IsInFlight c.args.project.now surroundings old new) _ _ _ _ c.read_text.ensures.only_read (through_from (IsInFlight c.args.project.now surroundings old new) _ each))
    (c.finish_text.ensures.through t (c.read_text.ensures.only_read.told ∙ told) surroundings old new is_work is_at
    (subst (λ bytes. map.get t c.in_ok-at.at ≡ Some (File bytes)) (sym c.as_slice.ensures) file.0)
    (subst (λ bytes. length bytes < 2 ^ 64) (sym c.as_slice.ensures) file.1)
    (images_read (IsInFlight c.args.project.now surroundings old new) _ _ _ c.read_text.ensures.only_read each))

pub returns-clause-found : goal.returns-clause-found
returns-clause-found g c = IfOk-weaker c.finish_text.result _ _
    (λ found is t told is_work.
    let is_at = at_is c.args.project.now c.args.work.now c.in_ok-at.at is_work c.in_ok-at.ensures in
    let file : (map.get t c.in_ok-at.at ≡ Some (File c.in-Some.text)) × (length c.in-Some.text < 2 ^ 64) = rw c.in-Some.is at (c.in_ok-read_text.ensures.text t told) in
    is ∙ sym (ap ended_by (subst (λ path. map.get t path ≡ Some (File c.in-Some.text)) is_at file.0)))
    c.finish_text.ensures.found

pub returns-clause-finished : goal.returns-clause-finished
returns-clause-finished g c = on_ok_weaker c.finish_text.result
    (λ done t told files is_work finished.
    let is_at = at_is c.args.project.now c.args.work.now c.in_ok-at.at is_work c.in_ok-at.ensures in
    let file : (map.get t c.in_ok-at.at ≡ Some (File c.in-Some.text)) × (length c.in-Some.text < 2 ^ 64) = rw c.in-Some.is at (c.in_ok-read_text.ensures.text t told) in
    done t (c.read_text.ensures.only_read.told ∙ told) files is_work is_at
    (subst (λ bytes. map.get t c.in_ok-at.at ≡ Some (File bytes)) (sym c.as_slice.ensures) file.0)
    (subst (λ bytes. length bytes < 2 ^ 64) (sym c.as_slice.ensures) file.1) finished)
    c.finish_text.ensures.finished

pub returns-clause-bad : goal.returns-clause-bad
returns-clause-bad g c = λ place is.
    let found = c.finish_text.ensures.bad place is in (
      only_read_on c.in_ok-read_text.ensures.only_read found.1,
      λ t told is_work.
          let is_at = at_is c.args.project.now c.args.work.now c.in_ok-at.at is_work c.in_ok-at.ensures in
          let file : (map.get t c.in_ok-at.at ≡ Some (File c.in-Some.text)) × (length c.in-Some.text < 2 ^ 64) = rw c.in-Some.is at (c.in_ok-read_text.ensures.text t told) in
          record {
            text = c.as_slice.result.now;
            there = subst (λ path. map.get t path ≡ Some (File c.as_slice.result.now)) is_at (subst (λ bytes. map.get t c.in_ok-at.at ≡ Some (File bytes)) (sym c.as_slice.ensures) file.0);
            bad = found.0;
          },
    )

pub returns-in_err-at-clause-fits : goal.returns-in_err-at-clause-fits
returns-in_err-at-clause-fits g c = let p = err_from_is_err_and c.from_residual.result c.from_residual.ensures.1 in rw (p.1, p.2) (λ t told surroundings old new is_work stands each can. refl)

pub returns-in_err-read_text-clause-fits : goal.returns-in_err-read_text-clause-fits
returns-in_err-read_text-clause-fits g c =
    let p = err_from_is_err_and c.from_residual-in_err-read_text.result c.from_residual-in_err-read_text.ensures.1 in
    rw (p.1, p.2) (λ t told surroundings old new is_work stands each can.
    let is_at = at_is c.args.project.now c.args.work.now c.in_ok-at.at is_work c.in_ok-at.ensures in
    let flight = image_reads (IsInFlight c.args.project.now surroundings old new) (g.T.Tree.meaning c.args.tree.now) t (g.met.T.Tree.tells_its_disk c.args.tree.now t told) each in
    refused_again (Option (List ℕ)) Recovered c.in_err-read_text.field-0.0
    (c.in_err-read_text.ensures.fits t told (ap is_root is_at ∙ journal_under c.args.project.now)
    (subst (λ path. IsReadable path t) (sym is_at) (journal_readable c.args.project.now surroundings old new t flight can))))

pub returns-in-None-clause-fits : goal.returns-in-None-clause-fits
returns-in-None-clause-fits g c = λ t told surroundings old new is_work stands each can.
    c.take_install_away.ensures.fits t (c.read_text.ensures.only_read.told ∙ told) stands

pub returns-clause-fits : goal.returns-clause-fits
returns-clause-fits g c = λ t told surroundings old new is_work stands each can.
    let is_at = at_is c.args.project.now c.args.work.now c.in_ok-at.at is_work c.in_ok-at.ensures in
    let file : (map.get t c.in_ok-at.at ≡ Some (File c.in-Some.text)) × (length c.in-Some.text < 2 ^ 64) = rw c.in-Some.is at (c.in_ok-read_text.ensures.text t told) in
    c.finish_text.ensures.fits t (c.read_text.ensures.only_read.told ∙ told) surroundings old new is_work is_at
    (subst (λ bytes. map.get t c.in_ok-at.at ≡ Some (File bytes)) (sym c.as_slice.ensures) file.0)
    (subst (λ bytes. length bytes < 2 ^ 64) (sym c.as_slice.ensures) file.1)
    (images_read (IsInFlight c.args.project.now surroundings old new) _ _ _ c.read_text.ensures.only_read each)

pub returns-in_err-read_text-clause-other : goal.returns-in_err-read_text-clause-other
returns-in_err-read_text-clause-other g c = λ path is.
    let p = err_from_is_err_and c.from_residual-in_err-read_text.result c.from_residual-in_err-read_text.ensures.1 in
    let given = p.1 in
    let from = p.2 in
    let found = c.in_err-read_text.ensures.other path cc in
    λ t told is_work.
    let is_at = at_is c.args.project.now c.args.work.now c.in_ok-at.at is_work c.in_ok-at.ensures in
    other_entry c.args.project.now path t (found.0 ∙ is_at) (found.1 t told (ap is_root (found.0 ∙ is_at) ∙ journal_under c.args.project.now))

pub returns-in_err-read_text-clause-limit : goal.returns-in_err-read_text-clause-limit
returns-in_err-read_text-clause-limit g c = λ limit is is_work.
    let p = err_from_is_err_and c.from_residual-in_err-read_text.result c.from_residual-in_err-read_text.ensures.1 in
    let given = p.1 in
    let from = p.2 in
    let found = c.in_err-read_text.ensures.limit limit cc in
    let is_at = at_is c.args.project.now c.args.work.now c.in_ok-at.at is_work c.in_ok-at.ensures in
    (found.0 ∙ ap FileBytes is_at, (found.1.0, λ t told. subst (λ at. IsLong at t) is_at (found.1.1 t told (ap is_root is_at ∙ journal_under c.args.project.now))))

pub returns-in-None-clause-other : goal.returns-in-None-clause-other
returns-in-None-clause-other g c = λ path is. absurd (c.take_install_away.ensures.not_other path is)

pub returns-in-None-clause-limit : goal.returns-in-None-clause-limit
returns-in-None-clause-limit g c = λ limit is. absurd (c.take_install_away.ensures.not_limit limit is)

pub returns-clause-other : goal.returns-clause-other
returns-clause-other g c = λ path is t told is_work. record { kind = inl (c.finish_text.ensures.other path is t told) }

pub returns-clause-limit : goal.returns-clause-limit
returns-clause-limit g c = λ limit is. absurd (c.finish_text.ensures.not_limit limit is)

pub returns-in_err-at-clause-never_vanished : goal.returns-in_err-at-clause-never_vanished
returns-in_err-at-clause-never_vanished g c = let p = err_from_is_err_and c.from_residual.result c.from_residual.ensures.1 in rw (p.1, p.2) (λ t told is_work stands. refl)

pub returns-in_err-read_text-clause-never_vanished : goal.returns-in_err-read_text-clause-never_vanished
returns-in_err-read_text-clause-never_vanished g c = let p = err_from_is_err_and c.from_residual-in_err-read_text.result c.from_residual-in_err-read_text.ensures.1 in rw (p.1, p.2) (λ t told is_work stands. still_there (Option (List ℕ)) Recovered c.in_err-read_text.field-0.0 c.in_err-read_text.ensures.never_vanished)

pub returns-in-None-clause-never_vanished : goal.returns-in-None-clause-never_vanished
returns-in-None-clause-never_vanished g c = λ t told is_work stands. c.take_install_away.ensures.never_vanished t (c.read_text.ensures.only_read.told ∙ told) stands

pub returns-clause-never_vanished : goal.returns-clause-never_vanished
returns-clause-never_vanished g c = λ t told is_work stands.
    let is_at = at_is c.args.project.now c.args.work.now c.in_ok-at.at is_work c.in_ok-at.ensures in
    let file : (map.get t c.in_ok-at.at ≡ Some (File c.in-Some.text)) × (length c.in-Some.text < 2 ^ 64) = rw c.in-Some.is at (c.in_ok-read_text.ensures.text t told) in
    c.finish_text.ensures.never_vanished t (c.read_text.ensures.only_read.told ∙ told) is_work is_at
    (subst (λ bytes. map.get t c.in_ok-at.at ≡ Some (File bytes)) (sym c.as_slice.ensures) file.0)
    (subst (λ bytes. length bytes < 2 ^ 64) (sym c.as_slice.ensures) file.1)

pub returns-in_err-at-clause-again : goal.returns-in_err-at-clause-again
returns-in_err-at-clause-again g c = λ t told is_work. keeps_same c.args.project.now t _ (sym (g.met.T.Tree.tells_its_disk c.args.tree.now t told).reads)

pub returns-in_err-read_text-clause-again : goal.returns-in_err-read_text-clause-again
returns-in_err-read_text-clause-again g c = λ t told is_work.
    keeps_read c.args.project.now _ _ t _ (g.met.T.Tree.tells_its_disk c.args.tree.now t told) c.read_text.ensures.only_read

pub returns-in-None-clause-again : goal.returns-in-None-clause-again
returns-in-None-clause-again g c = λ t told is_work.
    let is_at = at_is c.args.project.now c.args.work.now c.in_ok-at.at is_work c.in_ok-at.ensures in
    let none : map.get t c.in_ok-at.at ≡ None = rw c.in-None.is at (c.in_ok-read_text.ensures.text t told) in
    c.take_install_away.ensures.again t (c.read_text.ensures.only_read.told ∙ told) c.args.project.now is_work
    (record { absent = subst (λ path. map.get t path ≡ None) is_at none })

pub returns-clause-again : goal.returns-clause-again
returns-clause-again g c = λ t told is_work.
    let is_at = at_is c.args.project.now c.args.work.now c.in_ok-at.at is_work c.in_ok-at.ensures in
    let file : (map.get t c.in_ok-at.at ≡ Some (File c.in-Some.text)) × (length c.in-Some.text < 2 ^ 64) = rw c.in-Some.is at (c.in_ok-read_text.ensures.text t told) in
    c.finish_text.ensures.again t (c.read_text.ensures.only_read.told ∙ told) is_work is_at
    (subst (λ bytes. map.get t c.in_ok-at.at ≡ Some (File bytes)) (sym c.as_slice.ensures) file.0)
    (subst (λ bytes. length bytes < 2 ^ 64) (sym c.as_slice.ensures) file.1)

pub returns-in-None-clause-only : goal.returns-in-None-clause-only
returns-in-None-clause-only g c = on_ok_weaker c.take_install_away.result
    (λ left t told is_work stands.
    let is_at = at_is c.args.project.now c.args.work.now c.in_ok-at.at is_work c.in_ok-at.ensures in
    let none : map.get t c.in_ok-at.at ≡ None = rw c.in-None.is at (c.in_ok-read_text.ensures.text t told) in
    without_text c.args.project.now t (subst (λ path. map.get t path ≡ Some Folder) is_work stands) (subst (λ path. map.get t path ≡ None) is_at none))
    c.take_install_away.ensures.left

pub returns-clause-only : goal.returns-clause-only
returns-clause-only g c = on_ok_weaker c.finish_text.result
    (λ says t told is_work stands.
    let is_at = at_is c.args.project.now c.args.work.now c.in_ok-at.at is_work c.in_ok-at.ensures in
    let file : (map.get t c.in_ok-at.at ≡ Some (File c.in-Some.text)) × (length c.in-Some.text < 2 ^ 64) = rw c.in-Some.is at (c.in_ok-read_text.ensures.text t told) in
    with_text c.args.project.now t c.in-Some.text (subst (λ path. map.get t path ≡ Some Folder) is_work stands)
    (subst (λ path. map.get t path ≡ Some (File c.in-Some.text)) is_at file.0)
    (subst (λ path. IsReadable path t) is_at (c.in_ok-read_text.ensures.readable t told (ap is_root is_at ∙ journal_under c.args.project.now)))
    says.0 (subst (λ bytes. Says bytes says.0) c.as_slice.ensures says.1))
    c.finish_text.ensures.says

pub returns-in_err-read_text-clause-stops : goal.returns-in_err-read_text-clause-stops
returns-in_err-read_text-clause-stops g c = λ path is t told journal is_work has. (
  0,
  stops_at_once c.args.project.now journal t _ (λ at. ap (λ (w : FileTree). file_at w at)
      (reads_then _ _ t _ (g.met.T.Tree.tells_its_disk c.args.tree.now t told) c.read_text.ensures.only_read)),
)

pub returns-in-None-clause-stops : goal.returns-in-None-clause-stops
returns-in-None-clause-stops g c = λ path is. absurd (c.take_install_away.ensures.not_other path is)

pub returns-clause-stops : goal.returns-clause-stops
returns-clause-stops g c = λ path is t told journal is_work has.
    let is_at = at_is c.args.project.now c.args.work.now c.in_ok-at.at is_work c.in_ok-at.ensures in
    let file : (map.get t c.in_ok-at.at ≡ Some (File c.in-Some.text)) × (length c.in-Some.text < 2 ^ 64) = rw c.in-Some.is at (c.in_ok-read_text.ensures.text t told) in
    let here : map.get t (journal_path c.args.project.now) ≡ Some (File c.in-Some.text) = subst (λ path. map.get t path ≡ Some (File c.in-Some.text)) is_at file.0 in
    let both = sym has.there ∙ here in
    let text : has.text ≡ c.in-Some.text = cc in
    c.finish_text.ensures.stops path is t (c.read_text.ensures.only_read.told ∙ told) journal is_at
    (subst (λ bytes. map.get t c.in_ok-at.at ≡ Some (File bytes)) (sym c.as_slice.ensures) file.0)
    (subst (λ bytes. length bytes < 2 ^ 64) (sym c.as_slice.ensures) file.1)
    (subst (λ bytes. Says bytes journal) (text ∙ sym c.as_slice.ensures) has.says)

pub returns-in_err-at-clause-ends : goal.returns-in_err-at-clause-ends
returns-in_err-at-clause-ends g c = λ t told surroundings old new files is_work each same. through_from (λ (left : FileTree). IsFinishedProject c.args.project.now left files) _ same

pub returns-in_err-read_text-clause-ends : goal.returns-in_err-read_text-clause-ends
returns-in_err-read_text-clause-ends g c = λ t told surroundings old new files is_work each same.
    through_then_read (λ (left : FileTree). IsFinishedProject c.args.project.now left files) _ _ _ _ c.read_text.ensures.only_read (through_from (λ (left : FileTree). IsFinishedProject c.args.project.now left files) _ same)

pub returns-in-None-clause-ends : goal.returns-in-None-clause-ends
returns-in-None-clause-ends g c = λ t told surroundings old new files is_work each same.
    let is_at = at_is c.args.project.now c.args.work.now c.in_ok-at.at is_work c.in_ok-at.ensures in
    let none : map.get t c.in_ok-at.at ≡ None = rw c.in-None.is at (c.in_ok-read_text.ensures.text t told) in
    let nothing : NoJournal c.args.project.now t = record { absent = subst (λ path. map.get t path ≡ None) is_at none } in
    through_on (λ (left : FileTree). IsFinishedProject c.args.project.now left files) _ _ _ (through_then_read (λ (left : FileTree). IsFinishedProject c.args.project.now left files) _ _ _ _ c.read_text.ensures.only_read (through_from (λ (left : FileTree). IsFinishedProject c.args.project.now left files) _ same))
    (c.take_install_away.ensures.ends t (c.read_text.ensures.only_read.told ∙ told) c.args.project.now files is_work nothing (images_read (λ (left : FileTree). IsFinishedProject c.args.project.now left files) _ _ _ c.read_text.ensures.only_read same))

pub returns-clause-ends : goal.returns-clause-ends
returns-clause-ends g c = λ t told surroundings old new files is_work each same.
    let is_at = at_is c.args.project.now c.args.work.now c.in_ok-at.at is_work c.in_ok-at.ensures in
    let file : (map.get t c.in_ok-at.at ≡ Some (File c.in-Some.text)) × (length c.in-Some.text < 2 ^ 64) = rw c.in-Some.is at (c.in_ok-read_text.ensures.text t told) in
    through_on (λ (left : FileTree). IsFinishedProject c.args.project.now left files) _ _ _ (through_then_read (λ (left : FileTree). IsFinishedProject c.args.project.now left files) _ _ _ _ c.read_text.ensures.only_read (through_from (λ (left : FileTree). IsFinishedProject c.args.project.now left files) _ same))
    (c.finish_text.ensures.ends t (c.read_text.ensures.only_read.told ∙ told) surroundings old new files is_work is_at
    (subst (λ bytes. map.get t c.in_ok-at.at ≡ Some (File bytes)) (sym c.as_slice.ensures) file.0)
    (subst (λ bytes. length bytes < 2 ^ 64) (sym c.as_slice.ensures) file.1)
    (images_read (IsInFlight c.args.project.now surroundings old new) _ _ _ c.read_text.ensures.only_read each) (images_read (λ (left : FileTree). IsFinishedProject c.args.project.now left files) _ _ _ c.read_text.ensures.only_read same))

pub returns-in_err-at-clause-at_once : goal.returns-in_err-at-clause-at_once
returns-in_err-at-clause-at_once g c =
    let p = err_from_is_err_and c.from_residual.result c.from_residual.ensures.1 in
    rw (p.1, p.2) (λ t told is_work folder fault due. record { answer = tt; only_read = only_read_refl _ })

pub returns-in_err-read_text-clause-at_once : goal.returns-in_err-read_text-clause-at_once
returns-in_err-read_text-clause-at_once g c =
    let p = err_from_is_err_and c.from_residual-in_err-read_text.result c.from_residual-in_err-read_text.ensures.1 in
    rw (p.1, p.2) (λ t told is_work folder fault due.
    let is_at = at_is c.args.project.now c.args.work.now c.in_ok-at.at is_work c.in_ok-at.ensures in
    let under = ap is_root is_at ∙ journal_under c.args.project.now in
    elim (journal_is_due c.args.project.now t fault (subst (λ path. map.get t path ≡ Some Folder) is_work folder) due) [
      | inl unreadable ↦ refused_on (Option (List ℕ)) Recovered fault _ _ c.in_err-read_text.field-0.0
          (c.in_err-read_text.ensures.at_once t told under fault (subst (λ path. IsUnreadable path t fault) (sym is_at) unreadable))
      | inr bad ↦ free_refused (Option (List ℕ)) Recovered fault _ _ c.in_err-read_text.field-0.0
          (c.in_err-read_text.ensures.fits t told under (subst (λ path. IsReadable path t) (sym is_at) bad.3)) c.in_err-read_text.ensures.only_read
    ])

pub returns-in-None-clause-at_once : goal.returns-in-None-clause-at_once
returns-in-None-clause-at_once g c = λ t told is_work folder fault due.
    let is_at = at_is c.args.project.now c.args.work.now c.in_ok-at.at is_work c.in_ok-at.ensures in
    let none : map.get t c.in_ok-at.at ≡ None = rw c.in-None.is at (c.in_ok-read_text.ensures.text t told) in
    absurd (nothing_is_due_without c.args.project.now t fault (subst (λ path. map.get t path ≡ Some Folder) is_work folder)
    (subst (λ path. map.get t path ≡ None) is_at none) due)

pub returns-clause-at_once : goal.returns-clause-at_once
returns-clause-at_once g c = λ t told is_work folder fault due.
    let is_at = at_is c.args.project.now c.args.work.now c.in_ok-at.at is_work c.in_ok-at.ensures in
    let file : (map.get t c.in_ok-at.at ≡ Some (File c.in-Some.text)) × (length c.in-Some.text < 2 ^ 64) = rw c.in-Some.is at (c.in_ok-read_text.ensures.text t told) in
    let bad = text_is_bad c.args.project.now t fault (subst (λ path. map.get t path ≡ Some Folder) is_work folder) c.in-Some.text
    (subst (λ path. map.get t path ≡ Some (File c.in-Some.text)) is_at file.0)
    (subst (λ path. IsReadable path t) is_at (c.in_ok-read_text.ensures.readable t told (ap is_root is_at ∙ journal_under c.args.project.now))) due in
    refused_after fault (faults.BadJournal bad.0) bad.1 _ _ _ _ c.in_ok-read_text.ensures.only_read
    (c.finish_text.ensures.at_once bad.0 (subst (λ bytes. IsBadJournal bytes bad.0) (sym c.as_slice.ensures) bad.2))

pub returns-in_err-read_text-clause-blocked : goal.returns-in_err-read_text-clause-blocked
returns-in_err-read_text-clause-blocked g c = λ path is.
    let p = err_from_is_err_and c.from_residual-in_err-read_text.result c.from_residual-in_err-read_text.ensures.1 in
    let given = p.1 in
    let from = p.2 in
    let found = c.in_err-read_text.ensures.unread path cc in
    λ t told is_work.
    let is_at = at_is c.args.project.now c.args.work.now c.in_ok-at.at is_work c.in_ok-at.ensures in
    other_stops c.args.project.now t path (found.0 ∙ is_at) (subst (λ at. IsNoFile at t) is_at (found.1 t told (ap is_root is_at ∙ journal_under c.args.project.now)))

pub returns-in-None-clause-blocked : goal.returns-in-None-clause-blocked
returns-in-None-clause-blocked g c = λ path is. absurd (c.take_install_away.ensures.not_other path is)

pub returns-clause-blocked : goal.returns-clause-blocked
returns-clause-blocked g c = λ path is t told is_work.
    let is_at = at_is c.args.project.now c.args.work.now c.in_ok-at.at is_work c.in_ok-at.ensures in
    let file : (map.get t c.in_ok-at.at ≡ Some (File c.in-Some.text)) × (length c.in-Some.text < 2 ^ 64) = rw c.in-Some.is at (c.in_ok-read_text.ensures.text t told) in
    c.finish_text.ensures.blocked path is t (c.read_text.ensures.only_read.told ∙ told) is_at
    (subst (λ bytes. map.get t c.in_ok-at.at ≡ Some (File bytes)) (sym c.as_slice.ensures) file.0)
    (subst (λ bytes. length bytes < 2 ^ 64) (sym c.as_slice.ensures) file.1)

pub returns-in-None-clause-free : goal.returns-in-None-clause-free
returns-in-None-clause-free g c = on_ok_weaker c.take_install_away.result
    (λ left t told is_work journal has number target part path blocked.
    let is_at = at_is c.args.project.now c.args.work.now c.in_ok-at.at is_work c.in_ok-at.ensures in
    let none : map.get t c.in_ok-at.at ≡ None = rw c.in-None.is at (c.in_ok-read_text.ensures.text t told) in
    let absent = subst (λ path. map.get t path ≡ None) is_at none in
    let there = has.there in cc)
    c.take_install_away.ensures.left

pub returns-clause-free : goal.returns-clause-free
returns-clause-free g c = on_ok_weaker c.finish_text.result
    (λ free t told is_work journal has number target part path blocked.
    let is_at = at_is c.args.project.now c.args.work.now c.in_ok-at.at is_work c.in_ok-at.ensures in
    let file : (map.get t c.in_ok-at.at ≡ Some (File c.in-Some.text)) × (length c.in-Some.text < 2 ^ 64) = rw c.in-Some.is at (c.in_ok-read_text.ensures.text t told) in
    let same = same_text t (journal_path c.args.project.now) has.text c.in-Some.text has.there (subst (λ path. map.get t path ≡ Some (File c.in-Some.text)) is_at file.0) in
    free t (c.read_text.ensures.only_read.told ∙ told) journal is_at
    (subst (λ bytes. map.get t c.in_ok-at.at ≡ Some (File bytes)) (sym c.as_slice.ensures) file.0)
    (subst (λ bytes. length bytes < 2 ^ 64) (sym c.as_slice.ensures) file.1)
    (subst (λ bytes. Says bytes journal) (same ∙ sym c.as_slice.ensures) has.says) number target part path blocked)
    c.finish_text.ensures.free
