use Rattle.std.proofs.lemmas.Result.{err_from_is_err_and}
use Rattle.install_world.proofs.PartFinish.{shows_folder}
use Rattle.install_world.proofs.RemovalRules.{writes_none_on, writes_none_read, writes_none_start}
use Rattle.std.proofs.Common.{refl, sym, ◌∙◌}
use Rattle.install_world.proofs.FinishSteps.{leaf_shown, made_on, made_read}
use Rattle.install_world.proofs.FoldersThere.{folder_shown}
use Rattle.install_world.proofs.PartDone.{absent_is_none}
use Rattle.install_world.proofs.parts.need_folder.Goals as goal

pub returns-in_err-stat-clause-writes_none : goal.returns-in_err-stat-clause-writes_none
returns-in_err-stat-clause-writes_none g c =
    let p = err_from_is_err_and c.from_residual.result c.from_residual.ensures.1 in
    rw (p.1, p.2) (writes_none_read _ _ _ _ c.in_err-stat.ensures.only_read (writes_none_start _))

pub returns-in_err-stat-clause-still : goal.returns-in_err-stat-clause-still
returns-in_err-stat-clause-still g c = λ t told there. c.stat.ensures.only_read.disks

pub returns-in-Folder-clause-writes_none : goal.returns-in-Folder-clause-writes_none
returns-in-Folder-clause-writes_none g c = writes_none_read _ _ _ _ c.in_ok-stat.ensures.only_read (writes_none_start _)

pub returns-in-Folder-clause-still : goal.returns-in-Folder-clause-still
returns-in-Folder-clause-still g c = λ t told there. c.stat.ensures.only_read.disks

pub returns-in-Absent-clause-writes_none : goal.returns-in-Absent-clause-writes_none
returns-in-Absent-clause-writes_none g c =
    writes_none_on _ _ _ _ c.make_missing.ensures.writes_none (writes_none_read _ _ _ _ c.in_ok-stat.ensures.only_read (writes_none_start _))

pub returns-in-Absent-clause-still : goal.returns-in-Absent-clause-still
returns-in-Absent-clause-still g c = λ t told there.
    let shown = shows_folder t c.args.at.now c.in_ok-stat.field-0 (c.in_ok-stat.ensures.kind t told) there in let absent = c.in-Absent.is in absurd cc

pub returns-in_err-copy-in_default-clause-writes_none : goal.returns-in_err-copy-in_default-clause-writes_none
returns-in_err-copy-in_default-clause-writes_none g c =
    let p = err_from_is_err_and c.from_residual-in_err-copy-in_default.result c.from_residual-in_err-copy-in_default.ensures.1 in
    rw (p.1, p.2) (writes_none_read _ _ _ _ c.in_ok-stat.ensures.only_read (writes_none_start _))

pub returns-in_err-copy-in_default-clause-still : goal.returns-in_err-copy-in_default-clause-still
returns-in_err-copy-in_default-clause-still g c = λ t told there. c.stat.ensures.only_read.disks

pub returns-in_ok-copy-in_default-clause-writes_none : goal.returns-in_ok-copy-in_default-clause-writes_none
returns-in_ok-copy-in_default-clause-writes_none g c =
    writes_none_read _ _ _ _ c.in_ok-stat.ensures.only_read (writes_none_start _)

pub returns-in_ok-copy-in_default-clause-still : goal.returns-in_ok-copy-in_default-clause-still
returns-in_ok-copy-in_default-clause-still g c = λ t told there. c.stat.ensures.only_read.disks

pub returns-in_err-stat-clause-fits : goal.returns-in_err-stat-clause-fits
returns-in_err-stat-clause-fits g c = let p = err_from_is_err_and c.from_residual.result c.from_residual.ensures.1 in rw (p.1, p.2) (λ t told there. refl)

pub returns-in-Absent-clause-fits : goal.returns-in-Absent-clause-fits
returns-in-Absent-clause-fits g c = λ t told there.
    let shown = shows_folder t c.args.at.now c.in_ok-stat.field-0 (c.in_ok-stat.ensures.kind t told) there in let absent = c.in-Absent.is in absurd cc

pub returns-in_err-copy-in_default-clause-fits : goal.returns-in_err-copy-in_default-clause-fits
returns-in_err-copy-in_default-clause-fits g c = let p = err_from_is_err_and c.from_residual-in_err-copy-in_default.result c.from_residual-in_err-copy-in_default.ensures.1 in rw (p.1, p.2) (λ t told there. refl)

pub returns-in_ok-copy-in_default-clause-fits : goal.returns-in_ok-copy-in_default-clause-fits
returns-in_ok-copy-in_default-clause-fits g c = λ t told there.
    absurd (c.in_default.not-Folder (shows_folder t c.args.at.now c.in_ok-stat.field-0 (c.in_ok-stat.ensures.kind t told) there))

pub returns-in_err-stat-clause-makes : goal.returns-in_err-stat-clause-makes
returns-in_err-stat-clause-makes g c = made_read c.args.at.now _ _ _ c.stat.ensures.only_read

pub returns-in-Folder-clause-makes : goal.returns-in-Folder-clause-makes
returns-in-Folder-clause-makes g c = made_read c.args.at.now _ _ _ c.stat.ensures.only_read

pub returns-in_err-copy-in_default-clause-makes : goal.returns-in_err-copy-in_default-clause-makes
returns-in_err-copy-in_default-clause-makes g c = made_read c.args.at.now _ _ _ c.stat.ensures.only_read

pub returns-in_ok-copy-in_default-clause-makes : goal.returns-in_ok-copy-in_default-clause-makes
returns-in_ok-copy-in_default-clause-makes g c = made_read c.args.at.now _ _ _ c.stat.ensures.only_read

pub returns-in-Absent-clause-makes : goal.returns-in-Absent-clause-makes
returns-in-Absent-clause-makes g c = made_on c.args.at.now _ _ _ (made_read c.args.at.now _ _ _ c.stat.ensures.only_read) c.make_missing.ensures.makes

pub returns-in-Absent-clause-cause : goal.returns-in-Absent-clause-cause
returns-in-Absent-clause-cause g c = λ path is. absurd (c.make_missing.ensures.not_other path is)

pub returns-in_ok-copy-in_default-clause-cause : goal.returns-in_ok-copy-in_default-clause-cause
returns-in_ok-copy-in_default-clause-cause g c = λ path is t told.
    let leaf = leaf_shown t c.args.at.now c.in_ok-stat.field-0 (c.in_ok-stat.ensures.kind t (sym c.stat.ensures.only_read.told ∙ told)) c.in_default.not-Folder c.in_default.not-Absent in
    let copied = c.in_ok-copy-in_default.ensures in
    cc

pub returns-in_err-stat-clause-never_vanished : goal.returns-in_err-stat-clause-never_vanished
returns-in_err-stat-clause-never_vanished g c = let p = err_from_is_err_and c.from_residual.result c.from_residual.ensures.1 in rw (p.1, p.2) (λ t told above. refl)

pub returns-in-Folder-clause-there : goal.returns-in-Folder-clause-there
returns-in-Folder-clause-there g c = λ t told.
    folder_shown t c.args.at.now c.in_ok-stat.field-0 (c.in_ok-stat.ensures.kind t (sym c.stat.ensures.only_read.told ∙ told)) c.in-Folder.is

pub returns-in-Absent-clause-never_vanished : goal.returns-in-Absent-clause-never_vanished
returns-in-Absent-clause-never_vanished g c = λ t told above.
    c.make_missing.ensures.never_vanished t (c.stat.ensures.only_read.told ∙ told)
    (absent_is_none t c.args.at.now c.in_ok-stat.field-0 (c.in_ok-stat.ensures.kind t told) c.in-Absent.is) above

pub returns-in_err-copy-in_default-clause-never_vanished : goal.returns-in_err-copy-in_default-clause-never_vanished
returns-in_err-copy-in_default-clause-never_vanished g c =
    let p = err_from_is_err_and c.from_residual-in_err-copy-in_default.result c.from_residual-in_err-copy-in_default.ensures.1 in rw (p.1, p.2) (λ t told above. refl)

pub returns-in-Absent-clause-at : goal.returns-in-Absent-clause-at
returns-in-Absent-clause-at g c = λ path is. absurd (c.make_missing.ensures.not_other path is)

pub returns-in_ok-copy-in_default-clause-at : goal.returns-in_ok-copy-in_default-clause-at
returns-in_ok-copy-in_default-clause-at g c = λ path is. let copied = c.in_ok-copy-in_default.ensures in cc
