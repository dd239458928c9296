use Rattle.std.proofs.lemmas.Result.{err_from_is_err_and, on_ok_weaker}
use Rattle.install_world.proofs.PartFinish.{shows_folder}
use Rattle.install_world.proofs.RemovalRules.{writes_none_on, writes_none_read, writes_none_start}
use Rattle.std.proofs.Common.{◌≡◌, ◌∙◌, ℕ, List, true, refl, subst, sym}
use Rattle.tree_dev.specs.Trees.{entry_at, is_folder}
use Rattle.install_world.proofs.FinishSteps.{made_on, made_read}
use Rattle.install_world.proofs.FoldersThere.{folder_shown}
use Rattle.std.proofs.Common.{ap, ◌++◌}
use Rattle.std.specs.FinMap as map
use Rattle.tree_dev.specs.Trees.{FileTree}
use Rattle.install_world.proofs.PartDone.{reads_same}
use Rattle.install_world.proofs.parts.make_up_to.Goals as goal

pub returns-in_err-stat-clause-writes_none : goal.returns-in_err-stat-clause-writes_none
returns-in_err-stat-clause-writes_none g c =
    let p = err_from_is_err_and c.from_residual.result c.from_residual.ensures.1 in
    rw (p.1, p.2) (writes_none_read _ _ _ _ c.in_err-stat.ensures.only_read (writes_none_start _))

pub returns-in_err-stat-clause-still : goal.returns-in_err-stat-clause-still
returns-in_err-stat-clause-still g c = λ t told there. c.stat.ensures.only_read.disks

pub returns-in-Folder-clause-writes_none : goal.returns-in-Folder-clause-writes_none
returns-in-Folder-clause-writes_none g c = writes_none_read _ _ _ _ c.in_ok-stat.ensures.only_read (writes_none_start _)

pub returns-in-Folder-clause-still : goal.returns-in-Folder-clause-still
returns-in-Folder-clause-still g c = λ t told there. c.stat.ensures.only_read.disks

pub returns-in_default-clause-writes_none : goal.returns-in_default-clause-writes_none
returns-in_default-clause-writes_none g c =
    writes_none_on _ _ _ _ c.make_above.ensures.writes_none (writes_none_read _ _ _ _ c.in_ok-stat.ensures.only_read (writes_none_start _))

pub returns-in_default-clause-still : goal.returns-in_default-clause-still
returns-in_default-clause-still g c = λ t told there.
    absurd (c.in_default.not-Folder (shows_folder t c.args.parent.now c.in_ok-stat.field-0 (c.in_ok-stat.ensures.kind t told) there))

pub returns-in_err-stat-clause-fits : goal.returns-in_err-stat-clause-fits
returns-in_err-stat-clause-fits g c = let p = err_from_is_err_and c.from_residual.result c.from_residual.ensures.1 in rw (p.1, p.2) (λ t told there. refl)

pub returns-in_default-clause-fits : goal.returns-in_default-clause-fits
returns-in_default-clause-fits g c = λ t told there.
    absurd (c.in_default.not-Folder (shows_folder t c.args.parent.now c.in_ok-stat.field-0 (c.in_ok-stat.ensures.kind t told) there))

pub returns-in_err-stat-clause-makes : goal.returns-in_err-stat-clause-makes
returns-in_err-stat-clause-makes g c = made_read _ _ _ _ c.stat.ensures.only_read

pub returns-in-Folder-clause-makes : goal.returns-in-Folder-clause-makes
returns-in-Folder-clause-makes g c = made_read _ _ _ _ c.stat.ensures.only_read

pub returns-in_default-clause-makes : goal.returns-in_default-clause-makes
returns-in_default-clause-makes g c = made_on _ _ _ _ (made_read _ _ _ _ c.stat.ensures.only_read) c.make_above.ensures.makes

pub returns-in_err-stat-clause-never_vanished : goal.returns-in_err-stat-clause-never_vanished
returns-in_err-stat-clause-never_vanished g c = let p = err_from_is_err_and c.from_residual.result c.from_residual.ensures.1 in rw (p.1, p.2) (λ t told folder. refl)

pub returns-in-Folder-clause-there : goal.returns-in-Folder-clause-there
returns-in-Folder-clause-there g c = λ t told folder above is same u now.
    folder_shown u c.args.parent.now c.in_ok-stat.field-0 (c.in_ok-stat.ensures.kind u (sym c.stat.ensures.only_read.told ∙ now)) c.in-Folder.is

pub returns-in_default-clause-never_vanished : goal.returns-in_default-clause-never_vanished
returns-in_default-clause-never_vanished g c = λ t told folder. c.make_above.ensures.never_vanished t (c.stat.ensures.only_read.told ∙ told) folder

pub returns-in_default-clause-there : goal.returns-in_default-clause-there
returns-in_default-clause-there g c = on_ok_weaker c.make_above.result
    (λ there t told folder above is same u now.
    subst (λ (p : List (List ℕ)). is_folder (entry_at u p) ≡ true) (sym same) (there t (c.stat.ensures.only_read.told ∙ told) folder above is u now))
    c.make_above.ensures.there

pub returns-in_default-clause-above : goal.returns-in_default-clause-above
returns-in_default-clause-above g c = λ at is. c.make_above.ensures.above at is

pub returns-in_err-stat-clause-misses : goal.returns-in_err-stat-clause-misses
returns-in_err-stat-clause-misses g c = ap (λ (w : FileTree). map.get w (c.args.project.now ++ c.args.target.now)) (reads_same _ _ _ c.stat.ensures.only_read)

pub returns-in-Folder-clause-misses : goal.returns-in-Folder-clause-misses
returns-in-Folder-clause-misses g c = ap (λ (w : FileTree). map.get w (c.args.project.now ++ c.args.target.now)) (reads_same _ _ _ c.stat.ensures.only_read)

pub returns-in_default-clause-misses : goal.returns-in_default-clause-misses
returns-in_default-clause-misses g c =
    c.make_above.ensures.misses ∙ ap (λ (w : FileTree). map.get w (c.args.project.now ++ c.args.target.now)) (reads_same _ _ _ c.stat.ensures.only_read)
