use Rattle.install_world.proofs.FinishSteps.{leaf_shown}
use Rattle.install_world.proofs.FoldersThere.{folder_shown, none_shown}
use Rattle.install_world.proofs.PartFinish.{shows_folder}
use Rattle.install_world.proofs.kept.find_folder.Goals as goal

pub returns-in-Folder-clause-folder : goal.returns-in-Folder-clause-folder
returns-in-Folder-clause-folder g c = λ t told. folder_shown t c.args.at.now c.in_ok-stat.field-0 (c.in_ok-stat.ensures.kind t told) c.in-Folder.is

pub returns-in_ok-copy-in-Absent-clause-fits : goal.returns-in_ok-copy-in-Absent-clause-fits
returns-in_ok-copy-in-Absent-clause-fits g c = λ t told there.
    let shown = shows_folder t c.args.at.now c.in_ok-stat.field-0 (c.in_ok-stat.ensures.kind t told) there in let absent = c.in-Absent.is in absurd cc

pub returns-in_ok-copy-in-Absent-clause-never_vanished : goal.returns-in_ok-copy-in-Absent-clause-never_vanished
returns-in_ok-copy-in-Absent-clause-never_vanished g c = λ t told there.
    absurd (none_shown t c.args.at.now c.in_ok-stat.field-0 (c.in_ok-stat.ensures.kind t told) c.in-Absent.is there)

pub returns-in_ok-copy-in_default-clause-other : goal.returns-in_ok-copy-in_default-clause-other
returns-in_ok-copy-in_default-clause-other g c = λ path is.
    let copied = c.in_ok-copy-in_default.ensures in
    (cc, λ t told. leaf_shown t c.args.at.now c.in_ok-stat.field-0 (c.in_ok-stat.ensures.kind t told) c.in_default.not-Folder c.in_default.not-Absent)

pub returns-in_ok-copy-in_default-clause-fits : goal.returns-in_ok-copy-in_default-clause-fits
returns-in_ok-copy-in_default-clause-fits g c = λ t told there.
    absurd (c.in_default.not-Folder (shows_folder t c.args.at.now c.in_ok-stat.field-0 (c.in_ok-stat.ensures.kind t told) there))
