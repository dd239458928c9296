use Rattle.std.proofs.Common.{◌∙◌, refl, sym}
use Rattle.install_choice.specs.Choosing.{IsChosenFor, IsChosenToInstall}
use Rattle.install_choice.specs.Sequences.{Is}
use Rattle.project_files.specs.ProjectManifest.{project_manifest_in}
use Rattle.install_choice.proofs.Documented.{manifest_documented}
use Rattle.install_choice.specs.Warnings.{warning_in}
use Rattle.install_choice.proofs.Warned.{unread_warns, warns_none}
use Rattle.install_choice.proofs.Sequencing.{exactly_refused, stopped, went}
use Rattle.install_choice.proofs.choosing.chosen_to_install.Goals as goal

pub returns-in-Ok-clause-told : goal.returns-in-Ok-clause-told
unfolding IsChosenToInstall
returns-in-Ok-clause-told g c = λ t told.
    let read = c.in-Ok.ensures.told t told in
    went (Is (project_manifest_in t c.args.project.now)) (IsChosenFor t c.args.project.now c.args.left.now.left) c.in-Ok.manifest (λ chosen. (chosen, c.chosen_for.new.left.left)) c.chosen_for.result
    (sym read) (c.chosen_for.ensures.told t (c.in-Ok.ensures.only_read.told ∙ told) (manifest_documented t c.args.project.now c.in-Ok.manifest read))

pub returns-in-Err-clause-told : goal.returns-in-Err-clause-told
unfolding IsChosenToInstall
returns-in-Err-clause-told g c = λ t told.
    stopped (Is (project_manifest_in t c.args.project.now)) (IsChosenFor t c.args.project.now c.args.left.now.left) c.in-Err.refusal
    (exactly_refused (project_manifest_in t c.args.project.now) c.in-Err.refusal (c.in-Err.ensures.told t told))

pub returns-in-Ok-clause-warned : goal.returns-in-Ok-clause-warned
unfolding warning_in
returns-in-Ok-clause-warned g c = λ t told. rw (c.in-Ok.ensures.told t told) (c.chosen_for.ensures.warned t (c.in-Ok.ensures.only_read.told ∙ told))

pub returns-in-Err-clause-warned : goal.returns-in-Err-clause-warned
unfolding warning_in
returns-in-Err-clause-warned g c = λ t told.
    unread_warns t c.args.project.now (project_manifest_in t c.args.project.now) c.in-Err.refusal (g.E.Sink.meaning c.args.errs.now) (c.in-Err.ensures.told t told) (λ free. (free, refl))

pub returns-in-Err-clause-may_warn : goal.returns-in-Err-clause-may_warn
returns-in-Err-clause-may_warn g c = warns_none (g.E.Sink.meaning c.args.errs.now)
