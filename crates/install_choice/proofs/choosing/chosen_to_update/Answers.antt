use Rattle.std.proofs.Common.{◌∙◌, sym}
use Rattle.install_choice.specs.Choosing.{IsChosenAnew, IsChosenToUpdate}
use Rattle.install_choice.specs.Sequences.{Is}
use Rattle.project_files.specs.ProjectManifest.{project_manifest_in}
use Rattle.install_choice.proofs.Documented.{manifest_documented}
use Rattle.install_choice.proofs.Sequencing.{exactly_refused, stopped, went}
use Rattle.install_choice.proofs.choosing.chosen_to_update.Goals as goal

pub returns-in-Ok-clause-told : goal.returns-in-Ok-clause-told
unfolding IsChosenToUpdate
returns-in-Ok-clause-told g c = λ t told.
    let read = c.in-Ok.ensures.told t told in
    went (Is (project_manifest_in t c.args.project.now)) (IsChosenAnew t c.args.project.now c.args.left.now.left) c.in-Ok.manifest (λ chosen. (chosen, c.chosen_by_plan.new.left.left)) c.chosen_by_plan.result
    (sym read) (c.chosen_by_plan.ensures.told t (c.in-Ok.ensures.only_read.told ∙ told) (manifest_documented t c.args.project.now c.in-Ok.manifest read))

pub returns-in-Err-clause-told : goal.returns-in-Err-clause-told
unfolding IsChosenToUpdate
returns-in-Err-clause-told g c = λ t told.
    stopped (Is (project_manifest_in t c.args.project.now)) (IsChosenAnew t c.args.project.now c.args.left.now.left) c.in-Err.refusal
    (exactly_refused (project_manifest_in t c.args.project.now) c.in-Err.refusal (c.in-Err.ensures.told t told))
