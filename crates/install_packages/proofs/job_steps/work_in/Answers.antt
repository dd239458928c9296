use Rattle.std.proofs.Common.{◌∙◌}
use Rattle.std.proofs.lemmas.Result.{err_from_is_err_and}
use Rattle.install_packages.specs.Installing.{IsWorkFrom}
use Rattle.install_sources.specs.Sources.{AreMembers}
use Rattle.install_choice.proofs.Sequencing.{stopped, went}
use Rattle.install_packages.proofs.job_steps.work_in.Goals as goal

pub returns-in_err-members-clause-told : goal.returns-in_err-members-clause-told
returns-in_err-members-clause-told g c = λ t told.
    let failed = err_from_is_err_and c.from_residual.result c.from_residual.ensures.1 in
    rw (failed.1, failed.2) (stopped (AreMembers t c.args.project.now c.args.chosen.now.lock c.args.setting.dev)
    (IsWorkFrom t c.args.project.now c.args.chosen.now c.args.setting c.args.left.now.left) c.in_err-members.field-0.0 (c.in_err-members.ensures.told t told))

pub returns-clause-told : goal.returns-clause-told
returns-clause-told g c = λ t told.
    went (AreMembers t c.args.project.now c.args.chosen.now.lock c.args.setting.dev) (IsWorkFrom t c.args.project.now c.args.chosen.now c.args.setting c.args.left.now.left)
    c.in_ok-members.members.items (λ work. (work, c.work_from.new.left.left)) c.work_from.result (c.in_ok-members.ensures.told t told)
    (rw c.as_slice.ensures.value at (c.work_from.ensures.told t (c.in_ok-members.ensures.only_read.told ∙ told)))
