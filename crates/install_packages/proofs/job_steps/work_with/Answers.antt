use Rattle.std.proofs.lemmas.Result.{err_from_is_err_and}
use Rattle.install_packages.specs.InstallParts.{AreWantedParts}
use Rattle.install_packages.specs.Installing.{IsWorkFor}
use Rattle.install_choice.proofs.Sequencing.{stopped, went}
use Rattle.install_packages.proofs.job_steps.work_with.Goals as goal

pub returns-in_err-wanted-clause-told : goal.returns-in_err-wanted-clause-told
returns-in_err-wanted-clause-told g c = λ t told.
    let failed = err_from_is_err_and c.from_residual.result c.from_residual.ensures.1 in
    rw (failed.1, failed.2) (stopped (AreWantedParts c.args.project.now c.args.members.now c.args.new.now.tables c.args.chosen.now c.args.dev)
    (IsWorkFor t c.args.project.now c.args.members.now c.args.new.now c.args.left.now.left) c.in_err-wanted.field-0.0 c.in_err-wanted.ensures.told)

pub returns-clause-told : goal.returns-clause-told
returns-clause-told g c = λ t told.
    went (AreWantedParts c.args.project.now c.args.members.now c.args.new.now.tables c.args.chosen.now c.args.dev) (IsWorkFor t c.args.project.now c.args.members.now c.args.new.now c.args.left.now.left)
    c.in_ok-wanted.wanted.items (λ work. (work, c.work_for.new.left.left)) c.work_for.result c.in_ok-wanted.ensures.told (rw c.as_slice.ensures.value at (c.work_for.ensures.told t told))
