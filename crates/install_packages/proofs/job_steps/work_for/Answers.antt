use Rattle.std.proofs.Common.{Ok, ap}
use Rattle.std.proofs.lemmas.Result.{err_from_is_err_and}
use Rattle.install_packages.specs.InstallParts.{IsJob}
use Rattle.install_packages.specs.Installing.{IsWorkOf}
use Rattle.install_choice.proofs.Sequencing.{stopped}
use Rattle.install_packages.proofs.Works.{parents_made, work_made}
use Rattle.install_packages.proofs.job_steps.work_for.Goals as goal

pub returns-in_err-job-clause-told : goal.returns-in_err-job-clause-told
returns-in_err-job-clause-told g c = λ t told.
    let failed = err_from_is_err_and c.from_residual.result c.from_residual.ensures.1 in
    rw (failed.1, failed.2) (stopped (IsJob t c.args.project.now c.args.wanted.now c.args.left.now.left) (IsWorkOf c.args.members.now c.args.new.now) c.in_err-job.field-0.0 (c.in_err-job.ensures.told t told))

pub returns-clause-told : goal.returns-clause-told
returns-clause-told g c = λ t told. (Ok (c.in_ok-job.job, c.job_for.new.left.left), c.in_ok-job.ensures.told t told, ap (λ work. Ok (work, c.job_for.new.left.left)) c.in_ok-work_of.ensures)

pub returns-clause-work : goal.returns-clause-work
returns-clause-work g c = work_made c.args.project.now c.args.members.now c.args.new.now c.in_ok-job.job c.in_ok-work_of.field-0 c.in_ok-work_of.ensures c.in_ok-job.ensures.parts c.requires.first

pub returns-clause-parents : goal.returns-clause-parents
returns-clause-parents g c = λ t told. parents_made c.args.project.now t c.args.members.now c.args.new.now c.in_ok-job.job c.in_ok-work_of.field-0 c.in_ok-work_of.ensures (c.in_ok-job.ensures.parents t told)
