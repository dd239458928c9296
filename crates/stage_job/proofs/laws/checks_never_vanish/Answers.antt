use Rattle.stage_job.proofs.NeverVanishes.{job_stands}
use Rattle.stage_job.proofs.laws.checks_never_vanish.Goals as goal

pub returns : goal.returns
returns c = job_stands
