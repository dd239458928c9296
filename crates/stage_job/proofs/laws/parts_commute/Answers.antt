use Rattle.stage_job.proofs.JobResults.{commute}
use Rattle.stage_job.proofs.laws.parts_commute.Goals as goal

pub returns : goal.returns
returns c = commute
