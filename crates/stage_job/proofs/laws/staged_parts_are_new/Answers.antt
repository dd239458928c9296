use Rattle.stage_job.proofs.JobResults.{staged_is_new}
use Rattle.stage_job.proofs.laws.staged_parts_are_new.Goals as goal

pub returns : goal.returns
returns c = λ project t staged parts number part old below. staged_is_new project t staged parts number part old below
