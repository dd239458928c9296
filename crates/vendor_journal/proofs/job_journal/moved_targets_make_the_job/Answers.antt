use Rattle.vendor_journal.proofs.JobMoves.{moved_is_job}
use Rattle.vendor_journal.proofs.job_journal.moved_targets_make_the_job.Goals as goal

pub returns : goal.returns
returns c = λ project t parts old path. moved_is_job project t old path parts
