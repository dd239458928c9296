use Rattle.vendor_journal.proofs.JobMoves.{staged_targets}
use Rattle.vendor_journal.proofs.job_journal.staged_jobs_have_targets.Goals as goal

pub returns : goal.returns
returns c = λ project t staged parts is. staged_targets project t staged parts is
