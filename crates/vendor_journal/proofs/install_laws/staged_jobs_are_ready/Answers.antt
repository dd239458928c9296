use Rattle.tree_dev.specs.Projects.{file_at}
use Rattle.vendor_journal.proofs.InstallSteps.{not_begun, ready}
use Rattle.vendor_journal.proofs.JobMoves.{moved_is_job}
use Rattle.vendor_journal.proofs.install_laws.staged_jobs_are_ready.Goals as goal

pub returns-clause-ready : goal.returns-clause-ready
returns-clause-ready c = λ project start t staged begun now parts generation prepared each steady alone job made.
    ready project start begun now each steady t staged parts generation prepared alone job made

pub returns-clause-through : goal.returns-clause-through
returns-clause-through c = λ project start t begun now parts generation each steady. not_begun project start begun now each steady t parts generation

pub returns-clause-new : goal.returns-clause-new
returns-clause-new c = λ project start t parts generation path. moved_is_job project t (file_at start) path parts
