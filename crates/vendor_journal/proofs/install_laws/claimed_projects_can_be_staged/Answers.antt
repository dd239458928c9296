use Rattle.vendor_journal.proofs.InstallSteps.{claimed}
use Rattle.vendor_journal.proofs.install_laws.claimed_projects_can_be_staged.Goals as goal

pub returns : goal.returns
returns c = claimed
