use Rattle.vendor_journal.proofs.InstallSteps.{stays_new}
use Rattle.vendor_journal.proofs.install_laws.committed_installs_stay.Goals as goal

pub returns : goal.returns
returns c = stays_new
