use Rattle.vendor_journal.proofs.InstallSteps.{refused}
use Rattle.vendor_journal.proofs.install_laws.refused_installs_leave_the_project.Goals as goal

pub returns : goal.returns
returns c = refused
