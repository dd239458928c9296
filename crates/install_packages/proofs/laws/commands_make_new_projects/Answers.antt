use Rattle.install_packages.proofs.DoneCommands.{installed, updated}
use Rattle.install_packages.proofs.laws.commands_make_new_projects.Goals as goal

pub returns-clause-install : goal.returns-clause-install
returns-clause-install c = installed

pub returns-clause-update : goal.returns-clause-update
returns-clause-update c = updated
