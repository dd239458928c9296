use Rattle.install_packages.proofs.NewProjects.{claimed_file}
use Rattle.install_packages.proofs.Unrolled.{install_unrolled, update_unrolled}
use Rattle.install_packages.proofs.laws.commands_install_what_they_choose.Goals as goal

pub returns-clause-install : goal.returns-clause-install
returns-clause-install c = install_unrolled

pub returns-clause-update : goal.returns-clause-update
returns-clause-update c = update_unrolled

pub returns-clause-claimed : goal.returns-clause-claimed
returns-clause-claimed c = claimed_file
