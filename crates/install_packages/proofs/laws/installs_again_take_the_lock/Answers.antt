use Rattle.install_packages.proofs.InstalledAgain.{none_warned, same_taken}
use Rattle.install_packages.proofs.laws.installs_again_take_the_lock.Goals as goal

pub returns-clause-taken : goal.returns-clause-taken
returns-clause-taken c = same_taken

pub returns-clause-unwarned : goal.returns-clause-unwarned
returns-clause-unwarned c = none_warned
