use Rattle.install_packages.proofs.InstalledLocks.{lock_is_met, lock_is_read, manifest_is_read}
use Rattle.install_packages.proofs.laws.installed_locks_are_met.Goals as goal

pub returns-clause-read : goal.returns-clause-read
returns-clause-read c = lock_is_read

pub returns-clause-met : goal.returns-clause-met
returns-clause-met c = lock_is_met

pub returns-clause-root : goal.returns-clause-root
returns-clause-root c = manifest_is_read
