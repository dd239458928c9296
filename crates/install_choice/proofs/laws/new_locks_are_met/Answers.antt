use Rattle.install_choice.proofs.NewLocksMet.{new_lock_met, new_lock_read}
use Rattle.install_choice.proofs.laws.new_locks_are_met.Goals as goal

pub returns-clause-met : goal.returns-clause-met
returns-clause-met c = new_lock_met

pub returns-clause-read : goal.returns-clause-read
returns-clause-read c = new_lock_read
