use Rattle.install_choice.proofs.MetLocks.{lock_met}
use Rattle.install_choice.proofs.laws.standing_locks_are_met.Goals as goal

pub returns : goal.returns
returns c = lock_met
