use Rattle.install_choice.proofs.Updates.{without_lock}
use Rattle.install_choice.proofs.laws.installs_without_a_lock_update.Goals as goal

pub returns : goal.returns
returns c = without_lock
