use Rattle.install_choice.proofs.Updates.{update_locks}
use Rattle.install_choice.proofs.laws.updates_take_first_choices.Goals as goal

pub returns : goal.returns
returns c = update_locks
