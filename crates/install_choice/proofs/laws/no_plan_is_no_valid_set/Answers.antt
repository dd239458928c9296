use Rattle.install_choice.proofs.Updates.{no_plan, no_valid_set}
use Rattle.install_choice.proofs.laws.no_plan_is_no_valid_set.Goals as goal

pub returns-clause-none : goal.returns-clause-none
returns-clause-none c = no_valid_set

pub returns-clause-only : goal.returns-clause-only
returns-clause-only c = no_plan
