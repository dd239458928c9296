use Rattle.install_world.proofs.FinishAlike.{putting_finishes_alike, taking_finishes_alike}
use Rattle.install_world.proofs.flight_laws.moves_keep_what_is_finished.Goals as goal

pub returns-clause-taken : goal.returns-clause-taken
returns-clause-taken c = λ project t journal stands small number target part why path in_project.
    taking_finishes_alike project t journal stands small number target part why path in_project

pub returns-clause-put : goal.returns-clause-put
returns-clause-put c = λ project t journal stands small number target part stays there path in_project.
    putting_finishes_alike project t journal stands small number target part stays there path in_project
