use Rattle.install_world.proofs.parts.kept_if_taken.Goals as goal

pub returns-then-taken-clause-taken : goal.returns-then-taken-clause-taken
returns-then-taken-clause-taken g c = λ some t told project number target are. c.in_ok-taken.ensures.taken c.if-taken.true t told project number target are

pub returns-else-taken-clause-found : goal.returns-else-taken-clause-found
returns-else-taken-clause-found g c = λ t told. c.in_ok-taken.ensures.room c.if-taken.false t told
