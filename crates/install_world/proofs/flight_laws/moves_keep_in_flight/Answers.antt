use Rattle.install_world.proofs.FlightLaws.{taking_keeps, putting_keeps}
use Rattle.install_world.proofs.flight_laws.moves_keep_in_flight.Goals as goal

pub returns-clause-taken : goal.returns-clause-taken
returns-clause-taken c = λ project surroundings old new t journal stands small flight. taking_keeps project surroundings old new t journal stands small flight

pub returns-clause-put : goal.returns-clause-put
returns-clause-put c = λ project surroundings old new t journal stands small flight. putting_keeps project surroundings old new t journal stands small flight
