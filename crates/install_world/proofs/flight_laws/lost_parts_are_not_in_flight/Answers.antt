use Rattle.install_world.proofs.FlightLaws.{lost_is_done}
use Rattle.install_world.proofs.flight_laws.lost_parts_are_not_in_flight.Goals as goal

pub returns : goal.returns
returns c = λ project surroundings old new t journal stands small number target part stays none other flight.
    other (lost_is_done project surroundings old new t journal stands small flight number target part stays none)
