use Rattle.install_world.proofs.FlightLaws.{staged_in_flight}
use Rattle.install_world.proofs.flight_laws.staged_jobs_are_in_flight.Goals as goal

pub returns : goal.returns
returns c = λ project surroundings old puts t journal. staged_in_flight project surroundings old puts t journal
