use Rattle.install_world.proofs.FlightLaws.{all_done_is_new, finished_is_either, finished_is_new}
use Rattle.install_world.proofs.flight_laws.what_is_in_flight_is_finished.Goals as goal

pub returns-clause-journal : goal.returns-clause-journal
returns-clause-journal c = λ project surroundings old new files t journal. finished_is_new project surroundings old new files t journal

pub returns-clause-none : goal.returns-clause-none
returns-clause-none c = λ project surroundings old new files t. finished_is_either project surroundings old new files t

pub returns-clause-done : goal.returns-clause-done
returns-clause-done c = λ project surroundings old new t journal. all_done_is_new project surroundings old new t journal
