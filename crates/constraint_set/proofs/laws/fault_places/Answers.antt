use Rattle.constraint_set.proofs.FaultPlaces.{fault_told, fault_meant}
use Rattle.constraint_set.proofs.Completed.{place_begins}
use Rattle.constraint_set.proofs.laws.fault_places.Goals as goal

pub returns-clause-told : goal.returns-clause-told
returns-clause-told c = fault_told

pub returns-clause-meant : goal.returns-clause-meant
returns-clause-meant c = fault_meant

pub returns-clause-begins : goal.returns-clause-begins
returns-clause-begins c = place_begins
