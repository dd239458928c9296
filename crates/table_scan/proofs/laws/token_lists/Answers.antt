use Rattle.table_scan.proofs.Spelled.{prefixes_spelled, classes_spelled, state_spelled}
use Rattle.table_scan.proofs.laws.token_lists.Goals as goal

pub returns-clause-prefixes : goal.returns-clause-prefixes
returns-clause-prefixes c = prefixes_spelled

pub returns-clause-classes : goal.returns-clause-classes
returns-clause-classes c = classes_spelled

pub returns-clause-states : goal.returns-clause-states
returns-clause-states c = state_spelled
