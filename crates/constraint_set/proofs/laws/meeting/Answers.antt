use Rattle.constraint_set.proofs.CommonVersions.{common_meets, exactly_meets}
use Rattle.constraint_set.proofs.laws.meeting.Goals as goal

pub returns-clause-exact : goal.returns-clause-exact
returns-clause-exact c = exactly_meets

pub returns-clause-common : goal.returns-clause-common
returns-clause-common c = common_meets
