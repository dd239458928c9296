use Rattle.constraint_set.proofs.CommonPoints.{common_point, meets_at, at_version}
use Rattle.constraint_set.proofs.laws.common_points.Goals as goal

pub returns-clause-shared : goal.returns-clause-shared
returns-clause-shared c = common_point

pub returns-clause-meets : goal.returns-clause-meets
returns-clause-meets c = meets_at

pub returns-clause-versions : goal.returns-clause-versions
returns-clause-versions c = at_version
