use Rattle.version_norm.proofs.NextVersions.{next_above, none_between}
use Rattle.version_norm.proofs.laws.next_versions.Goals as goal

pub returns-clause-above : goal.returns-clause-above
returns-clause-above c = next_above

pub returns-clause-none_between : goal.returns-clause-none_between
returns-clause-none_between c = none_between
