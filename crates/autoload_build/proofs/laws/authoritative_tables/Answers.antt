use Rattle.autoload_build.proofs.LookedUp.{authoritative, same_mapped}
use Rattle.autoload_build.proofs.ScanReach.{in_reach}
use Rattle.autoload_build.proofs.laws.authoritative_tables.Goals as goal

pub returns-clause-mapped : goal.returns-clause-mapped
returns-clause-mapped c = authoritative

pub returns-clause-same : goal.returns-clause-same
returns-clause-same c = same_mapped

pub returns-clause-in_reach : goal.returns-clause-in_reach
returns-clause-in_reach c = in_reach
