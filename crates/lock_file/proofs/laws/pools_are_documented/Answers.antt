use Rattle.lock_file.proofs.LoadedPools.{pool_documented}
use Rattle.lock_file.proofs.laws.pools_are_documented.Goals as goal

pub returns : goal.returns
returns c = pool_documented
