use Rattle.pkg_pool.proofs.Pooled.{pooled}
use Rattle.pkg_pool.proofs.laws.pools_have_what_counts.Goals as goal

pub returns : goal.returns
returns c = pooled
