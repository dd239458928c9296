use Rattle.pkg_pool.proofs.Within.{within}
use Rattle.pkg_pool.proofs.expand.is_within.Goals as goal

pub returns : goal.returns
returns c = within c.args.folder.now c.args.path.now c.starts_with.result c.starts_with.ensures
