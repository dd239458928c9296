use Rattle.pkg_pool.proofs.Within.{within}
use Rattle.install_sources.proofs.sources.is_within.Goals as goal

pub returns : goal.returns
returns c = within c.args.folder.now c.args.at.now c.starts_with.result c.starts_with.ensures
