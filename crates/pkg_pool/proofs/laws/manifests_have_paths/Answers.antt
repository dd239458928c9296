use Rattle.pkg_pool.proofs.Roots.{paths_of}
use Rattle.pkg_pool.proofs.laws.manifests_have_paths.Goals as goal

pub returns : goal.returns
returns c = paths_of c.args._root.now.repositories c.requires.repositories
