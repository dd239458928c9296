-- What is known of the repositories of a root.
use Rattle.std.proofs.Common.{List, [], ◌∷◌}
use Rattle.std.specs.List.{AllByRecursion}
use Rattle.manifest_read.specs.WellFormed.{IsRepository}
use Rattle.manifest_read.specs.declared.types.Repository.{Repository}
use Rattle.pkg_pool.specs.Pools.{HasPaths}

pub paths_of : (repositories : List Repository) → AllByRecursion IsRepository repositories → AllByRecursion HasPaths repositories
paths_of [] all = tt
paths_of (repository ∷ repositories) all = (all.0.segments, paths_of repositories all.1)
