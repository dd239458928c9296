use Rattle.package_moves.proofs.WholeResults.{makes_wanted}
use Rattle.package_moves.proofs.laws.jobs_make_the_wanted.Goals as goal

pub returns : goal.returns
returns c = λ project t wanted parts path tree are all can job. makes_wanted project t wanted path tree are all parts can job
